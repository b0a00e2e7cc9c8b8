-- A save that ended at its image, or went on with the machine that boots with it.
use Rattle.std.proofs.Common.{◌≡◌, ◌⊎◌, inl, inr, ℕ, List, Option, Some, sym, subst}
use Rattle.bg_saver.specs.declared.save_end.SaveEnd.TheVariants.{Complete}
use Rattle.flat_machine.specs.Machine.{MachineData, boot}
use Rattle.medium.specs.States.{FileState, SinkState, SourceState}
use Rattle.ram_block.specs.Shape.{ShapeData}
use Rattle.vm_cli.specs.Jobs.Common.{Takes, TakesReport}
use Rattle.vm_cli.specs.Jobs.Boot.{BootsImage, IsOfImage, ReadsImage}
use Rattle.vm_cli.specs.Jobs.Save.{EndsAtInstant, EndsEarly, IsBeforePhases, LeavesMachine, ReportsFailed, SavesMachine, report_of}
use Rattle.vm_cli.specs.Outside.{End}
use Rattle.vm_cli.specs.Served.{SavePhases}
use Rattle.vm_cli.specs.Work.{IsNotEmpty, IsUsage, IsWorkDone}
use Rattle.vm_cli.specs.declared.answer.Fault.{Fault}
use Rattle.vm_cli.specs.declared.answer.Fault.TheVariants as faults

-- ---- A fault of the image

image_undone : (fault : Fault) (P : Type 0) → IsOfImage fault → IsWorkDone (Some fault) → P
image_undone faults.ConsoleFault P of done = absurd of
image_undone _ P of done = absurd done

image_early : (fault : Fault) → IsOfImage fault → IsBeforePhases (Some fault)
image_early (faults.ImageRefused refusal) of = tt
image_early faults.ImageFault of = tt
image_early faults.NoMemory of = tt
image_early _ of = absurd of

image_words : (fault : Fault) → IsOfImage fault → IsUsage (Some fault) → ⊥
image_words (faults.Usage index kind) of usage = of
image_words _ of usage = usage

image_some : (fault : Fault) (P : Type 0) → IsOfImage fault → IsNotEmpty (Some fault) → P
image_some (faults.NotEmpty len) P of full = absurd of
image_some _ P of full = absurd full

pub undone_at_image : (end : Option Fault) (fault : Fault) (P : Type 0) → end ≡ Some fault → IsOfImage fault → IsWorkDone end → P
undone_at_image end fault P is of done = image_undone fault P of (subst IsWorkDone is done)

pub early_at_image : (end : Option Fault) (fault : Fault) → end ≡ Some fault → IsOfImage fault → IsBeforePhases end
early_at_image end fault is of = subst IsBeforePhases (sym is) (image_early fault of)

pub words_at_image : (end : Option Fault) (fault : Fault) → end ≡ Some fault → IsOfImage fault → IsUsage end → ⊥
words_at_image end fault is of usage = image_words fault of (subst IsUsage is usage)

pub some_at_image : (end : Option Fault) (fault : Fault) (P : Type 0) → end ≡ Some fault → IsOfImage fault → IsNotEmpty end → P
some_at_image end fault P is of full = image_some fault P of (subst IsNotEmpty is full)

-- ---- The machine that boots

pub image_done : (shape : ShapeData) (serial : List ℕ) (phases : SavePhases) (image image_now : SourceState) (old new : FileState) (console console_now : SinkState) (end : End) (b : MachineData)
    → BootsImage shape serial image image_now b → (saved : SavesMachine b phases old new end) × Takes end.fault (report_of Complete saved.out) console console_now
    → (bytes : List ℕ) × ReadsImage shape bytes image image_now × (saved : SavesMachine (boot shape bytes serial) phases old new end) × Takes end.fault (report_of Complete saved.out) console console_now
image_done shape serial phases image image_now old new console console_now end b boots did =
    let now : (saved : SavesMachine (boot shape boots.0 serial) phases old new end) × Takes end.fault (report_of Complete saved.out) console console_now =
    subst (λ (m : MachineData). (saved : SavesMachine m phases old new end) × Takes end.fault (report_of Complete saved.out) console console_now) boots.2 did in
    (boots.0, boots.1, now.0, now.1)

early_with : (shape : ShapeData) (serial : List ℕ) (phases : SavePhases) (image image_now : SourceState) (same : Type 0) (old new : FileState) (end : End) (b : MachineData)
    → BootsImage shape serial image image_now b → LeavesMachine b phases same old new end → EndsEarly shape serial phases image image_now same old new end
early_with shape serial phases image image_now same old new end b boots (inl before) = inl before
early_with shape serial phases image image_now same old new end b boots (inr at) =
    inr (boots.0, boots.1, subst (λ (m : MachineData). EndsAtInstant m phases same old new end) boots.2 at)

pub image_failed : (shape : ShapeData) (serial : List ℕ) (phases : SavePhases) (image image_now : SourceState) (same silent : Type 0) (old new : FileState) (console console_now : SinkState) (end : End) (b : MachineData)
    → BootsImage shape serial image image_now b → (LeavesMachine b phases same old new end × silent) ⊎ ReportsFailed TakesReport b phases old new console console_now end
    → (EndsEarly shape serial phases image image_now same old new end × silent)
    ⊎ ((bytes : List ℕ) × ReadsImage shape bytes image image_now × ReportsFailed TakesReport (boot shape bytes serial) phases old new console console_now end)
image_failed shape serial phases image image_now same silent old new console console_now end b boots (inl early) = inl (early_with shape serial phases image image_now same old new end b boots early.0, early.1)
image_failed shape serial phases image image_now same silent old new console console_now end b boots (inr reported) =
    inr (boots.0, boots.1, subst (λ (m : MachineData). ReportsFailed TakesReport m phases old new console console_now end) boots.2 reported)
