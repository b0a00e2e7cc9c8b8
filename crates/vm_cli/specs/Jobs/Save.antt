-- The job of `save`: a machine boots, runs its first phase, is saved at that instant while it runs its second phase, and is
-- reported (this project's own, docs/COMMAND_LINE.md).
use Rattle.std.specs.Prelude.{◌≡◌, ◌⊎◌, ◌≤◌, ℕ, List, [], ◌∷◌, Option, Some, None, Ok, IfSome, IsSome}
use Rattle.bg_run.specs.Phase.{IsBounded, RunsPhase}
use Rattle.bg_saver.specs.Begin.{Begins, FailsToBegin, IsFirstByte, IsNotEmpty}
use Rattle.bg_saver.specs.Saver.{SaverData}
use Rattle.bg_saver.specs.Writes.{LeavesSince}
use Rattle.bg_saver.specs.declared.save_end.SaveEnd.{SaveEnd}
use Rattle.bg_saver.specs.declared.save_end.SaveEnd.TheVariants.{Complete, Failed}
use Rattle.bg_saver.specs.declared.save_job.PhaseOut.{PhaseOut}
use Rattle.file_plan.specs.Layout.{file_of}
use Rattle.flat_machine.specs.Machine.{IsMachine, MachineData, Rest, boot}
use Rattle.flat_machine.specs.Run.{Phase, rounds, run}
use Rattle.loader.specs.Loaded.{loaded}
use Rattle.medium.specs.Count.{HasRisen, counted}
use Rattle.medium.specs.Crash.{Only}
use Rattle.medium.specs.States.{FileState, SinkState, SourceState}
use Rattle.ram_block.specs.Shape.{ShapeData}
use Rattle.sliced_run.specs.Phase.{IsPhaseOf}
use Rattle.vm_cli.specs.Images.{IsCrashSafe, IsEmptyFile}
use Rattle.vm_cli.specs.Jobs.Boot.{ReadsImage, boot_step}
use Rattle.vm_cli.specs.Jobs.Common.{FaultPrinting, IsFilledWith, Printing, Takes, TakesReport, print_step, write_output_step}
use Rattle.vm_cli.specs.Outside.{End, Outside}
use Rattle.vm_cli.specs.Steps.{Step}
use Rattle.vm_cli.specs.declared.answer.Fault.{Fault}
use Rattle.vm_cli.specs.declared.answer.Fault.TheVariants as faults
use Rattle.vm_cli.specs.Served.{OnThreads, SavePhases, Sliced, Way}
use Rattle.vm_report.specs.Report.{report}

-- ---- Steps

-- those of a save behind the boot
abbrev pub save_machine_steps : FileState → List Step
save_machine_steps output = write_output_step output ∷ print_step ∷ []

abbrev pub save_steps : ShapeData → SourceState → FileState → List Step
save_steps shape image output = boot_step shape image ∷ save_machine_steps output

-- ---- The instant

-- the order of a first phase is that of rounds where it goes by them; on threads any order is one
abbrev pub IsOrderedBy : Way → MachineData → ℕ → List ℕ → Type 0
IsOrderedBy (Sliced turns) b stop first = first ≡ rounds b stop
IsOrderedBy OnThreads b stop first = Unit {0}

-- the machine b, which boots, ran a phase of so many instructions, in this order, and became the machine of the instant
pub record IsInstant (way : Way) (b : MachineData) (stop : ℕ) (first : List ℕ) (i : MachineData) : Type 0 where
  pub ordered : IsOrderedBy way b stop first
  pub ran : run b first ≡ Some i
  pub shape : i.shape ≡ b.shape
  pub phase : Phase b stop first
  pub rest : Rest i
  pub limits : IsMachine i

-- ---- A save that ran its second phase

-- the phase of n instructions from machine i on, on threads, with a save whose counts are bounded
pub record RunsBeside (i : MachineData) (n : ℕ) (out : PhaseOut) : Type 0 where
  pub phase : RunsPhase i n out
  pub bounds : IsBounded i out

-- the phase of n instructions from machine i on, and what it counted, by the way that it goes
abbrev pub RunsBy : Way → MachineData → ℕ → PhaseOut → Type 0
RunsBy (Sliced turns) i n out = IsPhaseOf i n turns out
RunsBy OnThreads i n out = RunsBeside i n out

-- the second phase from the instant on, in this order; its save ended so
pub record RunsOn (i : MachineData) (phases : SavePhases) (ended : SaveEnd) (second : List ℕ) (out : PhaseOut) : Type 0 where
  pub phase : RunsBy phases.way i phases.run out
  pub saved : out.saved ≡ Some ended
  pub order : second ≡ out.order.members

-- what is reported of it
abbrev pub report_of : SaveEnd → PhaseOut → List ℕ
report_of ended out = report (Some (record { end = ended; blocked = out.blocked; counts = out.counts })) out.machine

-- The output, which was empty, holds the file of the instant, durably, and the loader gives the instant back.
pub record WritesInstant (i : MachineData) (old new : FileState) : Type 0 where
  pub written : IsFilledWith (file_of i) old new
  pub durable : IfSome old.told (λ _. Only (file_of i) new.may_leave)
  pub synced : new.syncs ≡ counted (counted (counted old.syncs))
  pub never_falls : old.faults ≤ new.faults
  pub loads_back : loaded (file_of i) ≡ Ok i

-- A crash at any moment since left what one at that moment could, a file that is refused, or the instant's, where the
-- output was empty.
pub record LeavesImages (i : MachineData) (old new : FileState) : Type 0 where
  pub later : old.moment ≤ new.moment
  pub safe : IsCrashSafe (Some i) old new

abbrev pub KeepsImages : MachineData → FileState → FileState → Type 0
KeepsImages i old new = IsEmptyFile old → LeavesImages i old new

-- the machine b was saved, completely
pub record SavesMachine (b : MachineData) (phases : SavePhases) (old new : FileState) (end : End) : Type 0 where
  pub instant : MachineData
  pub out : PhaseOut
  pub first : IsInstant phases.way b phases.stop end.first instant
  pub second : RunsOn instant phases Complete end.second out
  pub file : WritesInstant instant old new
  pub crash : KeepsImages instant old new

-- A call on the output failed while the second phase ran, behind the first sync: the phase came to its end without the
-- save.
pub record FailsMachine (b : MachineData) (phases : SavePhases) (old new : FileState) (end : End) : Type 0 where
  pub fault : end.fault ≡ Some faults.FileFault
  pub instant : MachineData
  pub out : PhaseOut
  pub first : IsInstant phases.way b phases.stop end.first instant
  pub second : RunsOn instant phases Failed end.second out
  pub rose : HasRisen old.faults new.faults
  pub synced : counted old.syncs ≤ new.syncs
  pub crash : KeepsImages instant old new

-- and was reported
pub record ReportsFailed (cut : FaultPrinting) (b : MachineData) (phases : SavePhases) (old new : FileState) (console console_now : SinkState) (end : End) : Type 0 where
  pub failed : FailsMachine b phases old new end
  pub printed : cut faults.FileFault (report_of Failed failed.out) console console_now

-- ---- A save that ended before its second phase

-- nothing was run, and no call was made on the output
pub record EndsBeforePhases (same_output : Type 0) (end : End) : Type 0 where
  pub first : end.first ≡ []
  pub second : end.second ≡ []
  pub output : same_output

-- what the output holds where the machine stood at the instant already, by the fault: at most the shut gate byte was
-- written, and that only where it was empty
abbrev pub LeavesAtInstant : MachineData → (same : Type 0) → FileState → FileState → Option Fault → Type 0
LeavesAtInstant i same old new (Some faults.FileFault) = FailsToBegin old new
LeavesAtInstant i same old new (Some (faults.NotEmpty len)) = IsNotEmpty len old new
LeavesAtInstant i same old new (Some faults.NoMemory) = same ⊎ ((d : SaverData) × Begins i old new d)
LeavesAtInstant i same old new _ = ⊥

-- the first phase had ended
pub record EndsAtInstant (b : MachineData) (phases : SavePhases) (same_output : Type 0) (old new : FileState) (end : End) : Type 0 where
  pub instant : MachineData
  pub first : IsInstant phases.way b phases.stop end.first instant
  pub second : end.second ≡ []
  pub output : LeavesAtInstant instant same_output old new end.fault
  pub crash : KeepsImages instant old new

-- the faults that may come before the first phase has ended
abbrev pub IsBeforePhases : Option Fault → Type 0
IsBeforePhases (Some (faults.Usage index kind)) = Unit {0}
IsBeforePhases (Some (faults.ImageRefused refusal)) = Unit {0}
IsBeforePhases (Some faults.ImageFault) = Unit {0}
IsBeforePhases (Some faults.NoMemory) = Unit {0}
IsBeforePhases _ = ⊥

-- the machine b wasn't saved: the end came before its first phase ended, or at the instant
abbrev pub LeavesMachine : MachineData → SavePhases → Type 0 → FileState → FileState → End → Type 0
LeavesMachine b phases same_output old new end =
    (IsBeforePhases end.fault × EndsBeforePhases same_output end) ⊎ EndsAtInstant b phases same_output old new end

-- ---- The parts of the work, one by one

-- the save of machine i, which was stopped, began on an output that was empty, and each image since has at most its gate byte
pub record HasBegun (i : MachineData) (old new : FileState) (stopped : MachineData) (d : SaverData) : Type 0 where
  pub same : stopped ≡ i
  pub begins : Begins i old new d
  pub told : IfSome old.told (λ _. IsSome new.told)
  pub images : Only [] old.may_leave → LeavesSince old new IsFirstByte

-- what the output holds behind the second phase, by how the save ended
abbrev pub LeavesSaved : MachineData → Option SaveEnd → FileState → FileState → Type 0
LeavesSaved i (Some Complete) old new = WritesInstant i old new
LeavesSaved i (Some Failed) old new = HasRisen old.faults new.faults × (counted old.syncs ≤ new.syncs)
LeavesSaved i None old new = ⊥

-- how the job ends with the report of a save that ended so, and what stands on the console then
abbrev pub EndsReported : Option SaveEnd → PhaseOut → Option Fault → SinkState → SinkState → Type 0
EndsReported (Some Complete) out None old new = Takes None (report_of Complete out) old new
EndsReported (Some Complete) out (Some faults.ConsoleFault) old new = Takes (Some faults.ConsoleFault) (report_of Complete out) old new × HasRisen old.faults new.faults
EndsReported (Some Failed) out (Some faults.FileFault) old new = TakesReport faults.FileFault (report_of Failed out) old new
EndsReported ended out _ old new = ⊥

-- ---- The job

-- its work came to its end
pub record Saves (prints : Printing) (shape : ShapeData) (input : List ℕ) (phases : SavePhases) (old new : Outside) (end : End) : Type 0 where
  pub image : List ℕ
  pub taken : ReadsImage shape image old.image new.image
  pub saved : SavesMachine (boot shape image input) phases old.output new.output end
  pub printed : prints end.fault (report_of Complete saved.out) old.console new.console

-- its save failed
pub record FailsToSave (cut : FaultPrinting) (shape : ShapeData) (input : List ℕ) (phases : SavePhases) (old new : Outside) (end : End) : Type 0 where
  pub image : List ℕ
  pub taken : ReadsImage shape image old.image new.image
  pub reported : ReportsFailed cut (boot shape image input) phases old.output new.output old.console new.console end

-- it ended before its second phase: at its image, or with the machine
abbrev pub EndsEarly : ShapeData → List ℕ → SavePhases → SourceState → SourceState → Type 0 → FileState → FileState → End → Type 0
EndsEarly shape input phases image image_now same_output old new end =
    (IsBeforePhases end.fault × EndsBeforePhases same_output end)
    ⊎ ((bytes : List ℕ) × ReadsImage shape bytes image image_now × EndsAtInstant (boot shape bytes input) phases same_output old new end)
