-- The job of `record`: the machine of an image runs a phase on threads, the order of its events is written to the output,
-- and the machine is reported (this project's own, docs/COMMAND_LINE.md).
use Rattle.std.specs.Prelude.{◌≡◌, ◌⊎◌, ℕ, List, [], ◌∷◌, Option, Some, None}
use Rattle.flat_machine.specs.Machine.{MachineData, boot}
use Rattle.medium.specs.Count.{HasRisen, counted}
use Rattle.medium.specs.States.{FileState, SourceState}
use Rattle.order_log.specs.Text.{text_of}
use Rattle.ram_block.specs.Shape.{ShapeData}
use Rattle.vm_cli.specs.Jobs.Boot.{ReadsImage, boot_step}
use Rattle.vm_cli.specs.Jobs.Common.{IsDurable, IsFilledWith, Printing, print_step, write_output_step}
use Rattle.vm_cli.specs.Jobs.Save.{IsBeforePhases, IsInstant}
use Rattle.vm_cli.specs.Outside.{End, Outside}
use Rattle.vm_cli.specs.Served.{OnThreads}
use Rattle.vm_cli.specs.Steps.{Step}
use Rattle.vm_cli.specs.declared.answer.Fault.{Fault}
use Rattle.vm_cli.specs.declared.answer.Fault.TheVariants as faults
use Rattle.vm_report.specs.Report.{report}

-- ---- Steps

abbrev pub record_steps : ShapeData → SourceState → FileState → List Step
record_steps shape image output = boot_step shape image ∷ write_output_step output ∷ print_step ∷ []

-- ---- What it did, where its work came to its end

-- the output, which was empty, holds the text of the order
pub record WritesOrder (vcpus : ℕ) (order : List ℕ) (old new : FileState) : Type 0 where
  pub written : IsFilledWith (text_of order vcpus) old new
  pub synced : new.syncs ≡ counted old.syncs
  pub durable : IsDurable new

-- the machine that booted ran its phase on threads, as one does up to the instant of a save
pub record Records (prints : Printing) (shape : ShapeData) (n : ℕ) (serial : List ℕ) (old new : Outside) (end : End) : Type 0 where
  pub image : List ℕ
  pub taken : ReadsImage shape image old.image new.image
  pub after : MachineData
  pub ran : IsInstant OnThreads (boot shape image serial) n end.first after
  pub wrote : WritesOrder shape.vcpus end.first old.output new.output
  pub printed : prints end.fault (report None after) old.console new.console

-- ---- What it did, where it ended before it printed anything

-- the faults behind the phase: a call on the output failed, it had bytes, or memory ran out
abbrev pub IsOfOutput : FileState → FileState → Option Fault → Type 0
IsOfOutput old new (Some faults.FileFault) = HasRisen old.faults new.faults
IsOfOutput old new (Some (faults.NotEmpty len)) = Unit {0}
IsOfOutput old new (Some faults.NoMemory) = Unit {0}
IsOfOutput old new _ = ⊥

-- the phase had ended
pub record EndsRecorded (shape : ShapeData) (n : ℕ) (serial : List ℕ) (image image_now : SourceState) (output output_now : FileState) (end : End) : Type 0 where
  pub bytes : List ℕ
  pub taken : ReadsImage shape bytes image image_now
  pub after : MachineData
  pub ran : IsInstant OnThreads (boot shape bytes serial) n end.first after
  pub of_output : IsOfOutput output output_now end.fault

-- it ended before that, or there
abbrev pub StopsRecord : ShapeData → ℕ → List ℕ → SourceState → SourceState → FileState → FileState → End → Type 0
StopsRecord shape n serial image image_now output output_now end =
    (IsBeforePhases end.fault × (end.first ≡ [])) ⊎ EndsRecorded shape n serial image image_now output output_now end
