-- The job of `replay`: the machine of an image makes the events of the order that the input holds, and is reported (this
-- project's own, docs/COMMAND_LINE.md).
use Rattle.std.specs.Prelude.{◌≡◌, ℕ, Bool, true, false, List, [], ◌∷◌, Option, Some, None, option_map, Result, Ok, Err, IfSome}
use Rattle.flat_machine.specs.Machine.{MachineData, boot}
use Rattle.flat_machine.specs.Run.{run}
use Rattle.image_file.specs.Image.{image_of}
use Rattle.image_file.specs.declared.image_refusal.ImageRefusal.{ImageRefusal}
use Rattle.medium.specs.States.{FileState, SourceState}
use Rattle.order_log.specs.Reading.{order_in}
use Rattle.order_log.specs.Replay.{halted_place}
use Rattle.order_log.specs.Text.{IsOrder, text_of}
use Rattle.order_log.specs.declared.fault.OrderRefusal.{OrderRefusal}
use Rattle.order_log.specs.declared.fault.OrderRefusal.TheVariants.{Halted}
use Rattle.ram_block.specs.Shape.{ShapeData}
use Rattle.vm_cli.specs.Jobs.Boot.{ReadsImage, boot_step}
use Rattle.vm_cli.specs.Jobs.Common.{Printing, print_step}
use Rattle.vm_cli.specs.Outside.{End, Outside}
use Rattle.vm_cli.specs.Steps.{Step, Input}
use Rattle.vm_cli.specs.declared.answer.Fault.{Fault}
use Rattle.vm_cli.specs.declared.answer.Fault.TheVariants as faults
use Rattle.vm_report.specs.Report.{report}

-- ---- Steps

abbrev pub is_order_refusal : Fault → Bool
is_order_refusal (faults.OrderRefused refusal) = true
is_order_refusal _ = false

-- the fault of a file that is the text of no order
abbrev pub order_fault : Result (List ℕ) OrderRefusal → Option Fault
order_fault (Err refusal) = Some (faults.OrderRefused refusal)
order_fault (Ok order) = None

-- the input is read as the text of an order for so many vCPUs, or refused as its bytes call for
abbrev pub read_order_step : ℕ → FileState → Step
read_order_step vcpus input = record { calls = Some Input; may_refuse = is_order_refusal; verdict = option_map (λ file. order_fault (order_in file vcpus)) input.told }

abbrev pub is_halted_place : Fault → Bool
is_halted_place (faults.OrderRefused (Halted place)) = true
is_halted_place _ = false

-- the fault of an order of which the machine can't make each event
abbrev pub replay_fault : ShapeData → List ℕ → Result (List ℕ) ImageRefusal → Result (List ℕ) OrderRefusal → Option Fault
replay_fault shape serial (Ok image) (Ok order) = option_map (λ place. faults.OrderRefused (Halted place)) (halted_place (boot shape image serial) order)
replay_fault shape serial image order = None

-- the same, where both image and input are told
abbrev pub replay_verdict : ShapeData → List ℕ → Option (List ℕ) → Option (List ℕ) → Option (Option Fault)
replay_verdict shape serial (Some bytes) (Some file) = Some (replay_fault shape serial (image_of bytes shape) (order_in file shape.vcpus))
replay_verdict shape serial image file = None

-- the events of the order are made, unless a vCPU is halted at its turn
abbrev pub replay_step : ShapeData → List ℕ → SourceState → FileState → Step
replay_step shape serial image input = record { calls = None; may_refuse = is_halted_place; verdict = replay_verdict shape serial image.left input.told }

abbrev pub replay_steps : ShapeData → List ℕ → SourceState → FileState → List Step
replay_steps shape serial image input = boot_step shape image ∷ read_order_step shape.vcpus input ∷ replay_step shape serial image input ∷ print_step ∷ []

-- ---- What it did, where its work came to its end

-- the order is one of the machine's vCPUs, and the input is its text, where it tells its bytes
pub record ReadsOrder (vcpus : ℕ) (input : FileState) (order : List ℕ) : Type 0 where
  pub members : IsOrder vcpus order
  pub text : IfSome input.told (λ file. file ≡ text_of order vcpus)

pub record Replays (prints : Printing) (shape : ShapeData) (serial : List ℕ) (old new : Outside) (end : End) : Type 0 where
  pub image : List ℕ
  pub taken : ReadsImage shape image old.image new.image
  pub read : ReadsOrder shape.vcpus old.input end.first
  pub after : MachineData
  pub ran : run (boot shape image serial) end.first ≡ Some after
  pub printed : prints end.fault (report None after) old.console new.console
