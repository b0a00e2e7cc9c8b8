-- What a job does that loads the machine of its input: its step, and the machine (this project's own,
-- docs/COMMAND_LINE.md).
use Rattle.std.specs.Prelude.{ℕ, Bool, true, false, List, [], ◌∷◌, Some, option_map, Option, IfSome}
use Rattle.file_plan.specs.Layout.{Lay}
use Rattle.flat_machine.specs.Machine.{IsMachine, MachineData, Rest}
use Rattle.loader.specs.Loaded.{refusal}
use Rattle.medium.specs.States.{FileState}
use Rattle.vm_cli.specs.Jobs.Common.{print_step}
use Rattle.vm_cli.specs.Steps.{Step, Input}
use Rattle.vm_cli.specs.declared.answer.Fault.{Fault}
use Rattle.vm_cli.specs.declared.answer.Fault.TheVariants as faults

-- ---- Steps

abbrev pub is_file_refusal : Fault → Bool
is_file_refusal (faults.FileRefused refusal) = true
is_file_refusal _ = false

-- the fault of a file that is a layout of no machine
abbrev pub file_fault : List ℕ → Option Fault
file_fault file = option_map (λ why. faults.FileRefused why) (refusal file)

-- the input is loaded, or refused as its bytes call for
abbrev pub load_step : FileState → Step
load_step input = record { calls = Some Input; may_refuse = is_file_refusal; verdict = option_map file_fault input.told }

-- the steps of a job that loads its input and prints
abbrev pub load_and_print_steps : FileState → List Step
load_and_print_steps input = load_step input ∷ print_step ∷ []

-- ---- What was done

-- the machine of which the input is a layout, where it tells its bytes; over every input a machine at rest
pub record IsLoadedOf (input : FileState) (m : MachineData) : Type 0 where
  pub layout : IfSome input.told (λ file. Lay file m)
  pub rest : Rest m
  pub limits : IsMachine m
