-- The job of `layer`: the machine of the input is loaded, a copy of it runs a phase by rounds, and what the copy then has
-- other than the machine is written to the output (this project's own, docs/COMMAND_LINE.md).
use Rattle.std.specs.Prelude.{◌≡◌, ◌⊎◌, ◌&&◌, ◌^◌, ◌++◌, ℕ, nat_le, Bool, true, false, List, [], ◌∷◌, codes, is_none, length, Option, Some, None, option_map, Result, Ok, Err, if◌then◌else◌}
use Rattle.std.specs.Fmt.{decimal}
use Rattle.std.specs.List.{list_all}
use Rattle.flat_machine.specs.Machine.{IsMachine, MachineData, Rest}
use Rattle.flat_machine.specs.Run.{rounds, rounds_run, run}
use Rattle.loader.specs.Loaded.{loaded}
use Rattle.loader.specs.declared.refusal.Refusal.{Refusal}
use Rattle.medium.specs.Count.{HasRisen, counted}
use Rattle.medium.specs.States.{FileState}
use Rattle.rv64i_step.specs.Vcpu.{VcpuData}
use Rattle.snap_layer.specs.Layer.{Joined, changed_pages, layer_of}
use Rattle.snap_layer.specs.declared.refusal.LayerRefusal.TheVariants.{Late}
use Rattle.vm_cli.specs.Jobs.Common.{IsDurable, IsFilledWith, Printing, print_step, write_output_step}
use Rattle.vm_cli.specs.Jobs.Load.{IsLoadedOf, load_step}
use Rattle.vm_cli.specs.Jobs.Record.{IsOfOutput}
use Rattle.vm_cli.specs.Outside.{End, Outside}
use Rattle.vm_cli.specs.Steps.{Step}
use Rattle.vm_cli.specs.declared.answer.Fault.{Fault}
use Rattle.vm_cli.specs.declared.answer.Fault.TheVariants as faults

-- ---- Steps

abbrev pub is_late : Fault → Bool
is_late (faults.LayerRefused (Late clock)) = true
is_late _ = false

-- whether a vCPU has no pending access, and no more steps than one of a machine at rest
abbrev pub is_quiet : VcpuData → Bool
is_quiet v = is_none v.pending && nat_le v.steps (2 ^ 62)

-- whether a machine is at rest
abbrev pub is_at_rest : MachineData → Bool
is_at_rest m = nat_le m.clock (2 ^ 62) && list_all is_quiet m.vcpus

-- the fault of a machine of which no layer is made, since it came past a limit of a machine at rest
abbrev pub late_fault : MachineData → Option Fault
late_fault m = if is_at_rest m then None else Some (faults.LayerRefused (Late m.clock))

-- the same of the machine that was loaded, behind its phase of n instructions
abbrev pub late_in : ℕ → Result MachineData Refusal → Option Fault
late_in n (Ok base) = late_fault (rounds_run base n).machine
late_in n (Err refusal) = None

-- the phase is run, unless it ends too late
abbrev pub run_layer_step : ℕ → FileState → Step
run_layer_step n input = record { calls = None; may_refuse = is_late; verdict = option_map (λ file. late_in n (loaded file)) input.told }

abbrev pub layer_steps : ℕ → FileState → FileState → List Step
layer_steps n input output = load_step input ∷ run_layer_step n input ∷ write_output_step output ∷ print_step ∷ []

-- ---- What it did, where its work came to its end

-- the line of the pages of a layer
abbrev pub layer_line : ℕ → List ℕ
layer_line pages = codes "layer pages " ++ decimal pages ++ codes "\n"

-- the machine of the input ran a phase of n instructions by rounds, in this order, and became this machine
pub record RunsFrom (n : ℕ) (input : FileState) (base : MachineData) (order : List ℕ) (after : MachineData) : Type 0 where
  pub loaded : IsLoadedOf input base
  pub by_rounds : order ≡ rounds base n
  pub ran : run base order ≡ Some after

-- the output, which was empty, holds the layer, which joined with the base is the machine
pub record WritesLayer (base m : MachineData) (old new : FileState) : Type 0 where
  pub written : IsFilledWith (layer_of base m) old new
  pub synced : new.syncs ≡ counted old.syncs
  pub durable : IsDurable new
  pub joins : Joined base (layer_of base m) m

pub record Layers (prints : Printing) (n : ℕ) (old new : Outside) (end : End) : Type 0 where
  pub base : MachineData
  pub after : MachineData
  pub phase : RunsFrom n old.input base end.first after
  pub rest : Rest after
  pub wrote : WritesLayer base after old.output new.output
  pub printed : prints end.fault (layer_line (length (changed_pages base after))) old.console new.console

-- ---- What it did, where it ended before it printed anything

-- the faults that may come before the phase has ended: one of the words, of the input, or want of memory
abbrev pub IsBeforePhase : FileState → FileState → Option Fault → Type 0
IsBeforePhase old new (Some (faults.Usage index kind)) = Unit {0}
IsBeforePhase old new (Some (faults.FileRefused refusal)) = Unit {0}
IsBeforePhase old new (Some faults.FileFault) = HasRisen old.faults new.faults
IsBeforePhase old new (Some faults.NoMemory) = Unit {0}
IsBeforePhase old new _ = ⊥

-- nothing was run, and no call was made on the output
pub record EndsBeforePhase (old new : FileState) (same_output : Type 0) (end : End) : Type 0 where
  pub before : IsBeforePhase old new end.fault
  pub first : end.first ≡ []
  pub output : same_output

-- the faults behind the phase: it ended too late, or one of the output
abbrev pub IsBehindPhase : MachineData → FileState → FileState → Option Fault → Type 0
IsBehindPhase after old new (Some (faults.LayerRefused refusal)) = late_fault after ≡ Some (faults.LayerRefused refusal)
IsBehindPhase after old new fault = IsOfOutput old new fault

-- the phase had ended
pub record EndsBehindPhase (n : ℕ) (input output output_now : FileState) (end : End) : Type 0 where
  pub base : MachineData
  pub after : MachineData
  pub phase : RunsFrom n input base end.first after
  pub behind : IsBehindPhase after output output_now end.fault

-- it ended before that, or there
abbrev pub StopsLayer : ℕ → FileState → FileState → (same_output : Type 0) → FileState → FileState → End → Type 0
StopsLayer n input input_now same_output output output_now end =
    EndsBeforePhase input input_now same_output end ⊎ EndsBehindPhase n input output output_now end

-- ---- The parts of the work, one by one

-- a copy of the base ran the phase, in this order, and became this machine, of which a layer is made
pub record RunsCopy (n : ℕ) (base : MachineData) (order : List ℕ) (after : MachineData) : Type 0 where
  pub by_rounds : order ≡ rounds base n
  pub ran : run base order ≡ Some after
  pub shape : after.shape ≡ base.shape
  pub limits : IsMachine after
  pub rest : Rest after
  pub in_time : late_fault (rounds_run base n).machine ≡ None

-- the copy ran the phase, and came too late
pub record EndsLate (n : ℕ) (base : MachineData) (order : List ℕ) (fault : Fault) : Type 0 where
  pub after : MachineData
  pub by_rounds : order ≡ rounds base n
  pub ran : run base order ≡ Some after
  pub late : fault ≡ faults.LayerRefused (Late after.clock)
  pub past : late_fault after ≡ Some fault
  pub called_for : late_fault (rounds_run base n).machine ≡ Some fault
