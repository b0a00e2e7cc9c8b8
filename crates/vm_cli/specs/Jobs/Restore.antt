-- The job of `restore`: the machine of the input is loaded, runs a phase by rounds, and is reported (this project's own,
-- docs/COMMAND_LINE.md).
use Rattle.std.specs.Prelude.{◌≡◌, ℕ, List, Some, None}
use Rattle.flat_machine.specs.Machine.{MachineData}
use Rattle.flat_machine.specs.Run.{rounds, run}
use Rattle.medium.specs.States.{FileState}
use Rattle.vm_cli.specs.Jobs.Common.{Printing}
use Rattle.vm_cli.specs.Jobs.Load.{IsLoadedOf}
use Rattle.vm_cli.specs.Outside.{End, Outside}
use Rattle.vm_report.specs.Report.{report}

-- the machine of the input ran a phase of n instructions by rounds, in this order, and became this machine
pub record RunsOn (n : ℕ) (input : FileState) (order : List ℕ) (after : MachineData) : Type 0 where
  pub machine : MachineData
  pub loaded : IsLoadedOf input machine
  pub by_rounds : order ≡ rounds machine n
  pub ran : run machine order ≡ Some after

pub record Restores (prints : Printing) (n : ℕ) (old new : Outside) (end : End) : Type 0 where
  pub after : MachineData
  pub phase : RunsOn n old.input end.first after
  pub printed : prints end.fault (report None after) old.console new.console
