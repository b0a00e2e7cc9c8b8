-- The job of `check`: the machine of the input is loaded, and its shape is printed (this project's own,
-- docs/COMMAND_LINE.md).
use Rattle.flat_machine.specs.Machine.{MachineData}
use Rattle.vm_cli.specs.Jobs.Common.{Printing}
use Rattle.vm_cli.specs.Jobs.Load.{IsLoadedOf}
use Rattle.vm_cli.specs.Outside.{End, Outside}
use Rattle.vm_report.specs.Report.{ok_line}

pub record Checks (prints : Printing) (old new : Outside) (end : End) : Type 0 where
  pub machine : MachineData
  pub loaded : IsLoadedOf old.input machine
  pub printed : prints end.fault (ok_line machine.shape) old.console new.console
