use Rattle.flat_machine.proofs.SameMachine.{same_ram, same_machine}
use Rattle.flat_machine.proofs.laws.a_machine_is_determined_by_its_cells.Goals as goal

pub returns-clause-ram : goal.returns-clause-ram
returns-clause-ram c = same_ram

pub returns-clause-machine : goal.returns-clause-machine
returns-clause-machine c = same_machine
