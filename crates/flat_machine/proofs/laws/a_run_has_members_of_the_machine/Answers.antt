use Rattle.flat_machine.proofs.Rests.{run_members}
use Rattle.flat_machine.proofs.laws.a_run_has_members_of_the_machine.Goals as goal

pub returns : goal.returns
returns c = run_members
