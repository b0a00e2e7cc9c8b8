use Rattle.flat_machine.proofs.Frames.{next_keeps}
use Rattle.flat_machine.proofs.Servable.{run_keeps}
use Rattle.flat_machine.proofs.laws.an_event_leaves_the_rest.Goals as goal

pub returns-clause-keeps : goal.returns-clause-keeps
returns-clause-keeps c = next_keeps

pub returns-clause-run : goal.returns-clause-run
returns-clause-run c = run_keeps
