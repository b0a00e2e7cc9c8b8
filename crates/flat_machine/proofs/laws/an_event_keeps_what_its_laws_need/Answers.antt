use Rattle.flat_machine.proofs.Servable.{next_serves, run_serves}
use Rattle.flat_machine.proofs.laws.an_event_keeps_what_its_laws_need.Goals as goal

pub returns-clause-next : goal.returns-clause-next
returns-clause-next c = next_serves

pub returns-clause-run : goal.returns-clause-run
returns-clause-run c = run_serves
