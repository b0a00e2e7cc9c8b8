use Rattle.flat_machine.proofs.Touched.{touched_are, touched_distinct, touched-push}
use Rattle.flat_machine.proofs.laws.a_run_touches_the_pages_of_its_events.Goals as goal

pub returns-clause-events : goal.returns-clause-events
returns-clause-events c = touched_are

pub returns-clause-once : goal.returns-clause-once
returns-clause-once c = touched_distinct

pub returns-clause-next : goal.returns-clause-next
returns-clause-next c = touched-push
