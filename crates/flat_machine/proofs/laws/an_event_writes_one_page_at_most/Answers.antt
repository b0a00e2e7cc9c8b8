use Rattle.flat_machine.proofs.Written.{other_pages_stay}
use Rattle.flat_machine.proofs.laws.an_event_writes_one_page_at_most.Goals as goal

pub returns : goal.returns
returns c = other_pages_stay
