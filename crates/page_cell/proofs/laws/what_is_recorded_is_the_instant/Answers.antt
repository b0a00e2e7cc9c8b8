use Rattle.page_cell.proofs.Instant.{core_keeps}
use Rattle.page_cell.proofs.laws.what_is_recorded_is_the_instant.Goals as goal

pub returns : goal.returns
returns c = core_keeps
