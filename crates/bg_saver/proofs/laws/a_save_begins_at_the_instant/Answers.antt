use Rattle.bg_saver.proofs.Instant.{begun_of_save, begun_under_way}
use Rattle.bg_saver.proofs.laws.a_save_begins_at_the_instant.Goals as goal

pub returns-clause-of_save : goal.returns-clause-of_save
returns-clause-of_save g c d i begun at = begun_of_save d i _ _ begun at

pub returns-clause-under_way : goal.returns-clause-under_way
returns-clause-under_way g c d i begun at = begun_under_way d i _ _ begun at
