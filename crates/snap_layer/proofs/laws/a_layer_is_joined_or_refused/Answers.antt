use Rattle.snap_layer.proofs.Joins.{either, never_both, read_back}
use Rattle.snap_layer.proofs.NeverLate.{never_late}
use Rattle.snap_layer.proofs.laws.a_layer_is_joined_or_refused.Goals as goal

pub returns-clause-reads : goal.returns-clause-reads
returns-clause-reads c = λ base m layer is joined. read_back base layer m is joined

pub returns-clause-never_both : goal.returns-clause-never_both
returns-clause-never_both c = never_both

pub returns-clause-either : goal.returns-clause-either
returns-clause-either c = either

pub returns-clause-never_late : goal.returns-clause-never_late
returns-clause-never_late c = never_late
