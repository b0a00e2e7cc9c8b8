use Rattle.file_plan.proofs.UnderWay.{whole_behind_gate}
use Rattle.file_plan.proofs.under_way.a_file_is_whole.Goals as goal

pub returns : goal.returns
returns c = whole_behind_gate
