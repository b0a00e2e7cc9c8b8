use Rattle.file_plan.proofs.UnderWay.{piece_more}
use Rattle.file_plan.proofs.under_way.a_piece_more.Goals as goal

pub returns : goal.returns
returns c = piece_more
