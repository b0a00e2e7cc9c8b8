use Rattle.file_plan.proofs.FilePieces.{has_its_pieces}
use Rattle.file_plan.proofs.under_way.a_file_has_its_pieces.Goals as goal

pub returns : goal.returns
returns c = has_its_pieces
