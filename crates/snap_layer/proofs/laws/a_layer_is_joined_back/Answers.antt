use Rattle.snap_layer.proofs.Joins.{joined_back}
use Rattle.snap_layer.proofs.laws.a_layer_is_joined_back.Goals as goal

pub returns : goal.returns
returns c = joined_back
