-- The number that stands at its place.
use Rattle.std.proofs.Common.{◌∙◌}
use Rattle.snap_layer.proofs.Counts.{count_of_layer}
use Rattle.snap_layer.proofs.count.pages_in.Goals as goal

pub returns : goal.returns
returns c = λ base m is same. c.be32_at.ensures.number ∙ count_of_layer c.args.layer.now base m is same
