use Rattle.std.proofs.Common.{◌≡◌, ◌<◌, ◌^◌, Ok, All, rules, arith}
use Rattle.snap_layer.specs.Reading.{joined_in}
use Rattle.snap_layer.proofs.Joins.{are_bytes, joins}
use Rattle.snap_layer.proofs.join.join_layer.Goals as goal

pub returns-clause-joined : goal.returns-clause-joined
unfolding joined_in
returns-clause-joined c =
    let each : All (λ b. b < 2 ^ 8) c.args.layer.items = search rules in
    let read : joined_in c.args.base c.args.layer.items ≡ Ok c.put_together.result = grind arith in
    joins c.args.base c.args.layer.items c.put_together.result c.into_parts-shape.ensures.limits (are_bytes c.args.layer.items each) read
