use Rattle.std.proofs.Common.{◌∙◌, length, ap}
use Rattle.order_log.specs.Text.{packed}
use Rattle.order_log.proofs.Halves.{halves_count}
use Rattle.order_log.proofs.Packed.{packed_halves}
use Rattle.order_log.proofs.members.order_of.Goals as goal

pub returns-clause-packed : goal.returns-clause-packed
returns-clause-packed c =
    ap packed c.in_ok-push_members.ensures.members
    ∙ packed_halves c.args.bytes.now c.args.count c.requires.bytes c.in_ok-expect_pad.ensures.none

pub returns-clause-count : goal.returns-clause-count
returns-clause-count c = ap length c.in_ok-push_members.ensures.members ∙ halves_count c.args.bytes.now c.args.count c.requires.bytes
