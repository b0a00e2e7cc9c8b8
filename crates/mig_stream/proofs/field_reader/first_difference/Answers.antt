use Rattle.std.proofs.Common.{rules}
use Rattle.medium.proofs.Leaves.{leaves_on}
use Rattle.mig_stream.proofs.Texts.{compared_part}
use Rattle.mig_stream.proofs.field_reader.first_difference.Goals as goal

pub loop-i-preserved : goal.loop-i-preserved
loop-i-preserved g c = (
  search rules,
  compared_part _ _ c.args.at c.loop-i.i c.in-Ok.got _ c.args.text.now c.read_front.new.buf c.loop-i.first c.compared-first.result c.read_front.ensures.leaves.told (search rules) (search rules) c.compared-first.ensures.each c.in-Ok.ensures.front c.loop-i.invariant.1,
  c.compared-first.ensures.differs c.loop-i.invariant.2,
  leaves_on c.loop-i.invariant.3 c.read_front.ensures.leaves,
)
