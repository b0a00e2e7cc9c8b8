use Rattle.std.proofs.Common.{rules, ◌+◌}
use Rattle.mig_stream.proofs.Texts.{compared_next, differs_next}
use Rattle.mig_stream.proofs.field_reader.compared.Goals as goal

pub loop-k-preserved : goal.loop-k-preserved
loop-k-preserved c = (
  λ file at before front. compared_next file at c.args.from c.loop-k.k c.args.text.now c.args.found.now c.loop-k.first _ c.noted-first.ensures (search rules) (search rules) front (c.loop-k.invariant.0 file at before front),
  λ before. differs_next c.args.text.now (c.args.from + c.loop-k.k) _ c.loop-k.first _ c.noted-first.ensures (search rules) (search rules) (c.loop-k.invariant.1 before),
)
