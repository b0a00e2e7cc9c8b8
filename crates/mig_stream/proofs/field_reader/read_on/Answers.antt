use Rattle.std.proofs.Common.{arith}
use Rattle.mig_stream.proofs.Fronts.{front_on}
use Rattle.mig_stream.proofs.field_reader.read_on.Goals as goal

pub returns-clause-front : goal.returns-clause-front
returns-clause-front g c = front_on _ c.args.at c.args.got _ c.args.buf.now _ _ (omega (arith, c.requires.more)) c.in_ok-n.ensures.within c.requires.front c.in_ok-n.ensures.answer
