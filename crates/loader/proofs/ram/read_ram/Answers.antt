use Rattle.std.proofs.Common.{◌∙◌}
use Rattle.loader.proofs.Blocks.{all_blocks}
use Rattle.loader.proofs.ram.read_ram.Goals as goal

pub returns-clause-stands : goal.returns-clause-stands
returns-clause-stands g c = λ file told.
    let both = c.in_ok-bits.ensures.stands file (c.in_ok-v.ensures.leaves.told ∙ told) in
    all_blocks file c.in-Some.shape.pages c.in-Some.shape.blocks c.in_ok-v.v c.in-Some.ensures.used (c.in_ok-v.ensures.stands file told) both.1 both.0
