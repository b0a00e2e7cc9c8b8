use Rattle.std.proofs.Common.{◌∙◌}
use Rattle.loader.proofs.Last.{has_last}
use Rattle.loader.proofs.framing.read_devices_behind.Goals as goal

pub returns-clause-stands : goal.returns-clause-stands
returns-clause-stands g c = λ file told.
    has_last c.read_last.result file c.args.at (c.in_ok-read_tail.ensures.stands file told) (c.read_last.ensures.stands file (c.read_tail.ensures.leaves.told ∙ told))
