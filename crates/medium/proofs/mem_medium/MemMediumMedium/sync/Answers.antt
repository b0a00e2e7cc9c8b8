use Rattle.std.proofs.Common.{subst}
use Rattle.medium.specs.Memory.{images_of}
use Rattle.medium.proofs.Images.{no_more_synced}
use Rattle.medium.proofs.mem_medium.MemMediumMedium.sync.Goals as goal

pub returns-clause-no_more : goal.returns-clause-no_more
returns-clause-no_more c image left =
    no_more_synced c.args.self.now.first c.args.self.now.past image (subst (λ m. images_of m image) c.make_sure.ensures left)
