use Rattle.std.proofs.Common.{refl}
use Rattle.page_bus.proofs.Plants.{take_leaves}
use Rattle.page_bus.proofs.plant.SaverEndPlant.take.Goals as goal

pub returns-clause-leaves : goal.returns-clause-leaves
returns-clause-leaves c =
    take_leaves c.args.self.now.bus.now c.args.self.now.bus.now c.args.self.now.pass.now c.take_as.new.pass c.args.page c.args.into.now c.take_as.new.into c.take_as.result
    c.requires.fits refl c.take_as.ensures.leaves c.take_as.ensures.limits
