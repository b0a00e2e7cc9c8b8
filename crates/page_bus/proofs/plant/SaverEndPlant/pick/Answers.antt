use Rattle.std.proofs.Common.{refl}
use Rattle.page_bus.proofs.Plants.{pick_leaves}
use Rattle.page_bus.proofs.plant.SaverEndPlant.pick.Goals as goal

pub returns-clause-leaves : goal.returns-clause-leaves
returns-clause-leaves c =
    pick_leaves c.args.self.now.bus.now c.args.self.now.bus.now c.args.self.now.pass.now c.pick_as.new.pass c.pick_as.result c.requires refl
    c.pick_as.ensures.leaves c.pick_as.ensures.limits
