use Rattle.std.proofs.Common.{arith}
use Rattle.bus_rule.proofs.Asks.{ask_give}
use Rattle.bus_rule.proofs.bus.Bus.give.Goals as goal

pub store-requires : goal.store-requires
store-requires c =
    (c.requires.table, omega (arith, c.requires.cell, c.args.self.now.words), ask_give _ _ _ _ _ _ c.args.cell c.requires.can)
