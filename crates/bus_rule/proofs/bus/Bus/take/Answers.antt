use Rattle.std.proofs.Common.{arith}
use Rattle.bus_rule.proofs.Asks.{ask_take}
use Rattle.bus_rule.proofs.bus.Bus.take.Goals as goal

pub compare_exchange-requires : goal.compare_exchange-requires
compare_exchange-requires c =
    (c.requires.table, omega (arith, c.requires.cell, c.args.self.now.words), ask_take _ _ _ _ _ _ c.args.cell c.args.number c.requires.cell c.requires.number c.requires.can)
