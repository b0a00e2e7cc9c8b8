use Rattle.std.proofs.Common.{arith}
use Rattle.bus_rule.proofs.Asks.{ask_draw}
use Rattle.bus_rule.proofs.bus.Bus.draw.Goals as goal

pub fetch_add-requires : goal.fetch_add-requires
fetch_add-requires c =
    (c.requires.table, omega (arith, c.args.self.now.words), ask_draw _ _ _ _ _ _ c.requires.can.0 c.requires.can.1 c.requires.can.2 c.requires.can.3)
