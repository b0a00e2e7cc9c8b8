use Rattle.std.proofs.Common.{arith}
use Rattle.bus_rule.proofs.Asks.{ask_draw_alone}
use Rattle.bus_rule.proofs.bus.Bus.draw_alone.Goals as goal

pub fetch_add-requires : goal.fetch_add-requires
fetch_add-requires c =
    (c.requires.table, omega (arith, c.args.self.now.words), ask_draw_alone _ _ _ _ _ _ c.requires.can.0 c.requires.can.1)
