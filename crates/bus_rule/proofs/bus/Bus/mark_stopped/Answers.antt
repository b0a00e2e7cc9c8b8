use Rattle.std.proofs.Common.{arith}
use Rattle.bus_rule.proofs.Asks.{ask_stop}
use Rattle.bus_rule.proofs.bus.Bus.mark_stopped.Goals as goal

pub load-requires : goal.load-requires
load-requires c =
    (c.requires.table, omega (arith, c.requires.cell, c.args.self.now.words), ask_stop _ _ _ _ _ _ c.requires.can.0 c.args.queue c.requires.can.1 c.requires.can.2 c.requires.can.3 _ c.requires.can.4)
