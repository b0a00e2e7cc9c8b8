use Rattle.std.proofs.Common.{arith}
use Rattle.bus_rule.proofs.Asks.{ask_join}
use Rattle.bus_rule.proofs.bus.Bus.join.Goals as goal

pub join_seat-requires : goal.join_seat-requires
join_seat-requires c =
    (c.requires.table, c.requires.other_table, c.requires.out, omega (arith, c.args.self.now.words), ask_join _ _ _ _ _ _ _ c.requires.can.0 c.requires.can.1 c.requires.can.2)
