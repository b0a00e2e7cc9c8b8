use Rattle.std.proofs.Common.{arith}
use Rattle.bus_rule.proofs.Asks.{ask_split}
use Rattle.bus_rule.proofs.bus.Bus.split.Goals as goal

pub split_seat-requires : goal.split_seat-requires
split_seat-requires c =
    (c.requires.table, omega (arith, c.args.self.now.words), ask_split _ _ _ _ _ c.requires.can.0 c.requires.can.1)
