use Rattle.std.proofs.Common.{take}
use Rattle.sliced_run.specs.Sliced.{TurnsTaken}
use Rattle.sliced_run.proofs.sliced.Sliced.take_turns.Given as goal

abbrev pub invariant-loop-i : goal.invariant-loop-i
invariant-loop-i g l = TurnsTaken g.M.Readable l.fn.self.bus.instant l.fn.self.bus.run (take l.i l.turns) l.fn.self l.self l.fn.medium l.medium
