use Rattle.sliced_run.proofs.Taken.{RoundsTaken}
use Rattle.sliced_run.proofs.sliced.Sliced.end_rounds.Given as goal

abbrev pub invariant-loop : goal.invariant-loop
invariant-loop l = RoundsTaken l.fn.self.bus.instant l.run l.counter l.fn.self l.self
