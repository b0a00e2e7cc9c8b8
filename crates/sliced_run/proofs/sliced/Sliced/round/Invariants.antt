-- How many of the turns so far made an event.
use Rattle.std.proofs.Common.{◌≤◌}
use Rattle.sliced_run.specs.Sliced.{RoundTaken}
use Rattle.sliced_run.proofs.sliced.Sliced.round.Given as goal

abbrev pub invariant-loop-k : goal.invariant-loop-k
invariant-loop-k l = record {
  round : RoundTaken l.fn.self.bus.instant l.fn.self.bus.run l.k l.events l.fn.self l.self;
  few : l.events ≤ l.k;
}
