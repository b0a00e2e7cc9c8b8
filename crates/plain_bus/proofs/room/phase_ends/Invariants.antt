use Rattle.std.proofs.Common.{◌≡◌}
use Rattle.plain_bus.proofs.Ends.{first_ends}
use Rattle.plain_bus.proofs.room.phase_ends.Given as goal

abbrev pub invariant-loop-k : goal.invariant-loop-k
invariant-loop-k l = l.ends.items ≡ first_ends l.machine l.run l.k
