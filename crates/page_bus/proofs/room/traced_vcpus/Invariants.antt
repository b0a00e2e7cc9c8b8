use Rattle.std.proofs.Common.{◌≡◌, length}
use Rattle.page_bus.specs.Room.{AreTracedFrom}
use Rattle.page_bus.proofs.room.traced_vcpus.Given as goal

abbrev pub invariant-loop-k : goal.invariant-loop-k
invariant-loop-k l = record {
  traced : AreTracedFrom l.machine l.run l.traced.items;
  count : length l.traced.items ≡ l.k;
}
