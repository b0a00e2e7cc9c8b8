use Rattle.std.proofs.Common.{◌≡◌, ◌-◌, ℕ, List, length}
use Rattle.ram_block.specs.declared.shape.TheConstants.{MAX_VCPUS}
use Rattle.page_bus.specs.Merge.{FitsOrder}
use Rattle.page_bus.proofs.Merged.{IsMerged}
use Rattle.page_bus.proofs.merge.merge.Given as goal

abbrev pub invariant-loop-who : goal.invariant-loop-who
invariant-loop-who l = record {
  room : l.order.room ≡ l.fn.order.room;
  count : length l.placed ≡ MAX_VCPUS;
  merged : (o : List ℕ) → FitsOrder o l.traced.items → IsMerged o l.order.members l.placed;
}

abbrev pub decreases-loop-who : goal.decreases-loop-who
decreases-loop-who l = l.fn.order.room - length l.order.members
