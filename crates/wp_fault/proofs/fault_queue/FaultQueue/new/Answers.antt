use Rattle.wp_fault.proofs.Linked.{starts}
use Rattle.wp_fault.proofs.fault_queue.FaultQueue.new.Goals as goal

pub invariant_of-result : goal.invariant_of-result
invariant_of-result c = starts _ _ (c.in_ok-vec.ensures.items_if_clones_equal (λ y h. h))
