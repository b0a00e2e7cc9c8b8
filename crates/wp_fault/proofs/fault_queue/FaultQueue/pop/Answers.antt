-- The front was the only page, or the page behind it is the front then.
use Rattle.wp_fault.proofs.Linked.{pops, pops_only, popped_view}
use Rattle.wp_fault.proofs.fault_queue.FaultQueue.pop.Goals as goal

pub invariant_of-self : goal.invariant_of-self
invariant_of-self c = (pops_only _ _ _ _ _ _ _ c.self.view_is c.self.invariant c.in_ok-p.was c.index-after.ensures c.if-after-p.true).linked

pub invariant_of-self-else-after-p : goal.invariant_of-self-else-after-p
invariant_of-self-else-after-p c = (pops _ _ _ _ _ _ _ c.self.view_is c.self.invariant c.in_ok-p.was c.index-after.ensures c.if-after-p.false).linked

pub returns-then-after-p-clause-front : goal.returns-then-after-p-clause-front
returns-then-after-p-clause-front c = (pops_only _ _ _ _ _ _ _ c.self.view_is c.self.invariant c.in_ok-p.was c.index-after.ensures c.if-after-p.true).taken

pub returns-then-after-p-clause-queue : goal.returns-then-after-p-clause-queue
returns-then-after-p-clause-queue c = popped_view _ _ _ _ _ _ (pops_only _ _ _ _ _ _ _ c.self.view_is c.self.invariant c.in_ok-p.was c.index-after.ensures c.if-after-p.true)

pub returns-then-after-p-clause-kept : goal.returns-then-after-p-clause-kept
returns-then-after-p-clause-kept c = (pops_only _ _ _ _ _ _ _ c.self.view_is c.self.invariant c.in_ok-p.was c.index-after.ensures c.if-after-p.true).linked.queue

pub returns-else-after-p-clause-front : goal.returns-else-after-p-clause-front
returns-else-after-p-clause-front c = (pops _ _ _ _ _ _ _ c.self.view_is c.self.invariant c.in_ok-p.was c.index-after.ensures c.if-after-p.false).taken

pub returns-else-after-p-clause-queue : goal.returns-else-after-p-clause-queue
returns-else-after-p-clause-queue c = popped_view _ _ _ _ _ _ (pops _ _ _ _ _ _ _ c.self.view_is c.self.invariant c.in_ok-p.was c.index-after.ensures c.if-after-p.false)

pub returns-else-after-p-clause-kept : goal.returns-else-after-p-clause-kept
returns-else-after-p-clause-kept c = (pops _ _ _ _ _ _ _ c.self.view_is c.self.invariant c.in_ok-p.was c.index-after.ensures c.if-after-p.false).linked.queue
