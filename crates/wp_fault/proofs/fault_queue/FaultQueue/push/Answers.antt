-- The page is put into an empty queue, or behind the last.
use Rattle.std.proofs.Common.{sym, ◌∙◌}
use Rattle.wp_fault.proofs.Linked.{last_below, pushes, pushes_first, pushed_view}
use Rattle.wp_fault.proofs.fault_queue.FaultQueue.push.Goals as goal
use Rattle.wp_fault.proofs.fault_queue.FaultQueue.push.Goals.{in-Some, in-None}

pub index_mut-requires : goal.index_mut-requires
index_mut-requires c =
    let f = c.self.inside in
    rw f.next.ok.0 (last_below f.pages f.next.items f.front c.in-Some.last _ (rw c.in-Some.is at c.self.invariant))

pub invariant_of-self : goal.invariant_of-self
invariant_of-self c =
    let absent = sym c.has.ensures.queued ∙ c.if-has.false in
    elim c.match-self.branch [
      | in-Some w ↦ rw w.self-inside-is (pushes _ _ _ _ _ _ c.self.view_is c.self.invariant c.requires absent _ w.in-Some.is).linked
      | in-None w ↦ rw w.self-inside-is (pushes_first _ _ _ _ _ _ c.self.view_is c.self.invariant c.requires absent w.in-None.is).linked
    ]

pub returns-clause-queue : goal.returns-clause-queue
returns-clause-queue c =
    let absent = sym c.has.ensures.queued ∙ c.if-has.false in
    elim c.match-self.branch [
      | in-Some w ↦ rw w.self-inside-is (pushed_view _ _ _ _ _ _ absent (pushes _ _ _ _ _ _ c.self.view_is c.self.invariant c.requires absent _ w.in-Some.is))
      | in-None w ↦ rw w.self-inside-is (pushed_view _ _ _ _ _ _ absent (pushes_first _ _ _ _ _ _ c.self.view_is c.self.invariant c.requires absent w.in-None.is))
    ]

pub returns-clause-kept : goal.returns-clause-kept
returns-clause-kept c =
    let absent = sym c.has.ensures.queued ∙ c.if-has.false in
    elim c.match-self.branch [
      | in-Some w ↦ rw w.self-inside-is (pushes _ _ _ _ _ _ c.self.view_is c.self.invariant c.requires absent _ w.in-Some.is).linked.queue
      | in-None w ↦ rw w.self-inside-is (pushes_first _ _ _ _ _ _ c.self.view_is c.self.invariant c.requires absent w.in-None.is).linked.queue
    ]
