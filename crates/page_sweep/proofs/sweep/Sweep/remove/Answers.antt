-- The page isn't left, or it is taken out of the links of both directions.
use Rattle.std.proofs.Common.{refl, sym}
use Rattle.page_sweep.proofs.Removed.{without-absent}
use Rattle.page_sweep.proofs.Sweeps.{after_below, before_below, removed_view, removes, some_left, stays}
use Rattle.page_sweep.proofs.sweep.Sweep.remove.Goals as goal

pub returns-then-after-self-clause-left : goal.returns-then-after-self-clause-left
returns-then-after-self-clause-left c = sym (stays _ _ _ _ _ _ _ _ _ c.self.view_is c.self.invariant c.requires c.index-after.ensures c.if-after-self.true)

pub returns-then-after-self-clause-sweep : goal.returns-then-after-self-clause-sweep
returns-then-after-self-clause-sweep c =
    let absent = stays _ _ _ _ _ _ _ _ _ c.self.view_is c.self.invariant c.requires c.index-after.ensures c.if-after-self.true in
    rw (without-absent c.args.self.now.list c.args.p absent) refl

pub unlink-requires-clause-before : goal.unlink-requires-clause-before
unlink-requires-clause-before c = before_below _ _ _ _ _ _ _ _ _ c.self.view_is c.self.invariant c.requires c.index-after.ensures c.if-after-self.false _ c.index-before.ensures

pub unlink-requires-2-clause-before : goal.unlink-requires-2-clause-before
unlink-requires-2-clause-before c = after_below _ _ _ _ _ _ _ _ _ c.self.view_is c.self.invariant c.requires c.index-after.ensures c.if-after-self.false _ c.index-before.ensures

pub overflow_sub-self : goal.overflow_sub-self
overflow_sub-self c = some_left _ _ _ _ _ _ _ _ _ c.self.view_is c.self.invariant c.requires c.index-after.ensures c.if-after-self.false _ c.index-before.ensures

pub invariant_of-self : goal.invariant_of-self
invariant_of-self c = (removes _ _ _ _ _ _ _ _ _ c.self.view_is c.self.invariant c.requires c.index-after.ensures c.if-after-self.false _ c.index-before.ensures _ _ _ _ c.unlink.ensures.links c.unlink.ensures.start c.unlink-2.ensures.links c.unlink-2.ensures.start).linked

pub returns-clause-left : goal.returns-clause-left
returns-clause-left c = sym (removes _ _ _ _ _ _ _ _ _ c.self.view_is c.self.invariant c.requires c.index-after.ensures c.if-after-self.false _ c.index-before.ensures _ _ _ _ c.unlink.ensures.links c.unlink.ensures.start c.unlink-2.ensures.links c.unlink-2.ensures.start).here

pub returns-clause-sweep : goal.returns-clause-sweep
returns-clause-sweep c = removed_view _ _ _ _ _ _ _ _ (removes _ _ _ _ _ _ _ _ _ c.self.view_is c.self.invariant c.requires c.index-after.ensures c.if-after-self.false _ c.index-before.ensures _ _ _ _ c.unlink.ensures.links c.unlink.ensures.start c.unlink-2.ensures.links c.unlink-2.ensures.start)

pub returns-clause-kept : goal.returns-clause-kept
returns-clause-kept c = (removes _ _ _ _ _ _ _ _ _ c.self.view_is c.self.invariant c.requires c.index-after.ensures c.if-after-self.false _ c.index-before.ensures _ _ _ _ c.unlink.ensures.links c.unlink.ensures.start c.unlink-2.ensures.links c.unlink-2.ensures.start).linked.sweep
