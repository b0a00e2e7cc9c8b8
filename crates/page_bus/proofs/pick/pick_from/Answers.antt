use Rattle.page_bus.specs.Passes.{book_of}
use Rattle.page_bus.proofs.Moved.{was_taken}
use Rattle.page_bus.proofs.Picked.{can_give, can_pick, queue, saver_queue}
use Rattle.page_bus.proofs.pick.pick_from.Goals as goal

pub mark_picked-requires-clause-can : goal.mark_picked-requires-clause-can
mark_picked-requires-clause-can c =
    let b = book_of c.args.seat.now.me.0 in
    let i = c.requires.idle in
    let number = saver_queue c.total_pages-queue.result b c.args.shape.now i.saving.shape_is c.total_pages-queue.ensures.value in
    let taken = was_taken _ _ _ c.args.seat.now.me c.take.new.seat.me c.if-take-ne0.false c.take.ensures.told in (
      b,
      queue c.args.seat.now.me b i.saving.role i.none_held i.out _ number _ taken,
      can_pick c.args.seat.now.me b i.saving.role i.none_held i.out _ number _ taken _ c.pop_fault-front.ensures.after,
    )

pub give-requires-clause-can : goal.give-requires-clause-can
give-requires-clause-can c =
    let b = book_of c.args.seat.now.me.0 in
    let i = c.requires.idle in
    let number = saver_queue c.total_pages-queue.result b c.args.shape.now i.saving.shape_is c.total_pages-queue.ensures.value in
    let taken = was_taken _ _ _ c.args.seat.now.me c.take.new.seat.me c.if-take-ne0.false c.take.ensures.told in
    can_give c.args.seat.now.me b i.saving.role i.none_held i.out _ number _ taken _ c.pop_fault-front.ensures.after _ c.mark_picked.ensures.told
