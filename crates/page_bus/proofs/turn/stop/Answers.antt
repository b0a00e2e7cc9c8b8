use Rattle.page_bus.specs.Passes.{task_of}
use Rattle.page_bus.proofs.Moved.{was_taken}
use Rattle.page_bus.proofs.Stops.{can_give, can_give_page, can_stop, gives_after_held, its_queue, queue}
use Rattle.page_bus.proofs.turn.stop.Goals as goal

pub give-requires-clause-can : goal.give-requires-clause-can
give-requires-clause-can c =
    gives_after_held c.args.page _ _ _ _ c.args.seat.now.me _ c.if-take-ne0.true c.take.ensures.told c.requires.holds.held c.requires.holds.out

pub mark_stopped-requires-clause-can : goal.mark_stopped-requires-clause-can
mark_stopped-requires-clause-can c =
    let t = task_of c.args.seat.now.me.0 in
    let w = c.requires.working in
    let h = c.requires.holds in
    let p = c.requires.protected in
    let number = its_queue c.pages-queue.result t c.args.traced.now w.traced c.pages-queue.ensures.value in
    let taken = was_taken _ _ _ c.args.seat.now.me c.take.new.seat.me c.if-take-ne0.false c.take.ensures.told in (
      t,
      c.args.page,
      p.0,
      queue c.args.seat.now.me t c.args.page p.0 w.role h.held h.out p.1 _ number _ taken,
      can_stop c.args.seat.now.me t c.args.page p.0 w.role h.held h.out p.1 _ number _ taken _ c.push_fault.ensures.after c.requires.writes,
    )

pub give-requires-2-clause-can : goal.give-requires-2-clause-can
give-requires-2-clause-can c =
    let t = task_of c.args.seat.now.me.0 in
    let w = c.requires.working in
    let h = c.requires.holds in
    let p = c.requires.protected in
    let number = its_queue c.pages-queue.result t c.args.traced.now w.traced c.pages-queue.ensures.value in
    let taken = was_taken _ _ _ c.args.seat.now.me c.take.new.seat.me c.if-take-ne0.false c.take.ensures.told in
    can_give c.args.seat.now.me t c.args.page p.0 w.role h.held h.out p.1 _ number _ taken _ c.push_fault.ensures.after _ c.mark_stopped.ensures.told

pub give-requires-3-clause-can : goal.give-requires-3-clause-can
give-requires-3-clause-can c =
    let t = task_of c.args.seat.now.me.0 in
    let w = c.requires.working in
    let h = c.requires.holds in
    let p = c.requires.protected in
    let number = its_queue c.pages-queue.result t c.args.traced.now w.traced c.pages-queue.ensures.value in
    let taken = was_taken _ _ _ c.args.seat.now.me c.take.new.seat.me c.if-take-ne0.false c.take.ensures.told in
    can_give_page c.args.seat.now.me t c.args.page p.0 w.role h.held h.out p.1 _ number _ taken _ c.push_fault.ensures.after _ c.mark_stopped.ensures.told _ c.give-2.ensures.told
