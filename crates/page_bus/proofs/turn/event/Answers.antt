use Rattle.std.proofs.Common.{[], sym, ap, subst}
use Rattle.page_cell.specs.Cell.{FitsCell}
use Rattle.bus_rule.specs.Tells.{PassMe, top_of}
use Rattle.page_bus.specs.Passes.{task_of}
use Rattle.page_bus.proofs.CellKinds.{fits_of_kind}
use Rattle.page_bus.proofs.Moved.{applied_is, drawn_is, due}
use Rattle.page_bus.proofs.Stops.{gives_back}
use Rattle.page_bus.proofs.turn.event.Goals as goal

pub apply-value-requires-clause-fits : goal.apply-value-requires-clause-fits
apply-value-requires-clause-fits c =
    let is = c.requires.touches in
    subst (FitsCell c.args.request.now) (sym (ap (λ (m : PassMe). top_of m.1) c.draw-clock.ensures.told.view))
    (fits_of_kind c.args.traced.now.shape c.args.request.now c.args.cell is.name _ c.requires.asks.can is.touches is.number c.requires.kind)

pub give-requires-clause-can : goal.give-requires-clause-can
give-requires-clause-can c =
    let me = c.args.seat.now.me in
    let t = task_of me.0 in
    let role = c.requires.working.role in
    let h = c.requires.holds in
    let drawn = drawn_is me t c.args.cell (top_of me.1) role h.held h.out c.draw-clock.result c.draw-clock.new.seat.me c.draw-clock.ensures.told.view in
    let applied = applied_is me t c.args.cell (top_of me.1) role h.held h.out c.args.request.now c.draw-clock.result _ _ c.requires.asks.asks drawn c.apply-value.ensures.after in
    gives_back c.apply-value.new.seat.me c.args.cell (due me t c.args.cell (top_of me.1) role h.held h.out) [] []
    (ap (λ (m : PassMe). m.0.held) applied) (ap (λ (m : PassMe). m.1) applied)
