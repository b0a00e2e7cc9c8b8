use Rattle.std.proofs.Common.{◌<◌, subst}
use Rattle.atomic_table.specs.Seated.{TableId}
use Rattle.page_bus.proofs.Moved.{was_taken}
use Rattle.page_bus.proofs.Turned.{stops_protected, stops_write_there, touched_below}
use Rattle.page_bus.proofs.turn.turn_with.Goals as goal

pub take-requires-clause-cell : goal.take-requires-clause-cell
take-requires-clause-cell c =
    let is = c.requires.touches in
    subst (λ (id : TableId). c.args.cell < id.slots) c.requires.table
    (touched_below c.args.seat.now.table_id.slots c.args.cell c.args.traced.now c.args.request.now is.name c.requires.tied.working.cells c.requires.asks.can is.touches is.number)

pub stop-requires-clause-protected : goal.stop-requires-clause-protected
stop-requires-clause-protected c =
    let taken = was_taken c.args.cell _ _ c.args.seat.now.me c.take.new.seat.me c.if-take-ne0.false c.take.ensures.told in
    stops_protected c.args.cell _ _ c.stops.new.seat.me c.args.request.now c.stops.result taken c.stops.ensures.kept c.stops.ensures.stops c.if-stops.true

pub stop-requires-clause-writes : goal.stop-requires-clause-writes
stop-requires-clause-writes c =
    let taken = was_taken c.args.cell _ _ c.args.seat.now.me c.take.new.seat.me c.if-take-ne0.false c.take.ensures.told in
    let w = c.requires.tied.working in
    let is = c.requires.touches in
    stops_write_there c.args.cell _ _ c.stops.new.seat.me c.args.request.now c.stops.result taken c.stops.ensures.kept c.stops.ensures.stops c.if-stops.true
    c.args.traced.now is.name w.role w.traced c.requires.asks.asks is.touches is.number
