use Rattle.std.proofs.Common.{◌∙◌, ap, sym}
use Rattle.rv64i_step.specs.Event.{request_of}
use Rattle.page_bus.specs.Traced.{TracedData}
use Rattle.page_bus.proofs.Turned.{no_cell}
use Rattle.page_bus.proofs.turn.turn.Goals as goal

pub event_alone-requires-clause-asks : goal.event_alone-requires-clause-asks
event_alone-requires-clause-asks c =
    let asked = c.request-request.ensures in
    no_cell c.pages.result c.args.traced.now c.args.seat.now.me.0 c.request-request.result
    (record {
      going = sym c.has_ended.ensures.value ∙ c.if-has_ended.false;
      asks = asked.value ∙ ap (λ (d : TracedData). request_of d.shape d.vcpu) c.requires.tied.working.traced;
      stage = asked.stage;
      can = asked.can;
    })
    (sym c.cell_touched.ensures ∙ c.in-None.is)
