use Rattle.page_bus.proofs.Turned.{event_alone}
use Rattle.page_bus.proofs.turn.event_alone.Goals as goal

pub returns-clause-event : goal.returns-clause-event
returns-clause-event c =
    event_alone c.args.seat.now.me c.draw_alone-clock.new.seat.me c.requires.asks.0 c.draw_alone-clock.result c.requires.tied.working.role c.requires.asks.1.asks
    c.draw_alone-clock.ensures.told
