use Rattle.std.proofs.Common.{sym, subst}
use Rattle.page_cell.specs.Plant.{pages_of}
use Rattle.plain_bus.specs.Bus.{BusData, StandsFor}
use Rattle.plain_bus.proofs.Starts.{start_stands}
use Rattle.plain_bus.proofs.plain_bus.PlainBus.start.Goals as goal

pub returns-in-Ok-clause-stands : goal.returns-in-Ok-clause-stands
returns-in-Ok-clause-stands c =
    subst (λ (b : BusData). StandsFor b (pages_of c.args.machine)) (sym c.over.ensures.bus) (start_stands c.args.machine c.args.run c.args.protect)
