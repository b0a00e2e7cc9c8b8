use Rattle.std.proofs.Common.{◌≡◌, ℕ, ◌<◌, true, sym, subst}
use Rattle.flat_machine.specs.Run.{Phase, has_ended}
use Rattle.plain_bus.specs.Bus.{BusData}
use Rattle.plain_bus.specs.Inside.{bus_of}
use Rattle.plain_bus.proofs.Starts.{closes}
use Rattle.plain_bus.proofs.plain_bus.PlainBus.close.Goals as goal

pub returns-clause-phase : goal.returns-clause-phase
returns-clause-phase c = λ over.
    let ended = subst (λ (d : BusData). (k : ℕ) → k < d.instant.shape.vcpus → has_ended d.instant d.run c.into_machine.result k ≡ true) (sym c.self.view_is) over in
    subst (λ (d : BusData). Phase d.instant d.run c.self.inside.order.members) c.self.view_is
    (closes (bus_of c.self.inside) c.into_machine.result c.self.invariant.bus c.into_machine.ensures.machine ended)
