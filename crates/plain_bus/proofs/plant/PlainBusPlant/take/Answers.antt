use Rattle.std.proofs.Common.{◌≡◌, ◌<◌, sym, subst}
use Rattle.ram_block.specs.Shape.{total_pages_of}
use Rattle.page_cell.specs.Core.{PageTurn, core_turn}
use Rattle.page_cell.specs.Plant.{LeavesTake}
use Rattle.plain_bus.specs.Bus.{BusData, core_of, recorded_after}
use Rattle.plain_bus.specs.Inside.{bus_of}
use Rattle.plain_bus.specs.Plant.{plant_state}
use Rattle.plain_bus.proofs.Plants.{took, took_core}
use Rattle.plain_bus.proofs.plant.PlainBusPlant.take.Goals as goal

pub returns-clause-leaves : goal.returns-clause-leaves
returns-clause-leaves c =
    let within : c.args.page < total_pages_of c.self.inside.cells.machine.shape =
    subst (λ (d : BusData). c.args.page < total_pages_of d.machine.shape) (sym c.self.view_is) c.requires.page in
    subst
    (λ (d : BusData). LeavesTake (plant_state d)
    (plant_state (record (bus_of c.self.inside) { machine = c.take.new.self.machine; writable = c.take.new.self.writable })) c.args.page c.args.into.now
    c.take.new.into c.take.result)
    c.self.view_is
    (took (bus_of c.self.inside) c.args.page c.args.into.now c.take.new.into c.take.new.self c.take.result c.self.invariant.bus within c.take.ensures.taken
    c.take.ensures.machine c.take.ensures.writable c.take.ensures.buffer)

pub returns-clause-core : goal.returns-clause-core
returns-clause-core c = λ recorded.
    subst
    (λ (d : BusData).
    core_of (record (bus_of c.self.inside) { machine = c.take.new.self.machine; writable = c.take.new.self.writable })
    (recorded_after recorded c.args.page c.take.new.into c.take.result)
    ≡ core_turn (core_of d recorded) (PageTurn c.args.page))
    c.self.view_is
    (took_core (bus_of c.self.inside) c.args.page c.args.into.now c.take.new.into c.take.new.self c.take.result recorded c.take.ensures.taken
    c.take.ensures.machine c.take.ensures.writable c.take.ensures.buffer)
