-- The bus of one thread as a plant (this project's own, docs/ARCHITECTURE.md).
use Rattle.std.specs.Prelude.{ℕ, List, [], Some, false}
use Rattle.ram_block.specs.Shape.{total_pages_of}
use Rattle.flat_machine.specs.Machine.{MachineData, boot}
use Rattle.flat_machine.specs.Order.{OrderData}
use Rattle.page_cell.specs.Plant.{PlantState}
use Rattle.plain_bus.specs.Bus.{BusData, IsBus, StandsFor, bus_from}

-- what neither a pick nor a take changes: the machine, the steps at which each phase ends, the order, how often a vCPU
-- was stopped, and the machine at the start with the length of the phase
pub record RestData : Type 0 where
  pub machine : MachineData
  pub ends : List ℕ
  pub order : OrderData
  pub blocked : ℕ
  pub instant : MachineData
  pub run : ℕ

abbrev pub rest_of : BusData → RestData
rest_of d = record {
  machine = d.machine;
  ends = d.ends;
  order = d.order;
  blocked = d.blocked;
  instant = d.instant;
  run = d.run;
}

-- what the plant shows: no lock is ever found held
abbrev pub plant_state : BusData → PlantState RestData
plant_state d = record {
  total = total_pages_of d.machine.shape;
  writable = d.writable;
  picked = d.picked;
  busy = 0;
  rest = rest_of d;
  stands = StandsFor d;
  fits = IsBus d;
  picks = d.picks;
  last = d.last;
  queue = Some d.queue;
}

-- the rest that no bus has
abbrev pub no_rest : RestData
no_rest = rest_of (bus_from (boot (record { vcpus = 0; blocks = 0; pages = 0 }) [] []) 0 false)
