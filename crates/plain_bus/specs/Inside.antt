-- What a bus holds, as plain data.
use Rattle.std.specs.Prelude.{◌≡◌}
use Rattle.ram_block.specs.Shape.{total_pages_of}
use Rattle.plain_bus.specs.Bus.{BusData, IsBus}
use Rattle.plain_bus.specs.declared.plain_bus.PlainBus.TheInside.{Inside}

abbrev pub bus_of : Inside → BusData
bus_of b = record {
  machine = b.cells.machine;
  writable = b.cells.writable;
  queue = b.faults.list;
  blocked = b.blocked;
  order = b.order;
  ends = b.ends.items;
  picked = b.picked.items;
  picks = b.picks;
  last = b.last;
  instant = b.instant.value;
  run = b.run;
}

-- the queue is one of the machine's pages
pub record IsInside (b : Inside) : Type 0 where
  pub bus : IsBus (bus_of b)
  pub pages : b.faults.pages ≡ total_pages_of b.cells.machine.shape
