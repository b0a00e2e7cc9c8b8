-- Both ends of a relay over the bus of one thread (this project's own, docs/ARCHITECTURE.md).
use Rattle.std.specs.Prelude.{◌≡◌, ℕ, Bool, false, List, None}
use Rattle.ram_block.specs.Shape.{total_pages_of}
use Rattle.plain_bus.specs.Bus.{BusData, IsBus, StandsFor}
use Rattle.plain_bus.specs.Plant.{plant_state}
use Rattle.write_pipe.specs.CopyEnd.{CopyData, IsOfCopy}
use Rattle.write_pipe.specs.WriteEnd.{IsWriteEnd, WriteData}

-- the bus as a plant
abbrev pub bus_total : BusData → ℕ
bus_total d = total_pages_of d.machine.shape

abbrev pub bus_writable : BusData → List Bool
bus_writable d = d.writable

-- the bus is that of the copier's end
abbrev pub IsOfBus : CopyData BusData → BusData → Type 0
IsOfBus copier bus = IsOfCopy bus_total StandsFor copier (plant_state bus)

-- the writer's end is one of a relay over a bus
abbrev pub IsEnd : WriteData BusData → Type 0
IsEnd writer = IsWriteEnd bus_total bus_writable StandsFor IsBus writer

-- both ends of a relay over so many pages; where no page is held, none is in the hand of the writer's end
pub record AreEnds (bus : BusData) (copier : CopyData BusData) (writer : WriteData BusData) (pages : ℕ) (held : Bool) : Type 0 where
  pub copies : IsOfBus copier bus
  pub writes : IsEnd writer
  pub count : pages ≡ bus_total writer.outlet.from
  pub free : held ≡ false → writer.hand ≡ None
