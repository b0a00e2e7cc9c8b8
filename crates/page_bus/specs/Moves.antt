-- The cells that a machine is moved into, and moved back from.
use Rattle.std.specs.Prelude.{◌≡◌, ℕ, ◌≤◌, ◌<◌, ◌^◌, Bool, List, [], length, map, slice_get, vec_capacity}
use Rattle.ram_block.specs.Shape.{total_pages_of}
use Rattle.flat_machine.specs.Laws.{ServesAll}
use Rattle.flat_machine.specs.Machine.{MachineData}
use Rattle.page_cell.specs.Cell.{bytes_in}
use Rattle.page_cell.specs.declared.cell.Cell.{Cell}
use Rattle.page_cell.specs.declared.cell.Cell.TheVariants as cells
use Rattle.page_cell.specs.declared.phase.Phase.{Phase}
use Rattle.bus_rule.specs.Kept.{cells_of, due}
use Rattle.page_bus.specs.declared.bare_machine.BareMachine.{BareMachine}

-- a page in this phase
abbrev pub page_in : Phase → List ℕ → Cell
page_in phase bytes = cells.Page bytes phase

abbrev pub are_pages_in : Phase → List (List ℕ) → List Cell
are_pages_in phase pages = map (page_in phase) pages

-- the bytes of these pages
abbrev pub bytes_of_all : List Cell → List (List ℕ)
bytes_of_all pages = map bytes_in pages

-- the cells of machine m, of which these pages are writable, with this queue
pub record AreCellsOf (m : MachineData) (writable : List Bool) (queue : List ℕ) (all : List Cell) : Type 0 where
  pub flags : length writable ≡ total_pages_of m.shape
  pub count : length all ≡ cells_of m.shape
  pub each : (c : ℕ) → c < cells_of m.shape → slice_get all c ≡ due m writable queue c

-- the rest of machine m, and room for its pages
pub record IsBareOf (m : MachineData) (bare : BareMachine) : Type 0 where
  pub shape : bare.shape ≡ m.shape
  pub vcpus : bare.vcpus.items ≡ m.vcpus
  pub clock : bare.clock ≡ m.clock
  pub ram : bare.ram.items ≡ []
  pub room : total_pages_of m.shape ≤ vec_capacity bare.ram

-- these are the parts of a machine
pub record IsWhole (bare : BareMachine) (all : List Cell) : Type 0 where
  pub machine : MachineData
  pub writable : List Bool
  pub queue : List ℕ
  pub serves : ServesAll machine
  pub vcpus : length machine.vcpus ≡ machine.shape.vcpus
  pub clock : machine.clock ≤ 2 ^ 63
  pub bare_of : IsBareOf machine bare
  pub cells : AreCellsOf machine writable queue all
