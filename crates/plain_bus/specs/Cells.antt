-- A machine whose pages are in cells (this project's own, docs/ARCHITECTURE.md).
use Rattle.std.specs.Prelude.{◌≡◌, ℕ, Bool, true, false, List, length, map, slice_set, Option, Some, None}
use Rattle.ram_block.specs.declared.page_buf.TheConstants.{PAGE}
use Rattle.page_cell.specs.Cell.{bytes_in, phase_in}
use Rattle.page_cell.specs.declared.cell.Cell.{Cell}
use Rattle.page_cell.specs.declared.cell.Cell.TheVariants.{Page}
use Rattle.page_cell.specs.declared.phase.Phase.{Phase}
use Rattle.page_cell.specs.declared.phase.Phase.TheVariants.{Protected, Writable}
use Rattle.page_cell.specs.declared.plant.Taken.{Taken}
use Rattle.page_cell.specs.declared.plant.Taken.TheVariants.{Copied, Stale}
use Rattle.flat_machine.specs.Machine.{MachineData}
use Rattle.flat_machine.specs.Next.{next}
use Rattle.flat_machine.specs.Page.{joined}

-- the machine, and which of its pages are writable
pub record CellsData : Type 0 where
  pub machine : MachineData
  pub writable : List Bool

-- a page of so many bytes
abbrev pub IsWholePage : Cell → Type 0
IsWholePage (Page bytes phase) = length bytes ≡ PAGE
IsWholePage _ = ⊥

-- whether a page in this phase is writable
abbrev pub is_writable : Phase → Bool
is_writable Protected = false
is_writable Writable = true

abbrev pub writable_in : Cell → Bool
writable_in cell = is_writable (phase_in cell)

-- the RAM that the cells of the pages hold
unfoldable pub ram_of : List Cell → List ℕ
ram_of cells = joined (map bytes_in cells)

-- which of them are writable
unfoldable pub flags_of : List Cell → List Bool
flags_of cells = map writable_in cells

-- one event of vCPU k, or a page that stopped it and no change
abbrev pub StepsTo : CellsData → ℕ → Option ℕ → CellsData → Type 0
StepsTo old k None new = (next old.machine k ≡ Some new.machine) × (new.writable ≡ old.writable)
StepsTo old k (Some p) new = new ≡ old

-- what a take of a page answers, by whether the page is protected
abbrev pub taken_where : Bool → Taken
taken_where true = Copied
taken_where false = Stale

-- which pages are writable after it
abbrev pub flags_after : List Bool → ℕ → Bool → List Bool
flags_after writable p true = slice_set writable p true
flags_after writable p false = writable

-- and what the buffer holds: the page, or what it held before
abbrev pub buffer_after : List ℕ → List ℕ → Bool → List ℕ
buffer_after page before true = page
buffer_after page before false = before
