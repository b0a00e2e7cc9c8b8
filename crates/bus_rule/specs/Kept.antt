-- The rule of the bus: what holds of its words, its cells at home and its passes between any two atomic steps (this
-- project's own, docs/ARCHITECTURE.md).
use Rattle.std.specs.Prelude.{◌≡◌, ℕ, zero, suc, ◌+◌, ◌-◌, ◌≤◌, Bool, true, false, List, All, length, map, slice_get, slice_index, Option, Some, None}
use Rattle.atomic_table.specs.Table.{State}
use Rattle.ram_block.specs.Shape.{ShapeData, total_pages_of}
use Rattle.ram_block.specs.declared.limits.TheConstants.{MAX_PHASE}
use Rattle.flat_machine.specs.Cell.{CellName, PageCell, SerialCell, TimerCell}
use Rattle.flat_machine.specs.Machine.{MachineData, IsMachine, Rest, page_of}
use Rattle.page_cell.specs.Core.{is_protected}
use Rattle.page_cell.specs.declared.cell.Cell.{Cell}
use Rattle.page_cell.specs.declared.cell.Cell.TheVariants as cells
use Rattle.page_cell.specs.declared.phase.Phase.{Phase}
use Rattle.page_cell.specs.declared.phase.Phase.TheVariants.{Protected, Writable}
use Rattle.bus_rule.specs.Locks.{Locks}
use Rattle.bus_rule.specs.Faults.{Faults}
use Rattle.bus_rule.specs.Story.{IsBooked, Story}
use Rattle.bus_rule.specs.Views.{Book, PassData, hand_of, role_of}

-- ---- The numbers of cells: page p is p, then the serial device, the timer and the queue of faulted pages

abbrev pub cell_number : ℕ → CellName → ℕ
cell_number pages (PageCell p) = p
cell_number pages SerialCell = pages
cell_number pages TimerCell = pages + 1

abbrev pub queue_number : ℕ → ℕ
queue_number pages = pages + 2

abbrev pub cells_of : ShapeData → ℕ
cells_of shape = total_pages_of shape + 3

-- ---- What each cell has to contain

-- a page's phase
abbrev pub phase_of : Bool → Phase
phase_of false = Protected
phase_of true = Writable

-- behind the pages
abbrev pub device_due : MachineData → ℕ → List ℕ → ℕ → Option Cell
device_due m pages queue zero = Some (cells.Serial m.serial)
device_due m pages queue (suc zero) = Some (cells.Timer m.cmp)
device_due m pages queue (suc (suc zero)) = Some (cells.Faults (record { pages = pages; list = queue }))
device_due m pages queue _ = None

-- the cell of this number, by whether it is a page that is writable or protected, or none
abbrev pub due_by : MachineData → ℕ → List ℕ → ℕ → Option Bool → Option Cell
due_by m pages queue c (Some w) = Some (cells.Page (page_of m c) (phase_of w))
due_by m pages queue c None = device_due m pages queue (c - pages)

-- each cell has the bytes of the machine's page and the phase that the page is in, or the content of the machine's
-- device, or the queue
unfoldable pub due : MachineData → List Bool → List ℕ → ℕ → Option Cell
due m writable queue c = due_by m (length writable) queue c (slice_get writable c)

-- ---- The rule

-- what a bus may start at: a machine at rest, for a phase of n instructions
pub record IsStart (i : MachineData) (n : ℕ) : Type 0 where
  pub machine : IsMachine i
  pub rest : Rest i
  pub run : n ≤ MAX_PHASE

-- the saver's book has a flag for each page; without protection each page is writable; and a page that isn't has its
-- bytes of the instant
pub record IsFlagged (i : MachineData) (protect : Bool) (now : MachineData) (b : Book) : Type 0 where
  pub writable : length b.writable ≡ total_pages_of i.shape
  pub picked : length b.picked ≡ total_pages_of i.shape
  pub unprotected : protect ≡ false → All (λ w. w ≡ true) b.writable
  pub instant : (p : ℕ) → is_protected b.writable p ≡ true → page_of now p ≡ page_of i p

-- of a bus that started at machine i, for a phase of n instructions: there is an order of the events so far, a machine,
-- a queue and a book of the saver, such that the clock word has the machine's clock, each lock word and each cell is as
-- the hands of the passes have it, and the passes know what is so
pub record Kept (i : MachineData) (n : ℕ) (protect : Bool) (s : State Cell PassData) : Type 0 where
  -- the vCPU of each event so far
  pub order : List ℕ
  -- the machine after them
  pub now : MachineData
  -- the list of the queue, at home or held
  pub queue : List ℕ
  -- what the saver's pass knows
  pub book : Book
  pub start : IsStart i n
  pub cells : length s.homes ≡ cells_of i.shape
  -- word 0 counts the events
  pub clock : slice_index s.words 0 ≡ now.clock
  -- the lock words, the cells at home, and those that are held
  pub locks : Locks (due now book.writable queue) s.words s.homes (map hand_of s.views)
  -- the saver's pass is the first, and no other is a saver's
  pub booked : IsBooked i n book (map role_of s.views)
  -- the traces, the vCPUs, and which passes there are
  pub story : Story i n order now book.split (map role_of s.views)
  -- which pages are writable, and that the others have their bytes of the instant
  pub flagged : IsFlagged i protect now book
  -- which pages are wanted, queued and picked, and why
  pub faults : Faults i order book.writable queue book.picked (map role_of s.views)
