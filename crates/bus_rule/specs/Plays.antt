-- What each kind of atomic step makes of a view, and where it may be made (this project's own, docs/ARCHITECTURE.md).
use Rattle.std.specs.Prelude.{◌≡◌, ℕ, ◌+◌, ◌-◌, ◌*◌, ◌<◌, ◌≤◌, Bool, true, false, List, [], ◌∷◌, ◌++◌, length, drop, replicate, not, slice_get, slice_set, Option, Some, None}
use mathlib.Core.Option as table
use lib.ListN.{get_elem?}
use Rattle.atomic_table.specs.Table.{Me, rest}
use Rattle.ram_block.specs.Shape.{total_pages_of}
use Rattle.ram_block.specs.declared.cause.Cause.{Cause}
use Rattle.ram_block.specs.declared.page_buf.TheConstants.{PAGE}
use Rattle.rv64i_step.specs.Event.{fetched_vcpu}
use Rattle.rv64i_step.specs.Request.{written_page}
use Rattle.rv64i_step.specs.Vcpu.{VcpuData}
use Rattle.rv64i_step.specs.declared.request.Request.TheVariants.{NoFetch}
use Rattle.medium.specs.Count.{counted}
use Rattle.flat_machine.specs.Cell.{CellName}
use Rattle.flat_machine.specs.Machine.{MachineData, page_of}
use Rattle.flat_machine.specs.Next.{cell_of, vcpu_after}
use Rattle.flat_machine.specs.Run.{steps_of, vcpu_ended}
use Rattle.wp_fault.specs.Queue.{QueueData, queued}
use Rattle.page_cell.specs.Cell.{cell_after, cell_gives, stops_at}
use Rattle.page_cell.specs.declared.cell.Cell.{Cell}
use Rattle.page_cell.specs.declared.cell.Cell.TheVariants as cells
use Rattle.page_cell.specs.declared.phase.Phase.{Phase}
use Rattle.page_cell.specs.declared.phase.Phase.TheVariants.{Protected, Writable}
use Rattle.bus_rule.specs.Locks.{Has}
use Rattle.bus_rule.specs.Kept.{cell_number, queue_number, phase_of}
use Rattle.bus_rule.specs.Views.{Entry, number_of, Task, Book, Role, Spent, Working, Saving, PassData, request_in}

-- ---- At the start

-- a pass that knows of nothing and holds nothing
abbrev pub idle_pass : Role → PassData
idle_pass role = record { role = role; held = []; busy = 0; found = None; under = None }

abbrev pub spent_pass : PassData
spent_pass = idle_pass Spent

-- the saver's book for a bus that starts at machine i, for a phase of n instructions
abbrev pub first_book : MachineData → ℕ → Bool → Book
first_book i n protect = record {
  instant = i;
  run = n;
  split = 0;
  joined = [];
  writable = replicate (total_pages_of i.shape) (not protect);
  picked = replicate (total_pages_of i.shape) false;
  fronts = [];
  empties = 0;
}

abbrev pub first_pass : MachineData → ℕ → Bool → PassData
first_pass i n protect = idle_pass (Saving (first_book i n protect))

-- ---- Take, found held, give

-- cell c was taken, with this content
abbrev pub with_cell : PassData → ℕ → Cell → PassData
with_cell p c x = record p { held = (c, x) ∷ p.held }

-- the cell taken last, where it is a protected page
abbrev pub protected_top : List (ℕ × Cell) → Option ℕ
protected_top ((page, cells.Page bytes Protected) ∷ below) = Some page
protected_top _ = None

-- cell c was found held
abbrev pub with_found : PassData → ℕ → PassData
with_found p c = record p { busy = counted p.busy; found = Some c; under = protected_top p.held }

-- the cell taken last was given back
abbrev pub without_cell : PassData → PassData
without_cell p = record p { held = rest p.held }

-- the pass takes cells, and doesn't hold this one
pub record CanTake (p : PassData) (c : ℕ) : Type 0 where
  pub number : 0 < number_of p.role
  pub free : (x : Cell) → Has p.held c x → ⊥

-- the cell of this number is a page, a device or the queue, of a machine with so many pages
abbrev pub IsKind : ℕ → ℕ → Cell → Type 0
IsKind pages c (cells.Page bytes phase) = (c < pages) × (length bytes ≡ PAGE)
IsKind pages c (cells.Serial s) = c ≡ pages
IsKind pages c (cells.Timer cmp) = c ≡ pages + 1
IsKind pages c (cells.Faults q) = (c ≡ queue_number pages) × (q.pages ≡ pages)

-- what the saver knows of a page: its phase, and the bytes of one that is protected
pub record IsBookedPage (b : Book) (c : ℕ) (bytes : List ℕ) (phase : Phase) : Type 0 where
  pub flag : Bool
  pub stands : slice_get b.writable c ≡ Some flag
  pub is_in : phase ≡ phase_of flag
  pub holds : flag ≡ false → bytes ≡ page_of b.instant c

abbrev pub IsBookedCell : Book → ℕ → Cell → Type 0
IsBookedCell b c (cells.Page bytes phase) = IsBookedPage b c bytes phase
IsBookedCell b c _ = Unit {0}

-- what a pass knows of a cell that it takes
abbrev pub IsFound : Role → ℕ → Cell → Type 0
IsFound Spent c x = Unit {0}
IsFound (Working t) c x = IsKind (total_pages_of t.shape) c x
IsFound (Saving b) c x = IsKind (total_pages_of b.instant.shape) c x × IsBookedCell b c x

-- ---- Event

-- the vCPU is this one after an event that found so many events on the clock
abbrev pub with_event : Task → VcpuData → ℕ → Task
with_event t v clock = record t { vcpu = v; trace = t.trace ++ (clock - t.start, v) ∷ []; wants = None }

-- with the cell that it touches
abbrev pub with_cell_event : Task → Cell → ℕ → Task
with_cell_event t x clock = with_event t (vcpu_after t.shape t.vcpu (request_in t) (cell_gives (request_in t) x clock)) clock

-- with none
abbrev pub with_no_fetch : Task → ℕ → Task
with_no_fetch t clock = with_event t (fetched_vcpu t.shape t.vcpu None) clock

-- the cell taken last has this content from now on
abbrev pub with_content : List (ℕ × Cell) → Cell → List (ℕ × Cell)
with_content [] x = []
with_content (y ∷ ys) x = (y.0, x) ∷ ys

-- the view after the event of a vCPU with the cell x, which was taken last
abbrev pub after_cell_event : PassData → Task → Cell → ℕ → PassData
after_cell_event p t x clock = record p { role = Working (with_cell_event t x clock); held = with_content p.held (cell_after (request_in t) x) }

-- and after that of one that has nothing to fetch
abbrev pub after_no_fetch : PassData → Task → ℕ → PassData
after_no_fetch p t clock = record p { role = Working (with_no_fetch t clock) }

-- the pass is a vCPU's, whose phase has not ended
pub record CanGoOn (p : PassData) (t : Task) : Type 0 where
  pub role : p.role ≡ Working t
  pub going : vcpu_ended t.until t.vcpu ≡ false

-- and the cell that its next event touches was taken last, and doesn't stop it
pub record CanTouch (p : PassData) (t : Task) (c : ℕ) (x : Cell) : Type 0 where
  pub pass : CanGoOn p t
  pub cell : CellName
  pub touches : cell_of (request_in t) ≡ Some cell
  pub number : c ≡ cell_number (total_pages_of t.shape) cell
  pub top : (below : List (ℕ × Cell)) × (p.held ≡ (c, x) ∷ below)
  pub free : stops_at (request_in t) x ≡ false

-- and there is nothing to fetch
pub record CanStopShort (p : PassData) (t : Task) : Type 0 where
  pub pass : CanGoOn p t
  pub cause : Cause
  pub asks : request_in t ≡ NoFetch cause

-- an event drew this number: it is above those of the vCPU's earlier events, which are fewer than two for each
-- instruction of the phase
pub record IsDrawn (t : Task) (clock : ℕ) : Type 0 where
  pub counted : t.start ≤ clock
  pub above : (a : ℕ) (e : Entry) → get_elem? t.trace a ≡ table.some e → t.start + e.0 < clock
  pub room : length t.trace < 2 * t.run

-- ---- Mark

-- a page was released: it is writable from now on, with its bytes unchanged
abbrev pub with_released : Book → ℕ → Book
with_released b page = record b { writable = slice_set b.writable page true }

abbrev pub after_release : PassData → Book → ℕ → List ℕ → PassData
after_release p b page bytes = record p { role = Saving (with_released b page); held = with_content p.held (cells.Page bytes Writable) }

-- the saver holds the page, which is protected, and took it last
pub record CanRelease (p : PassData) (b : Book) (page : ℕ) (bytes : List ℕ) : Type 0 where
  pub role : p.role ≡ Saving b
  pub top : (below : List (ℕ × Cell)) × (p.held ≡ (page, cells.Page bytes Protected) ∷ below)

-- a vCPU was stopped on a page
abbrev pub with_stop : Task → ℕ → Task
with_stop t page = record t { blocked = counted t.blocked; wants = Some page }

abbrev pub after_stop : PassData → Task → ℕ → QueueData → PassData
after_stop p t page q = record p { role = Working (with_stop t page); held = with_content p.held (cells.Faults (record q { list = queued q.list page })) }

-- the pass is a vCPU's, it holds the protected page that stops the next event, and took the queue last, which stands on
-- top of the page: a cell with a queue is the one that the rule has for it, so c is the queue's number
pub record CanStop (p : PassData) (t : Task) (c page : ℕ) (bytes : List ℕ) (q : QueueData) : Type 0 where
  pub role : p.role ≡ Working t
  pub writes : written_page (request_in t) ≡ Some page
  pub top : (below : List (ℕ × Cell)) × (p.held ≡ (c, cells.Faults q) ∷ (page, cells.Page bytes Protected) ∷ below)

-- a page was the front of the queue and was picked
abbrev pub with_picked : Book → ℕ → Book
with_picked b page = record b { picked = slice_set b.picked page true; fronts = b.fronts ++ page ∷ [] }

-- the queue was found empty
abbrev pub with_empty : Book → Book
with_empty b = record b { empties = counted b.empties }

-- the front of the queue was picked, or there is none
abbrev pub book_after_pick : Book → List ℕ → Book
book_after_pick b [] = with_empty b
book_after_pick b (page ∷ queue) = with_picked b page

abbrev pub after_pick : PassData → Book → QueueData → PassData
after_pick p b q = record p { role = Saving (book_after_pick b q.list); held = with_content p.held (cells.Faults (record q { list = drop 1 q.list })) }

-- the saver took the queue last
pub record CanPick (p : PassData) (b : Book) (c : ℕ) (q : QueueData) : Type 0 where
  pub role : p.role ≡ Saving b
  pub top : (below : List (ℕ × Cell)) × (p.held ≡ (c, cells.Faults q) ∷ below)

-- ---- Split

-- vCPU k of the instant, of which this is known: it has made no event
abbrev pub first_task : Book → ℕ → VcpuData → Task
first_task b k v = record {
  who = k;
  shape = b.instant.shape;
  vcpu = v;
  run = b.run;
  until = steps_of b.instant k + b.run;
  start = b.instant.clock;
  trace = [];
  blocked = 0;
  wants = None;
}

abbrev pub role_for : Book → ℕ → Option VcpuData → Role
role_for b k None = Spent
role_for b k (Some v) = Working (first_task b k v)

-- the next vCPU's pass
abbrev pub next_role : Role → Role
next_role (Saving b) = role_for b b.split (slice_get b.instant.vcpus b.split)
next_role _ = Spent

abbrev pub next_pass : PassData → PassData
next_pass p = idle_pass (next_role p.role)

-- and what is left: the saver's pass has split off one more
abbrev pub with_split : Role → Role
with_split (Saving b) = Saving (record b { split = b.split + 1 })
with_split role = role

abbrev pub after_split : PassData → PassData
after_split p = record p { role = with_split p.role }

-- some vCPU's pass isn't split off yet
pub record CanSplit (p : PassData) (b : Book) : Type 0 where
  pub role : p.role ≡ Saving b
  pub more : b.split < length b.instant.vcpus

-- ---- Join

-- the saver's pass has taken in this one
abbrev pub with_joined : Role → Role → Role
with_joined (Saving b) (Working t) = Saving (record b { joined = b.joined ++ t ∷ [] })
with_joined role other = role

abbrev pub after_join : PassData → PassData → PassData
after_join p other = record p { role = with_joined p.role other.role }

-- the saver's pass takes in a vCPU's, which holds no cell
pub record CanJoin (p other : PassData) (b : Book) (t : Task) : Type 0 where
  pub role : p.role ≡ Saving b
  pub other_role : other.role ≡ Working t
  pub none_held : other.held ≡ []

-- ---- What a give needs beside the view: the cell that is out has its value due
pub record CanGive (me : Me Cell PassData) (c : ℕ) : Type 0 where
  pub cell : Cell
  pub due : (below : List (ℕ × Cell)) × (me.0.held ≡ (c, cell) ∷ below)
  pub out : (below : List (ℕ × Cell)) × (me.1 ≡ (c, cell) ∷ below)
