-- What each kind of atomic step tells the pass that makes it: its view and the cells that are out with it before and
-- after, of the number that the step found (this project's own, docs/ARCHITECTURE.md).
use Rattle.std.specs.Prelude.{◌≡◌, ◌≢◌, ℕ, zero, suc, List, [], ◌∷◌, drop}
use Rattle.atomic_table.specs.Table.{Me, rest}
use Rattle.wp_fault.specs.Queue.{QueueData, queued}
use Rattle.page_cell.specs.declared.cell.Cell.{Cell}
use Rattle.page_cell.specs.declared.cell.Cell.TheVariants as cells
use Rattle.bus_rule.specs.Plays.{with_cell, with_found, without_cell, after_cell_event, after_no_fetch, after_release, after_stop, after_pick, IsDrawn, IsFound}
use Rattle.bus_rule.specs.Views.{Role, Working, Saving, PassData}

abbrev pub PassMe : Type 0
PassMe = Me Cell PassData

-- cell c was at home, and is out with the pass now
pub record IsTaken (c : ℕ) (before after : PassMe) : Type 0 where
  pub cell : Cell
  pub known : IsFound before.0.role c cell
  pub view : after ≡ (with_cell before.0 c cell, (c, cell) ∷ before.1)

-- the word had this number, which is another pass's
pub record IsFoundHeld (c number found : ℕ) (before after : PassMe) : Type 0 where
  pub held : found ≢ 0
  pub others : found ≢ number
  pub view : after ≡ (with_found before.0 c, before.1)

-- a take of cell c by a pass of this number
abbrev pub TakesOrFinds : ℕ → ℕ → PassMe → ℕ → PassMe → Type 0
TakesOrFinds c number before zero after = IsTaken c before after
TakesOrFinds c number before (suc found) after = IsFoundHeld c number (suc found) before after

-- a give
abbrev pub GivesBack : PassMe → PassMe → Type 0
GivesBack before after = after ≡ (without_cell before.0, rest before.1)

-- ---- Event

abbrev pub IsDrawnBy : Role → ℕ → Type 0
IsDrawnBy (Working t) clock = IsDrawn t clock
IsDrawnBy role clock = Unit {0}

abbrev pub event_by : PassData → Role → List (ℕ × Cell) → ℕ → PassData
event_by p (Working t) (y ∷ ys) clock = after_cell_event p t y.1 clock
event_by p role held clock = p

-- with the cell that was taken last
pub record DrawsWithCell (before : PassMe) (clock : ℕ) (after : PassMe) : Type 0 where
  pub drawn : IsDrawnBy before.0.role clock
  pub view : after ≡ (event_by before.0 before.0.role before.0.held clock, before.1)

abbrev pub no_fetch_by : PassData → Role → ℕ → PassData
no_fetch_by p (Working t) clock = after_no_fetch p t clock
no_fetch_by p role clock = p

-- with none
pub record DrawsAlone (before : PassMe) (clock : ℕ) (after : PassMe) : Type 0 where
  pub drawn : IsDrawnBy before.0.role clock
  pub view : after ≡ (no_fetch_by before.0 before.0.role clock, before.1)

-- ---- Mark

abbrev pub release_by : PassData → Role → List (ℕ × Cell) → PassData
release_by p (Saving b) ((page, cells.Page bytes phase) ∷ ys) = after_release p b page bytes
release_by p role held = p

abbrev pub stop_by : PassData → Role → List (ℕ × Cell) → PassData
stop_by p (Working t) ((c, cells.Faults q) ∷ (page, x) ∷ ys) = after_stop p t page q
stop_by p role held = p

abbrev pub pick_by : PassData → Role → List (ℕ × Cell) → PassData
pick_by p (Saving b) ((c, cells.Faults q) ∷ ys) = after_pick p b q
pick_by p role held = p

abbrev pub MarksAs : (PassData → Role → List (ℕ × Cell) → PassData) → PassMe → PassMe → Type 0
MarksAs marked before after = after ≡ (marked before.0 before.0.role before.0.held, before.1)

-- ---- The cell that is out

-- the cell that was taken last, and went out to the pass
abbrev pub top_of : List (ℕ × Cell) → Cell
top_of [] = cells.Timer 0
top_of (y ∷ ys) = y.1

-- cell c is that one
abbrev pub HasOut : ℕ → PassMe → Type 0
HasOut c me = me.1 ≡ (c, top_of me.1) ∷ rest me.1

-- and has this content now
abbrev pub with_out : ℕ → PassMe → Cell → PassMe
with_out c me x = (me.0, (c, x) ∷ rest me.1)

-- the queue in a cell
abbrev pub queue_in : Cell → QueueData
queue_in (cells.Faults queue) = queue
queue_in _ = record { pages = 0; list = [] }

-- the cell is the queue
abbrev pub IsFaults : Cell → Type 0
IsFaults (cells.Faults queue) = Unit {0}
IsFaults _ = ⊥

-- the queue with a page put last, unless it is queued, and without its front
abbrev pub with_queued : QueueData → ℕ → Cell
with_queued q page = cells.Faults (record q { list = queued q.list page })

abbrev pub without_front : QueueData → Cell
without_front q = cells.Faults (record q { list = drop 1 q.list })
