-- A cell, what an event makes of it, and which events it stops (this project's own, docs/ARCHITECTURE.md).
use Rattle.std.specs.Prelude.{◌≡◌, ℕ, ◌^◌, ◌<◌, Bool, true, false, List, [], length, Option, Some, None}
use Rattle.ram_block.specs.declared.page_buf.TheConstants.{PAGE}
use Rattle.rv64i_step.specs.declared.request.Request.{Request}
use Rattle.rv64i_step.specs.declared.request.Request.TheVariants.{Store, Amo}
use Rattle.serial_timer.specs.Serial.{IsSerial}
use Rattle.wp_fault.specs.Queue.{IsQueue}
use Rattle.flat_machine.specs.Cell as flat
use Rattle.flat_machine.specs.Cell.{page_gives, page_after, serial_gives, serial_after, timer_gives, timer_after}
use Rattle.flat_machine.specs.Fits.{FitsPage, FitsSerial, FitsTimer}
use Rattle.page_cell.specs.declared.cell.Cell.{Cell}
use Rattle.page_cell.specs.declared.cell.Cell.TheVariants.{Page, Serial, Timer, Faults}
use Rattle.page_cell.specs.declared.plant.Taken.{Taken}
use Rattle.page_cell.specs.declared.plant.Taken.TheVariants.{Copied, Stale}
use Rattle.page_cell.specs.declared.phase.Phase.{Phase}
use Rattle.page_cell.specs.declared.phase.Phase.TheVariants.{Protected, Writable}

-- what the cell holds of a machine, which has no queue
abbrev pub content_of : Cell → Option flat.Content
content_of (Page bytes phase) = Some (flat.Page bytes)
content_of (Serial s) = Some (flat.Serial s)
content_of (Timer cmp) = Some (flat.Timer cmp)
content_of (Faults queue) = None

-- the cell is a page
abbrev pub IsPage : Cell → Type 0
IsPage (Page bytes phase) = Unit {0}
IsPage _ = ⊥

-- its bytes
abbrev pub bytes_in : Cell → List ℕ
bytes_in (Page bytes phase) = bytes
bytes_in _ = []

-- whether it may be written; no other cell is ever protected
abbrev pub phase_in : Cell → Phase
phase_in (Page bytes phase) = phase
phase_in _ = Writable

-- what a take of a page in this phase answers, and what the buffer then holds
abbrev pub taken_in : Phase → Taken
taken_in Protected = Copied
taken_in Writable = Stale

abbrev pub buffer_after : Phase → List ℕ → List ℕ → List ℕ
buffer_after Protected page before = page
buffer_after Writable page before = before

-- within the limits of its kind
abbrev pub IsCell : Cell → Type 0
IsCell (Page bytes phase) = length bytes ≡ PAGE
IsCell (Serial s) = IsSerial s
IsCell (Timer cmp) = cmp < 2 ^ 64
IsCell (Faults queue) = IsQueue queue

-- the request writes to the cell that it touches
abbrev pub writes : Request → Bool
writes (Store place width value) = true
writes (Amo place width op value) = true
writes _ = false

-- a page that is protected stops a write
abbrev pub stopped_by : Phase → Request → Bool
stopped_by Protected request = writes request
stopped_by Writable request = false

-- the cell stops the request
abbrev pub stops_at : Request → Cell → Bool
stops_at request (Page bytes phase) = stopped_by phase request
stops_at request _ = false

-- the request is one of a cell of this kind
abbrev pub FitsCell : Request → Cell → Type 0
FitsCell request (Page bytes phase) = FitsPage request
FitsCell request (Serial s) = FitsSerial request
FitsCell request (Timer cmp) = FitsTimer request
FitsCell request (Faults queue) = ⊥

-- what the cell gives to a request at a time
unfoldable pub cell_gives : Request → Cell → ℕ → ℕ
cell_gives request (Page bytes phase) time = page_gives request bytes
cell_gives request (Serial s) time = serial_gives request s
cell_gives request (Timer cmp) time = timer_gives request cmp time
cell_gives request (Faults queue) time = 0

-- what the cell becomes: an event leaves the phase
unfoldable pub cell_after : Request → Cell → Cell
cell_after request (Page bytes phase) = Page (page_after request bytes) phase
cell_after request (Serial s) = Serial (serial_after request s)
cell_after request (Timer cmp) = Timer (timer_after request cmp)
cell_after request (Faults queue) = Faults queue
