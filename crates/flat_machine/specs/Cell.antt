-- A cell is what one event touches beside its vCPU: a page of RAM, the serial device or the timer. What the cell gives
-- to a request, and what it becomes (this project's own events and devices, docs/MACHINE.md; RISC-V Unprivileged ISA
-- for loads, stores and AMOs).
use Rattle.std.specs.Prelude.{ℕ, List}
use Rattle.ram_block.specs.declared.place.Place.{Place}
use Rattle.ram_block.specs.declared.place.Place.TheVariants as places
use Rattle.ram_block.specs.declared.place.SerialReg.TheVariants.{Tx, Rx, Status}
use Rattle.ram_block.specs.declared.place.TimerReg.TheVariants.{Cmp}
use Rattle.ram_block.specs.declared.place.Width.TheVariants.{One, Four}
use Rattle.rv64i_step.specs.Access.{low_bytes}
use Rattle.rv64i_step.specs.Amo.{amo_written}
use Rattle.rv64i_step.specs.declared.request.Request.{Request}
use Rattle.rv64i_step.specs.declared.request.Request.TheVariants.{Fetch, Load, Store, Amo}
use Rattle.serial_timer.specs.Serial.{SerialData, sent, received_byte, received, status_of}
use Rattle.serial_timer.specs.Timer.{timer_reads}
use Rattle.flat_machine.specs.Machine.{MachineData, page_of}
use Rattle.flat_machine.specs.Page.{number_at, with_number, with_page}

-- the cells of a machine
pub data CellName : Type 0 where
  PageCell : ℕ → CellName
  SerialCell : CellName
  TimerCell : CellName

-- what a cell holds
pub data Content : Type 0 where
  Page : List ℕ → Content
  Serial : SerialData → Content
  Timer : ℕ → Content

-- the cell of a place
abbrev pub cell_at : Place → CellName
cell_at (places.Ram page off) = PageCell page
cell_at (places.Serial reg) = SerialCell
cell_at (places.Timer reg) = TimerCell

-- what a page gives: the number that stands at the request's place, and nothing to a store
unfoldable pub page_gives : Request → List ℕ → ℕ
page_gives (Fetch page off) bytes = number_at Four bytes off
page_gives (Load (places.Ram page off) width) bytes = number_at width bytes off
page_gives (Amo (places.Ram page off) width op value) bytes = number_at width bytes off
page_gives _ bytes = 0

-- what a page becomes: an AMO reads its place and writes its result there; of a value the low bytes count, as many as
-- the width says
unfoldable pub page_after : Request → List ℕ → List ℕ
page_after (Store (places.Ram page off) width value) bytes = with_number width bytes off (low_bytes width value)
page_after (Amo (places.Ram page off) width op value) bytes = with_number width bytes off (amo_written op width (number_at width bytes off) (low_bytes width value))
page_after _ bytes = bytes

-- what the serial device gives
unfoldable pub serial_gives : Request → SerialData → ℕ
serial_gives (Load (places.Serial Rx) width) s = received_byte s
serial_gives (Load (places.Serial Status) width) s = status_of s
serial_gives _ s = 0

-- what the serial device becomes
unfoldable pub serial_after : Request → SerialData → SerialData
serial_after (Load (places.Serial Rx) width) s = received s
serial_after (Store (places.Serial Tx) width value) s = sent s (low_bytes One value)
serial_after _ s = s

-- what the timer gives at a time, which is the number of events before this one
unfoldable pub timer_gives : Request → ℕ → ℕ → ℕ
timer_gives (Load (places.Timer reg) width) cmp time = timer_reads reg cmp time
timer_gives _ cmp time = 0

-- what the timer's compare value becomes
unfoldable pub timer_after : Request → ℕ → ℕ
timer_after (Store (places.Timer Cmp) width value) cmp = value
timer_after _ cmp = cmp

-- the same of any cell
unfoldable pub gives : Request → Content → ℕ → ℕ
gives request (Page bytes) time = page_gives request bytes
gives request (Serial s) time = serial_gives request s
gives request (Timer cmp) time = timer_gives request cmp time

unfoldable pub content_after : Request → Content → Content
content_after request (Page bytes) = Page (page_after request bytes)
content_after request (Serial s) = Serial (serial_after request s)
content_after request (Timer cmp) = Timer (timer_after request cmp)

-- what a machine holds in a cell
abbrev pub content : MachineData → CellName → Content
content m (PageCell p) = Page (page_of m p)
content m SerialCell = Serial m.serial
content m TimerCell = Timer m.cmp

-- the machine with another content in a cell
abbrev pub with_content : MachineData → CellName → Content → MachineData
with_content m (PageCell p) (Page bytes) = record m { ram = with_page m.ram p bytes }
with_content m SerialCell (Serial s) = record m { serial = s }
with_content m TimerCell (Timer cmp) = record m { cmp = cmp }
with_content m _ _ = m
