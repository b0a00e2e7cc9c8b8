-- What a vCPU's turn on the bus leaves of its pass (this project's own, docs/ARCHITECTURE.md).
use Rattle.std.specs.Prelude.{◌≡◌, ◌↔◌, ℕ, true, false, [], Option, Some, None}
use Rattle.ram_block.specs.Shape.{total_pages_of}
use Rattle.rv64i_step.specs.Request.{written_page}
use Rattle.flat_machine.specs.Cell.{CellName}
use Rattle.flat_machine.specs.Next.{cell_of}
use Rattle.flat_machine.specs.Run.{vcpu_ended}
use Rattle.page_cell.specs.Cell.{stops_at}
use Rattle.page_cell.specs.declared.cell.Cell.{Cell}
use Rattle.plain_bus.specs.declared.answer.StepAnswer.{StepAnswer}
use Rattle.plain_bus.specs.declared.answer.StepAnswer.TheVariants.{Done, Stopped, Busy, Idle}
use Rattle.bus_rule.specs.Kept.{cell_number, queue_number}
use Rattle.bus_rule.specs.Plays.{IsDrawn, IsKind, with_cell_event, with_found, with_no_fetch, with_stop}
use Rattle.bus_rule.specs.Views.{Task, PassData, Working, request_in}
use Rattle.page_bus.specs.Passes.{task_of}

-- the pages of the machine that the vCPU is of
abbrev pub pages_of_task : Task → ℕ
pages_of_task t = total_pages_of t.shape

-- the pass knows this of its vCPU from now on
abbrev pub with_task : PassData → Task → PassData
with_task p t = record p { role = Working t }

-- an event that drew the number that the clock gives: with the cell that it touches, which contains x and doesn't stop
-- it, or with none, where there is nothing to fetch
abbrev pub MovesWith : PassData → Option CellName → ℕ → PassData → Type 0
MovesWith old (Some cell) clock new =
    (x : Cell) × IsKind (pages_of_task (task_of old)) (cell_number (pages_of_task (task_of old)) cell) x
    × (stops_at (request_in (task_of old)) x ≡ false)
    × (new ≡ with_task old (with_cell_event (task_of old) x clock))
MovesWith old None clock new = new ≡ with_task old (with_no_fetch (task_of old) clock)

-- one event: its number is above those of all earlier events of the vCPU
pub record MakesEvent (old new : PassData) : Type 0 where
  pub clock : ℕ
  pub drawn : IsDrawn (task_of old) clock
  pub moves : MovesWith old (cell_of (request_in (task_of old))) clock new

-- a stop: the next event writes to the page, for which the vCPU waits now
pub record IsStopped (old : PassData) (page : ℕ) (new : PassData) : Type 0 where
  pub writes : written_page (request_in (task_of old)) ≡ Some page
  pub waits : new ≡ with_task old (with_stop (task_of old) page)

-- the cell of the next event; or the queue, by a pass that had taken a protected page, to which that event writes
abbrev pub IsNeeded : Task → ℕ → Option ℕ → Type 0
IsNeeded t c None = (cell : CellName) × (cell_of (request_in t) ≡ Some cell) × (c ≡ cell_number (pages_of_task t) cell)
IsNeeded t c (Some page) = (written_page (request_in t) ≡ Some page) × (c ≡ queue_number (pages_of_task t))

-- a cell that the vCPU needs was found held, with this protected page taken before, or none
pub record FindsHeld (old : PassData) (c : ℕ) (new : PassData) : Type 0 where
  pub page : Option ℕ
  pub needed : IsNeeded (task_of old) c page
  pub found : new ≡ record (with_found old c) { under = page }

-- what the turn makes of the pass, by its answer
abbrev pub TurnsTo : PassData → StepAnswer → PassData → Type 0
TurnsTo old Done new = MakesEvent old new
TurnsTo old (Stopped page) new = IsStopped old page new
TurnsTo old (Busy c) new = FindsHeld old c new
TurnsTo old Idle new = new ≡ old

-- what the turn leaves: the phase had ended exactly where it is idle, and the pass holds no cell, whatever the answer
pub record LeavesTry (old : PassData) (answer : StepAnswer) (new : PassData) : Type 0 where
  pub turns : TurnsTo old answer new
  pub idle : (answer ≡ Idle) ↔ (vcpu_ended (task_of old).until (task_of old).vcpu ≡ true)
  pub none_held : new.held ≡ []
