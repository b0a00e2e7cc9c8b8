-- Why pages are queued and picked: because a vCPU wants them, or wrote to them (this project's own,
-- docs/ARCHITECTURE.md).
use Rattle.std.specs.Prelude.{◌≡◌, ◌⊎◌, ℕ, ◌<◌, Bool, true, false, List, [], All, length, take, slice_get, slice_index, Some}
use Rattle.ram_block.specs.PageLinks.{is_listed}
use Rattle.rv64i_step.specs.Request.{written_page}
use Rattle.flat_machine.specs.Laws.{event_written_page}
use Rattle.flat_machine.specs.Machine.{MachineData}
use Rattle.flat_machine.specs.Run.{run}
use Rattle.bus_rule.specs.Views.{Task, Role, IsTask, request_in}

-- an event of the run writes to the page
pub record IsWritten (i : MachineData) (o : List ℕ) (p : ℕ) : Type 0 where
  pub at : ℕ
  pub within : at < length o
  pub before : MachineData
  pub ran : run i (take at o) ≡ Some before
  pub writes : event_written_page before (slice_index o at) ≡ Some p

-- the page is in the queue, or was picked
abbrev pub IsSought : List ℕ → List Bool → ℕ → Type 0
IsSought queue picked p = (is_listed queue p ≡ true) ⊎ (slice_get picked p ≡ Some true)

-- no page is in the queue, or was picked
abbrev pub NoneSought : List ℕ → List Bool → Type 0
NoneSought queue picked = (queue ≡ []) × All (λ p. p ≡ false) picked

-- some pass wants the page
pub record IsWanted (roles : List Role) (p : ℕ) : Type 0 where
  pub pass : ℕ
  pub place : ℕ
  pub task : Task
  pub known : IsTask roles pass place task
  pub wants : task.wants ≡ Some p

-- a page that a vCPU's pass wants is writable or sought, and the vCPU's next event writes to it; where none is sought,
-- the vCPU was never stopped
pub record IsWaiting (writable : List Bool) (queue : List ℕ) (picked : List Bool) (t : Task) : Type 0 where
  pub reached : (p : ℕ) → t.wants ≡ Some p → (slice_get writable p ≡ Some true) ⊎ IsSought queue picked p
  pub aims : (p : ℕ) → t.wants ≡ Some p → written_page (request_in t) ≡ Some p
  pub calm : NoneSought queue picked → t.blocked ≡ 0

-- a page in the queue is one that there is; and a page that is sought is wanted, or written to
pub record Faults (i : MachineData) (o : List ℕ) (writable : List Bool) (queue : List ℕ) (picked : List Bool) (roles : List Role) : Type 0 where
  pub waiting : (j a : ℕ) (t : Task) → IsTask roles j a t → IsWaiting writable queue picked t
  pub below : (p : ℕ) → is_listed queue p ≡ true → p < length picked
  pub because : (p : ℕ) → IsSought queue picked p → IsWanted roles p ⊎ IsWritten i o p
