-- The bus at its start and at its end (this project's own, docs/ARCHITECTURE.md).
use Rattle.std.specs.Prelude.{◌≡◌, ◌⊎◌, ℕ, ◌<◌, Bool, List, [], ◌∷◌, length, replicate, slice_get, Some}
use mathlib.Core.Option as table
use lib.ListN.{get_elem?}
use Rattle.flat_machine.specs.Machine.{MachineData}
use Rattle.flat_machine.specs.UnderWay.{IsUnderWay}
use Rattle.page_cell.specs.declared.cell.Cell.{Cell}
use Rattle.bus_rule.specs.Faults.{IsSought, IsWaiting, IsWritten}
use Rattle.bus_rule.specs.Kept.{IsStart, IsFlagged, cells_of, due}
use Rattle.bus_rule.specs.Plays.{first_book}
use Rattle.bus_rule.specs.Story.{IsTold}
use Rattle.bus_rule.specs.Views.{Task, Book, PassData, Saving}

-- the words and cells of a bus that starts at machine i, for a phase of n instructions: the clock word has its clock, no
-- cell is held, and each cell has what is due
pub record IsOpening (i : MachineData) (n : ℕ) (protect : Bool) (words : List ℕ) (cells : List Cell) : Type 0 where
  pub start : IsStart i n
  pub numbers : words ≡ i.clock ∷ replicate (cells_of i.shape) 0
  pub count : length cells ≡ cells_of i.shape
  pub each : (c : ℕ) (x : Cell) → slice_get cells c ≡ Some x → due i (first_book i n protect).writable [] c ≡ Some x

-- the saver's pass has taken in that of each vCPU, and holds no cell
pub record HasJoined (p : PassData) (b : Book) : Type 0 where
  pub role : p.role ≡ Saving b
  pub none_held : p.held ≡ []
  pub each : (k : ℕ) → k < length b.instant.vcpus → (a : ℕ) × (t : Task) × (get_elem? b.joined a ≡ table.some t) × (t.who ≡ k)

-- a pass that was joined wants the page
pub record IsWantedIn (b : Book) (p : ℕ) : Type 0 where
  pub place : ℕ
  pub task : Task
  pub known : get_elem? b.joined place ≡ table.some task
  pub wants : task.wants ≡ Some p

-- what is left of a bus whose passes were all joined: there is an order of the events, a machine and a queue, of which
-- the passes know what is so, and each cell has what is due
pub record Ended (i : MachineData) (n : ℕ) (protect : Bool) (b : Book) (cells : List Cell) : Type 0 where
  pub order : List ℕ
  pub now : MachineData
  pub queue : List ℕ
  pub way : IsUnderWay i n (record { machine = now; order = order })
  pub told : (a : ℕ) (t : Task) → get_elem? b.joined a ≡ table.some t → IsTold i n order now t
  pub flagged : IsFlagged i protect now b
  pub waiting : (a : ℕ) (t : Task) → get_elem? b.joined a ≡ table.some t → IsWaiting b.writable queue b.picked t
  pub because : (p : ℕ) → IsSought queue b.picked p → IsWantedIn b p ⊎ IsWritten i order p
  pub count : length cells ≡ cells_of i.shape
  pub each : (c : ℕ) → c < cells_of i.shape → slice_get cells c ≡ due now b.writable queue c
