-- The pages that a run touches (this project's own events, docs/MACHINE.md).
use Rattle.std.specs.Prelude.{◌≡◌, ℕ, ◌<◌, nat_eq, List, [], ◌∷◌, ◌++◌, length, take, slice_index, Option, Some, None, if◌then◌else◌}
use Rattle.std.specs.List.{list_any}
use Rattle.flat_machine.specs.Cell.{CellName, PageCell}
use Rattle.flat_machine.specs.Laws.{event_cell}
use Rattle.flat_machine.specs.Machine.{MachineData}
use Rattle.flat_machine.specs.Next.{next}
use Rattle.flat_machine.specs.Run.{run}

-- the pages with the one that this cell is, where it is a page, each once
abbrev pub with_cell : List ℕ → Option CellName → List ℕ
with_cell pages (Some (PageCell p)) = if list_any (nat_eq p) pages then pages else pages ++ p ∷ []
with_cell pages cell = pages

-- the pages with those that the events of an order fetch from or access
unfoldable pub touched_after : List ℕ → Option MachineData → List ℕ → List ℕ
touched_after pages None o = pages
touched_after pages (Some m) [] = pages
touched_after pages (Some m) (k ∷ o) = touched_after (with_cell pages (event_cell m k)) (next m k) o

-- the pages that the events of a run fetch from or access, each once, in the order of their first events
abbrev pub touched : MachineData → List ℕ → List ℕ
touched m o = touched_after [] (Some m) o

-- some event of the run fetches from the page or accesses it
pub record IsTouched (m : MachineData) (o : List ℕ) (p : ℕ) : Type 0 where
  pub at : ℕ
  pub within : at < length o
  pub before : MachineData
  pub ran : run m (take at o) ≡ Some before
  pub cell : event_cell before (slice_index o at) ≡ Some (PageCell p)
