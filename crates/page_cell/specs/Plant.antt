-- What a plant shows at a moment, and what its two calls leave (this project's own, docs/ARCHITECTURE.md).
use Rattle.std.specs.Prelude.{◌≡◌, ℕ, ◌<◌, ◌≤◌, Bool, true, false, List, [], ◌∷◌, map, slice_get, slice_set, Option, Some, None}
use Rattle.std.specs.List.{range_with_len}
use Rattle.ram_block.specs.Shape.{total_pages_of}
use Rattle.flat_machine.specs.Machine.{MachineData, page_of}
use Rattle.medium.specs.Count.{counted, HasRisen}
use Rattle.page_cell.specs.declared.plant.Pick.{Pick}
use Rattle.page_cell.specs.declared.plant.Pick.TheVariants as picks
use Rattle.page_cell.specs.declared.plant.Taken.{Taken}
use Rattle.page_cell.specs.declared.plant.Taken.TheVariants as takes

-- the pages of a machine
unfoldable pub pages_of : MachineData → List (List ℕ)
pages_of m = map (page_of m) (range_with_len 0 (total_pages_of m.shape))

-- how many pages there are, which are writable, and which a pick has answered; how often a lock was found held; the
-- rest; for which lists of the pages at the instant it stands; whether it fits; how many picks there were, and what
-- the last one answered; and the queue, where it is told
pub record PlantState (Rest : Type 0) : Type 1 where
  pub total : ℕ
  pub writable : List Bool
  pub picked : List Bool
  pub busy : ℕ
  pub rest : Rest
  pub stands : List (List ℕ) → Type 0
  pub fits : Type 0
  pub picks : ℕ
  pub last : Option Pick
  pub queue : Option (List ℕ)

-- the same, by the ghost members of a plant
abbrev pub plant_by : {P R : Type 0} → (P → ℕ) → (P → List Bool) → (P → List Bool) → (P → ℕ) → (P → R) → (P → List (List ℕ) → Type 0) →
    (P → Type 0) → (P → ℕ) → (P → Option Pick) → (P → Option (List ℕ)) → P → PlantState R
plant_by total writable picked busy rest stands fits picks last queue p = record {
  total = total p;
  writable = writable p;
  picked = picked p;
  busy = busy p;
  rest = rest p;
  stands = stands p;
  fits = fits p;
  picks = picks p;
  last = last p;
  queue = queue p;
}

-- what neither call changes: the total, the rest and each list for which the plant stood; it fits, and busy never falls
pub record KeepsPlant {R : Type 0} (old new : PlantState R) : Type 0 where
  pub total : new.total ≡ old.total
  pub rest : new.rest ≡ old.rest
  pub stands : (pages : List (List ℕ)) → old.stands pages → new.stands pages
  pub fits : new.fits
  pub never_falls : old.busy ≤ new.busy

-- the pages that a pick has answered, after this one
abbrev pub picked_after : List Bool → Pick → List Bool
picked_after picked (picks.Fault p) = slice_set picked p true
picked_after picked picks.Empty = picked
picked_after picked picks.Busy = picked

-- a picked page is one that there is, and only where busy rose was the queue found held
abbrev pub PickCause : ℕ → ℕ → ℕ → Pick → Type 0
PickCause total before now (picks.Fault p) = p < total
PickCause total before now picks.Empty = Unit {0}
PickCause total before now picks.Busy = HasRisen before now

-- a queue that is told is never busy: its front was taken and answered, or it is empty; one that isn't told stays so
abbrev pub PicksFront : Option (List ℕ) → Option (List ℕ) → Pick → Type 0
PicksFront (Some queue) new (picks.Fault p) = (rest : List ℕ) × (queue ≡ p ∷ rest) × (new ≡ Some rest)
PicksFront (Some queue) new picks.Empty = (queue ≡ []) × (new ≡ Some [])
PicksFront (Some queue) new picks.Busy = ⊥
PicksFront None new answer = new ≡ None

-- what a pick leaves
pub record LeavesPick {R : Type 0} (old new : PlantState R) (answer : Pick) : Type 0 where
  pub keeps : KeepsPlant old new
  pub writable : new.writable ≡ old.writable
  pub picked : new.picked ≡ picked_after old.picked answer
  pub cause : PickCause old.total old.busy new.busy answer
  pub picks : new.picks ≡ counted old.picks
  pub last : new.last ≡ Some answer
  pub queue : PicksFront old.queue new.queue answer

-- the page was protected and is writable now, it alone, and the buffer holds its bytes of the instant
pub record CopiesOut {R : Type 0} (old new : PlantState R) (page : ℕ) (into : List ℕ) : Type 0 where
  pub was : slice_get old.writable page ≡ Some false
  pub writable : new.writable ≡ slice_set old.writable page true
  pub bytes : (pages : List (List ℕ)) → old.stands pages → slice_get pages page ≡ Some into

-- the writable pages and the buffer are as before
pub record LeavesBuffer {R : Type 0} (old new : PlantState R) (before into : List ℕ) : Type 0 where
  pub writable : new.writable ≡ old.writable
  pub buffer : into ≡ before

-- what was taken, by the answer: stale is a page that was writable, and only where busy rose was the page found held
abbrev pub TakesPage : {R : Type 0} → PlantState R → PlantState R → ℕ → List ℕ → List ℕ → Taken → Type 0
TakesPage old new page before into takes.Copied = CopiesOut old new page into
TakesPage old new page before into takes.Stale = (slice_get old.writable page ≡ Some true) × LeavesBuffer old new before into
TakesPage old new page before into takes.Busy = HasRisen old.busy new.busy × LeavesBuffer old new before into

-- what a take of a page leaves, with the buffer before and after it
pub record LeavesTake {R : Type 0} (old new : PlantState R) (page : ℕ) (before into : List ℕ) (answer : Taken) : Type 0 where
  pub keeps : KeepsPlant old new
  pub picked : new.picked ≡ old.picked
  pub picks : new.picks ≡ old.picks
  pub last : new.last ≡ old.last
  pub queue : new.queue ≡ old.queue
  pub takes : TakesPage old new page before into answer
