-- What the saver's calls on the bus leave of its pass (this project's own, docs/ARCHITECTURE.md).
use Rattle.std.specs.Prelude.{◌≡◌, ◌≢◌, ◌↔◌, ℕ, ◌-◌, ◌^◌, ◌<◌, true, false, List, [], slice_get, Some}
use Rattle.ram_block.specs.Shape.{total_pages_of}
use Rattle.medium.specs.Count.{counted}
use Rattle.flat_machine.specs.Machine.{page_of}
use Rattle.page_cell.specs.declared.plant.Pick.{Pick}
use Rattle.page_cell.specs.declared.plant.Pick.TheVariants as picks
use Rattle.page_cell.specs.declared.plant.Taken.{Taken}
use Rattle.page_cell.specs.declared.plant.Taken.TheVariants as takes
use Rattle.bus_rule.specs.Kept.{queue_number}
use Rattle.bus_rule.specs.Plays.{with_empty, with_found, with_picked, with_released}
use Rattle.bus_rule.specs.Views.{Book, PassData, Saving}
use Rattle.page_bus.specs.Passes.{SaverPassData, book_of, saver_key}

-- the pages of the instant
abbrev pub pages_of_book : Book → ℕ
pages_of_book b = total_pages_of b.instant.shape

-- the pass knows this from now on
abbrev pub with_book : PassData → Book → PassData
with_book p b = record p { role = Saving b }

-- what a pick makes of the pass, by its answer: the page was the front of the queue, and joins the fronts and the picked
-- pages; or the queue was empty, or was found held
abbrev pub PicksTo : PassData → Pick → PassData → Type 0
PicksTo old (picks.Fault page) new = (page < pages_of_book (book_of old)) × (new ≡ with_book old (with_picked (book_of old) page))
PicksTo old picks.Empty new = new ≡ with_book old (with_empty (book_of old))
PicksTo old picks.Busy new = new ≡ with_found old (queue_number (pages_of_book (book_of old)))

-- what a pick leaves: short of the greatest u64 the count of empty findings rose exactly where the answer is that the
-- queue was empty; and the pass holds no cell, whatever the answer
pub record LeavesPickAs (old : SaverPassData) (answer : Pick) (new : SaverPassData) : Type 0 where
  pub picks_to : PicksTo old.view answer new.view
  pub empties : (book_of new.view).empties < 2 ^ 64 - 1 → (answer ≡ picks.Empty) ↔ ((book_of new.view).empties ≢ (book_of old.view).empties)
  pub none_held : new.view.held ≡ []
  pub key : saver_key new ≡ saver_key old
  pub picks : new.picks ≡ counted old.picks
  pub last : new.last ≡ Some answer

-- the page was protected and is writable now, it alone, and the buffer holds its bytes of the instant
pub record IsCopied (old : PassData) (page : ℕ) (into : List ℕ) (new : PassData) : Type 0 where
  pub was : slice_get (book_of old).writable page ≡ Some false
  pub bytes : into ≡ page_of (book_of old).instant page
  pub released : new ≡ with_book old (with_released (book_of old) page)

-- the page was writable, and nothing is changed
pub record IsStale (old : PassData) (page : ℕ) (before into : List ℕ) (new : PassData) : Type 0 where
  pub was : slice_get (book_of old).writable page ≡ Some true
  pub buffer : into ≡ before
  pub same : new ≡ old

-- the page was found held, and nothing else is changed
pub record IsHeld (old : PassData) (page : ℕ) (before into : List ℕ) (new : PassData) : Type 0 where
  pub buffer : into ≡ before
  pub found : new ≡ with_found old page

-- what a take of a page makes of the pass and the buffer, by its answer
abbrev pub TakesTo : PassData → ℕ → List ℕ → Taken → List ℕ → PassData → Type 0
TakesTo old page before takes.Copied into new = IsCopied old page into new
TakesTo old page before takes.Stale into new = IsStale old page before into new
TakesTo old page before takes.Busy into new = IsHeld old page before into new

-- what a take leaves: the pass holds no cell, whatever the answer
pub record LeavesTakeAs (old : SaverPassData) (page : ℕ) (before : List ℕ) (answer : Taken) (into : List ℕ) (new : SaverPassData) : Type 0 where
  pub takes : TakesTo old.view page before answer into new.view
  pub none_held : new.view.held ≡ []
  pub key : saver_key new ≡ saver_key old
  pub picks : new.picks ≡ old.picks
  pub last : new.last ≡ old.last
