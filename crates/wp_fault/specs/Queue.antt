-- The queue of faulted pages: first come, first served, each page once (this project's own, docs/ARCHITECTURE.md).
use Rattle.std.specs.Prelude.{ℕ, ◌<◌, nat_eq, List, [], ◌∷◌, ◌++◌, All, if◌then◌else◌}
use Rattle.std.specs.List.{IsDistinct}
use Rattle.ram_block.specs.PageLinks.{is_listed}

-- how many pages there are, and those that are queued, the front first
pub record QueueData : Type 0 where
  pub pages : ℕ
  pub list : List ℕ

-- the queue once page p is in it
abbrev pub queued : List ℕ → ℕ → List ℕ
queued q p = if is_listed q p then q else q ++ p ∷ []

-- no page is queued twice, and each page is below the number of pages
pub record IsQueue (d : QueueData) : Type 0 where
  pub distinct : IsDistinct nat_eq d.list
  pub below : All (λ p. p < d.pages) d.list
