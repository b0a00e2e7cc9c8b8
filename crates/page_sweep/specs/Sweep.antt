-- The pages that the saver has left, in ascending order (this project's own, docs/ARCHITECTURE.md).
use Rattle.std.specs.Prelude.{ℕ, ◌<◌, not, nat_eq, List, All}
use Rattle.std.specs.List.{filter}
use Rattle.std.specs.List.Sorted.{IsStrictlyIncreasing}

-- how many pages there are, and those that are left, in ascending order
pub record SweepData : Type 0 where
  pub pages : ℕ
  pub list : List ℕ

-- the pages but p
abbrev pub without : List ℕ → ℕ → List ℕ
without q p = filter (λ a. not (nat_eq p a)) q

-- the pages ascend, and each is below the number of pages
pub record IsSweep (d : SweepData) : Type 0 where
  pub ascending : IsStrictlyIncreasing d.list
  pub below : All (λ p. p < d.pages) d.list
