-- The pages left as links by page number, in both directions (this project's own, docs/ARCHITECTURE.md).
use Rattle.std.specs.Prelude.{◌≡◌, ℕ, ◌<◌, ◌==◌, List, length, reverse, Option, Some, None, slice_get, slice_index, slice_set, if◌then◌else◌}
use Rattle.ram_block.specs.PageLinks.{link_of, walked}
use Rattle.page_sweep.specs.Sweep.{IsSweep}

-- the links once page p between two others is out of them: `before` is p where p was first, and `after` where it was last
abbrev pub links_without : List ℕ → ℕ → ℕ → ℕ → ℕ → List ℕ
links_without links pages before p after = slice_set (if before == p then links else slice_set links before (if after == p then before else after)) p pages

-- the start of the links then
abbrev pub start_without : Option ℕ → ℕ → ℕ → ℕ → Option ℕ
start_without start before p after = if before == p then (if after == p then None else Some after) else start

-- the links of one direction and their start are those of the list q, and the walk along them gives it
pub record IsChain (pages : ℕ) (links : List ℕ) (start : Option ℕ) (q : List ℕ) : Type 0 where
  pub same_length : length links ≡ pages
  pub same_links : (p : ℕ) → p < pages → slice_index links p ≡ link_of pages q p
  pub begins : start ≡ slice_get q 0
  pub walks : walked start links ≡ q

-- the links of both directions are those of the list q, which is that of a sweep
pub record IsLinked (pages : ℕ) (next prev : List ℕ) (first last : Option ℕ) (left : ℕ) (q : List ℕ) : Type 0 where
  pub forth : IsChain pages next first q
  pub back : IsChain pages prev last (reverse q)
  pub count : left ≡ length q
  pub sweep : IsSweep (record { pages = pages; list = q })
