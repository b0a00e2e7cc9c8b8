-- The queue as links by page number (this project's own, docs/ARCHITECTURE.md).
use Rattle.std.specs.Prelude.{◌≡◌, ℕ, ◌<◌, List, [], ◌∷◌, length, Option, Some, None, slice_get, slice_index}
use Rattle.ram_block.specs.PageLinks.{link_of}
use Rattle.wp_fault.specs.Queue.{IsQueue}

-- the last of the list
abbrev pub last_of : List ℕ → Option ℕ
last_of [] = None
last_of (a ∷ []) = Some a
last_of (a ∷ b ∷ q) = last_of (b ∷ q)

-- the links, the front and the last are those of the list q
pub record IsLinked (pages : ℕ) (next : List ℕ) (front last : Option ℕ) (q : List ℕ) : Type 0 where
  pub same_length : length next ≡ pages
  pub links : (p : ℕ) → p < pages → slice_index next p ≡ link_of pages q p
  pub begins : front ≡ slice_get q 0
  pub ends : last ≡ last_of q
  pub queue : IsQueue (record { pages = pages; list = q })
