-- Locks: a cell is at home, or out with one who holds it. What cells contain plays no part here (this project's own,
-- docs/ARCHITECTURE.md).
use Rattle.std.specs.Prelude.{◌≡◌, ◌⊎◌, ℕ, ◌+◌, ◌<◌, List, [], ◌∷◌, length, slice_index, Option, Some}
use mathlib.Core.Option as table
use lib.ListN.{get_elem?}

-- one who takes cells: the number that stands in the words of the cells it holds, and these cells, each with the
-- content with which it gives the cell back; the cell that was taken last comes first
pub record Hand (X : Type 0) : Type 0 where
  pub number : ℕ
  pub cells : List (ℕ × X)

module _ {X : Type 0} where
  -- the cell is among them, with this content
  abbrev pub Has : List (ℕ × X) → ℕ → X → Type 0
  Has [] c x = ⊥
  Has (y ∷ ys) c x = (y ≡ (c, x)) ⊎ Has ys c x

  -- no cell is among them twice
  abbrev pub IsOnceEach : List (ℕ × X) → Type 0
  IsOnceEach [] = Unit {0}
  IsOnceEach (y ∷ ys) = ((x : X) → Has ys y.0 x → ⊥) × IsOnceEach ys

  -- what each cell has to contain, the words, the cells at home, and the hands; word c + 1 is that of cell c
  module _ (due : ℕ → Option X) (words : List ℕ) (homes : List (table.Option X)) where
    -- cell c is at home
    pub record IsFree (c : ℕ) : Type 0 where
      pub word : slice_index words (c + 1) ≡ 0
      pub content : X
      pub home : get_elem? homes c ≡ table.some (table.some content)
      pub fits : due c ≡ Some content

    -- cell c is out with this hand
    pub record IsOut (c : ℕ) (h : Hand X) : Type 0 where
      pub word : slice_index words (c + 1) ≡ h.number
      pub content : X
      pub has : Has h.cells c content
      pub home : get_elem? homes c ≡ table.some table.none

    -- each cell that a hand has
    pub record IsHeld (c : ℕ) (x : X) (h : Hand X) : Type 0 where
      pub within : c < length homes
      pub number : 0 < h.number
      pub word : slice_index words (c + 1) ≡ h.number
      pub fits : due c ≡ Some x

    -- cell c is at home or out with one of them
    abbrev pub IsSomewhere : List (Hand X) → ℕ → Type 0
    IsSomewhere hands c = IsFree c ⊎ ((j : ℕ) × (h : Hand X) × (get_elem? hands j ≡ table.some h) × IsOut c h)

    -- what locks keep
    pub record Locks (hands : List (Hand X)) : Type 0 where
      pub each_cell : (c : ℕ) → c < length homes → IsSomewhere hands c
      pub each_hand : (j : ℕ) (h : Hand X) (c : ℕ) (x : X) → get_elem? hands j ≡ table.some h → Has h.cells c x → IsHeld c x h
      pub once : (j : ℕ) (h : Hand X) → get_elem? hands j ≡ table.some h → IsOnceEach h.cells
      pub apart : (j k : ℕ) (g h : Hand X) → get_elem? hands j ≡ table.some g → get_elem? hands k ≡ table.some h → 0 < g.number → g.number ≡ h.number → j ≡ k
      pub word_count : length words ≡ length homes + 1
