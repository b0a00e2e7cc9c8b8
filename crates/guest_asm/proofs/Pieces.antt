-- The parts of a text round the first byte that passes a test.
use Rattle.std.proofs.Common.{◌≡◌, ℕ, ◌+◌, ◌<◌, ◌≤◌, ◌++◌, map, Bool, true, List, [], ◌∷◌, length, take, drop, get_or, Some, None, subst, sym, arith}
use Rattle.std.specs.List.{after_first, before_first, position, position_or_len, prefix_len, slice_split}
use Rattle.std.proofs.lemmas.List.Splits.{slice_split_first, slice_split_none}
use Rattle.std.proofs.lemmas.List.Sums.{fails_before_first}
use Rattle.std.proofs.lemmas.Grind.{common_steps}

-- what stands before the first byte that passes, where it is at i, and what stands behind it
pub before_first_at : {X : Type 0} (p : X → Bool) (xs : List X) (i : ℕ) → Some i ≡ position p xs → take i xs ≡ before_first p xs
before_first_at p xs i h = grind (arith, common_steps)

pub after_first_at : {X : Type 0} (p : X → Bool) (xs : List X) (i : ℕ) → Some i ≡ position p xs → drop (i + 1) xs ≡ after_first p xs
after_first_at p xs i h = grind (arith, common_steps)

-- all of it, where none passes, and nothing behind it
pub before_first_none : {X : Type 0} (p : X → Bool) (xs : List X) → None ≡ position p xs → xs ≡ before_first p xs
before_first_none p xs h = grind (arith, common_steps)

pub after_first_none : {X : Type 0} (p : X → Bool) (xs : List X) → None ≡ position p xs → [] ≡ after_first p xs
after_first_none p xs h = grind (arith, common_steps)

-- one more element at the front of what is left passes
pub prefix_len-drop_yes : {X : Type 0} (p : X → Bool) (xs : List X) (i : ℕ) (d : X) → i < length xs →
    p (get_or xs i d) ≡ true → prefix_len p (drop i xs) ≡ 1 + prefix_len p (drop (i + 1) xs)
prefix_len-drop_yes p xs i d within passes = grind (arith, common_steps)

-- the place where a test first passes, as a number
place_at : {X : Type 0} (p : X → Bool) (xs : List X) (i : ℕ) → Some i ≡ position p xs → (i ≡ position_or_len p xs) × (position_or_len p xs < length xs)
place_at p xs i h = (grind (arith, common_steps), grind (arith, common_steps))

no_place : {X : Type 0} (p : X → Bool) (xs : List X) → None ≡ position p xs → length xs ≤ position_or_len p xs
no_place p xs h = grind (arith, common_steps)

-- a list that is cut where a test first passes
pub split_at_place : (p : ℕ → Bool) (xs : List ℕ) (i : ℕ) → Some i ≡ position p xs →
    slice_split p xs ≡ take i xs ∷ slice_split p (drop (i + 1) xs)
split_at_place p xs i h =
    let both = place_at p xs i h in
    subst (λ k. slice_split p xs ≡ take k xs ∷ slice_split p (drop (k + 1) xs)) (sym both.0) (slice_split_first p xs 0 both.1)

-- a list in which it nowhere passes
pub split_nowhere : (p : ℕ → Bool) (xs : List ℕ) → None ≡ position p xs → slice_split p xs ≡ xs ∷ []
split_nowhere p xs h =
    let past = no_place p xs h in
    slice_split_none p xs (λ k d within. fails_before_first p xs k d (omega arith))

-- the lines so far with one more, and with the last
pub lines_more : {A : Type 0} (f : A → List ℕ) (p : ℕ → Bool) (xs new : List A) (y : A) (i : ℕ) (rest behind : List ℕ) (whole : List (List ℕ)) →
    map f xs ++ slice_split p rest ≡ whole → Some i ≡ position p rest → f y ≡ take i rest → behind ≡ drop (i + 1) rest → new ≡ xs ++ y ∷ [] →
    map f new ++ slice_split p behind ≡ whole
lines_more f p xs new y i rest behind whole so_far found line left pushed =
    grind (arith, common_steps, split_at_place p rest i found)

pub lines_ended : {A : Type 0} (f : A → List ℕ) (p : ℕ → Bool) (xs new : List A) (y : A) (whole : List (List ℕ)) →
    map f xs ++ slice_split p (f y) ≡ whole → None ≡ position p (f y) → new ≡ xs ++ y ∷ [] → map f new ≡ whole
lines_ended f p xs new y whole so_far nowhere pushed = grind (arith, common_steps, split_nowhere p (f y) nowhere)
