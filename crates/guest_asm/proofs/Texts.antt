-- A text round the first byte that passes a test, and a text without blanks at its ends.
use Rattle.std.proofs.Common.{◌≡◌, ℕ, ◌-◌, Bool, true, false, not, nat_lt, List, [], ◌∷◌, ◌++◌, length, reverse, Some, None, refl, ap, ◌∙◌, length-append, drop_of_length-le, arith}
use Rattle.std.proofs.Math.Seq.{take-append_seam, drop-append-add, take-length}
use Rattle.std.proofs.lemmas.Bool.{and_parts}
use Rattle.std.specs.List.{after_first, before_first, list_all, position, position_or_len, prefix_len}
use Rattle.std.proofs.lemmas.List.{reverse-append}
use Rattle.std.proofs.lemmas.List.Folds.{list_all-append}
use Rattle.guest_asm.specs.Line.{is_blank, trim, trim_end, trim_front}

-- elements that fail a test
abbrev pub all_fail : {X : Type 0} → (X → Bool) → List X → Bool
all_fail p xs = list_all (λ x. not (p x)) xs

-- a test first passes where it passes behind elements that fail it
pub first_at : {X : Type 0} (p : X → Bool) (a : List X) (c : X) (b : List X) → all_fail p a ≡ true → p c ≡ true →
    position_or_len p (a ++ c ∷ b) ≡ length a
first_at p [] c b fails passes = rw passes
first_at p (x ∷ xs) c b fails passes =
    let both = and_parts (not (p x)) (all_fail p xs) fails in
    rw both.0 (grind (arith, first_at p xs c b both.1 passes))

-- and at the end where it nowhere passes
pub first_nowhere : {X : Type 0} (p : X → Bool) (a : List X) → all_fail p a ≡ true → position_or_len p a ≡ length a
first_nowhere p [] fails = refl
first_nowhere p (x ∷ xs) fails =
    let both = and_parts (not (p x)) (all_fail p xs) fails in
    rw both.0 (grind (arith, first_nowhere p xs both.1))

-- what stands before it
pub before_at : {X : Type 0} (p : X → Bool) (a : List X) (c : X) (b : List X) → all_fail p a ≡ true → p c ≡ true →
    before_first p (a ++ c ∷ b) ≡ a
before_at p a c b fails passes = rw (first_at p a c b fails passes) (take-append_seam a (c ∷ b))

-- what stands behind it
pub after_at : {X : Type 0} (p : X → Bool) (a : List X) (c : X) (b : List X) → all_fail p a ≡ true → p c ≡ true →
    after_first p (a ++ c ∷ b) ≡ b
after_at p a c b fails passes = rw (first_at p a c b fails passes) (drop-append-add a (c ∷ b) 1)

-- all of the text, where the test nowhere passes
pub before_nowhere : {X : Type 0} (p : X → Bool) (a : List X) → all_fail p a ≡ true → before_first p a ≡ a
before_nowhere p a fails = rw (first_nowhere p a fails) (take-length a)

-- and nothing behind it
pub after_nowhere : {X : Type 0} (p : X → Bool) (a : List X) → all_fail p a ≡ true → after_first p a ≡ []
after_nowhere p a fails = rw (first_nowhere p a fails) (drop_of_length-le a (omega arith))

-- its place
pub position_at : {X : Type 0} (p : X → Bool) (a : List X) (c : X) (b : List X) → all_fail p a ≡ true → p c ≡ true →
    position p (a ++ c ∷ b) ≡ Some (length a)
position_at p a c b fails passes =
    let within : nat_lt (length a) (length (a ++ c ∷ b)) ≡ true = grind (arith, length-append a (c ∷ b)) in
    rw (first_at p a c b fails passes) (rw within)

-- where it nowhere passes there is no place
pub position_nowhere : {X : Type 0} (p : X → Bool) (a : List X) → all_fail p a ≡ true → position p a ≡ None
position_nowhere p a fails =
    let past : nat_lt (length a) (length a) ≡ false = grind arith in
    rw (first_nowhere p a fails) (rw past)

-- a test that passes nowhere in a text passes nowhere in its parts, and the other way round
pub fails_append : {X : Type 0} (p : X → Bool) (a b : List X) → list_all p a ≡ true → list_all p b ≡ true → list_all p (a ++ b) ≡ true
fails_append p a b first second = list_all-append p a b ∙ rw (first, second)

-- a text's first byte is there, and is no blank
abbrev pub begins : List ℕ → Bool
begins [] = false
begins (b ∷ bs) = not (is_blank b)

-- nor is its last one: a text without blanks at its ends
pub record IsTidy (text : List ℕ) : Type 0 where
  pub first : begins text ≡ true
  pub last : begins (reverse text) ≡ true

-- such a text has no blanks at its front
begins_prefix : (text : List ℕ) → begins text ≡ true → prefix_len is_blank text ≡ 0
begins_prefix [] h = refl
begins_prefix (b ∷ bs) h =
    let no : is_blank b ≡ false = grind (arith, h) in
    rw no

-- the first byte of the first of two texts is the first one
begins_append : (a b : List ℕ) → begins a ≡ true → begins (a ++ b) ≡ true
begins_append [] b h = absurd (grind (arith, h))
begins_append (x ∷ xs) b h = h

-- and the last byte of the second of two texts is the last one
pub ends_append : (a b : List ℕ) → begins (reverse b) ≡ true → begins (reverse (a ++ b)) ≡ true
ends_append a b h = rw (reverse-append a b) (begins_append (reverse b) (reverse a) h)

-- tidy texts with anything between them
pub tidy_between : (a m b : List ℕ) → IsTidy a → IsTidy b → IsTidy (a ++ (m ++ b))
tidy_between a m b left right = record {
  first = begins_append a (m ++ b) left.first;
  last = ends_append a (m ++ b) (ends_append m b right.last);
}

-- nothing is taken off a tidy text
trim_end_tidy : (text : List ℕ) → begins (reverse text) ≡ true → trim_end text ≡ text
trim_end_tidy text h =
    let whole : length text - 0 ≡ length text = omega arith in
    rw (begins_prefix (reverse text) h, whole) (take-length text)

-- nor at the front
trim_front_tidy : (text : List ℕ) → begins text ≡ true → trim_front text ≡ text
trim_front_tidy text h = rw (begins_prefix text h)

-- so a tidy text is trimmed
pub trim_tidy : (text : List ℕ) → IsTidy text → trim text ≡ text
trim_tidy text h = ap trim_end (trim_front_tidy text h.first) ∙ trim_end_tidy text h.last

-- a space in front of it is
pub trim_space : (text : List ℕ) → IsTidy text → trim (32 ∷ text) ≡ text
unfolding is_blank
trim_space text h =
    let none : prefix_len is_blank text ≡ 0 = begins_prefix text h.first in
    let front : trim_front (32 ∷ text) ≡ text = rw none in
    ap trim_end front ∙ trim_end_tidy text h.last
