-- What a write makes of a file, byte by byte.
use Rattle.std.proofs.Common.{◌≡◌, inl, inr, ℕ, ◌+◌, ◌-◌, ◌<◌, ◌≤◌, ◌&&◌, cond, List, [], ◌++◌, length, get_or, take, drop, replicate, refl, sym, ◌∙◌, ap, arith, length-append}
use Rattle.std.specs.Prelude.{nat_le, nat_lt}
use Rattle.std.proofs.lemmas.Bool.{cases_lt, le-leb, lt-leb, lt-ltb, le-ltb, and_left, and_right, and_from, cond-true, cond-false}
use Rattle.std.proofs.lemmas.List.{take_all, drop_all, take-append-le, take-replicate, append-nil, length-take, length-replicate, get_or_append_left, get_or-append_right, get_or-take, get_or-drop, get_or-replicate, get_or_past}
use Rattle.std.proofs.Math.Seq.{take-append-add}
use Rattle.medium.specs.Bytes.{written}
use Rattle.medium.specs.Laws.{front, length-front, written_parts}

-- a byte in front of the place
get_front : (at : ℕ) (file : List ℕ) (i : ℕ) → i < at → get_or (front at file) i 0 ≡ get_or file i 0
get_front at file i lt = elim (cases_lt i (length file)) [
  | inl here ↦
      get_or_append_left (take at file) (replicate (at - length file) 0) 0 i (omega (arith, length-take at file)) ∙ get_or-take at file i 0 lt
  | inr past ↦
      let all : take at file ≡ file = take_all at file (omega arith) in
      ap (λ (xs : List ℕ). get_or (xs ++ replicate (at - length file) 0) i 0) all
      ∙ get_or-append_right file (replicate (at - length file) 0) (length file) i 0 refl past
      ∙ get_or-replicate (at - length file) (i - length file) 0 0 (omega arith)
      ∙ sym (get_or_past file i 0 past)
]

-- the bytes of the write stand in its range, and elsewhere those of the file, with zeros past its end
pub get_written : (at : ℕ) (bytes file : List ℕ) (i : ℕ) → get_or (written at bytes file) i 0 ≡ cond (nat_le at i && nat_lt i (at + length bytes)) (get_or bytes (i - at) 0) (get_or file i 0)
get_written at bytes file i = elim (cases_lt i at) [
  | inl before ↦
      ap (λ (xs : List ℕ). get_or xs i 0) (written_parts at bytes file)
      ∙ get_or_append_left (front at file) rest 0 i (omega (arith, length-front at file))
      ∙ get_front at file i before
      ∙ sym (cond-false _ _ _ (and_left _ _ (lt-leb at i before)))
  | inr from ↦
      ap (λ (xs : List ℕ). get_or xs i 0) (written_parts at bytes file)
      ∙ get_or-append_right (front at file) rest at i 0 (length-front at file) from
      ∙ behind from
]
  where
    rest : List ℕ
    rest = bytes ++ drop (at + length bytes) file

    behind : at ≤ i → get_or rest (i - at) 0 ≡ cond (nat_le at i && nat_lt i (at + length bytes)) (get_or bytes (i - at) 0) (get_or file i 0)
    behind from = elim (cases_lt i (at + length bytes)) [
      | inl within ↦
          get_or_append_left bytes (drop (at + length bytes) file) 0 (i - at) (omega arith)
          ∙ sym (cond-true _ _ _ (and_from _ _ (le-leb at i from) (lt-ltb i (at + length bytes) within)))
      | inr after ↦
          let same : at + length bytes + (i - at - length bytes) ≡ i = omega arith in
          get_or-append_right bytes (drop (at + length bytes) file) (length bytes) (i - at) 0 refl (omega arith)
          ∙ get_or-drop (at + length bytes) file (i - at - length bytes) 0
          ∙ ap (λ (k : ℕ). get_or file k 0) same
          ∙ sym (cond-false _ _ _ (and_right _ _ (le-ltb i (at + length bytes) after)))
    ]

-- the same by where the byte stands: in the range, before it, and behind it
pub written_within : (at i : ℕ) (bytes file : List ℕ) → at ≤ i → i < at + length bytes → get_or (written at bytes file) i 0 ≡ get_or bytes (i - at) 0
written_within at i bytes file from within = get_written at bytes file i ∙ cond-true _ _ _ (and_from _ _ (le-leb at i from) (lt-ltb i (at + length bytes) within))

pub written_before : (at i : ℕ) (bytes file : List ℕ) → i < at → get_or (written at bytes file) i 0 ≡ get_or file i 0
written_before at i bytes file before = get_written at bytes file i ∙ cond-false _ _ _ (and_left _ _ (lt-leb at i before))

pub written_behind : (at i : ℕ) (bytes file : List ℕ) → at + length bytes ≤ i → get_or (written at bytes file) i 0 ≡ get_or file i 0
written_behind at i bytes file after = get_written at bytes file i ∙ cond-false _ _ _ (and_right _ _ (le-ltb i (at + length bytes) after))

-- a write over a file that was made long enough by zeros
abbrev grown : ℕ → List ℕ → List ℕ
grown end file = file ++ replicate (end - length file) 0

no_zeros : (n m : ℕ) → n ≤ m → replicate {A = ℕ} (n - m) 0 ≡ []
no_zeros n m le = let none : n - m ≡ 0 = omega arith in ap (λ (k : ℕ). replicate {A = ℕ} k 0) none

take_grown : (at end : ℕ) (file : List ℕ) → at ≤ end → take at (grown end file) ≡ front at file
take_grown at end file le = elim (cases_lt at (length file)) [
  | inl within ↦
      take-append-le at file (replicate (end - length file) 0) (omega arith)
      ∙ sym (append-nil (take at file))
      ∙ ap (λ (z : List ℕ). take at file ++ z) (sym (no_zeros at (length file) (omega arith)))
  | inr past ↦
      let sum : at ≡ length file + (at - length file) = omega arith in
      ap (λ (k : ℕ). take k (grown end file)) sum
      ∙ take-append-add file (replicate (end - length file) 0) (at - length file)
      ∙ ap (λ (z : List ℕ). file ++ z) (take-replicate (at - length file) (end - length file) 0 (omega arith))
      ∙ ap (λ (f : List ℕ). f ++ replicate (at - length file) 0) (sym (take_all at file past))
]

drop_grown : (end : ℕ) (file : List ℕ) → drop end (grown end file) ≡ drop end file
drop_grown end file = elim (cases_lt end (length file)) [
  | inl within ↦ ap (λ (z : List ℕ). drop end (file ++ z)) (no_zeros end (length file) (omega arith)) ∙ ap (drop end) (append-nil file)
  | inr past ↦
      drop_all end (grown end file) (omega (arith, length-append file (replicate (end - length file) 0), length-replicate {A = ℕ} (end - length file) 0))
      ∙ sym (drop_all end file past)
]

pub written_grown : (at : ℕ) (bytes file : List ℕ) → take at (grown (at + length bytes) file) ++ (bytes ++ drop (at + length bytes) (grown (at + length bytes) file)) ≡ written at bytes file
written_grown at bytes file =
    ap (λ (f : List ℕ). f ++ (bytes ++ drop (at + length bytes) (grown (at + length bytes) file))) (take_grown at (at + length bytes) file (omega arith))
    ∙ ap (λ (d : List ℕ). front at file ++ (bytes ++ d)) (drop_grown (at + length bytes) file)
    ∙ sym (written_parts at bytes file)
