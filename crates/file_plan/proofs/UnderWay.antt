-- A file under way: how it begins, what a piece more makes of it, and when it is whole.
use Rattle.std.proofs.Common.{◌≡◌, inl, inr, ℕ, zero, suc, ◌+◌, ◌-◌, ◌<◌, ◌≤◌, ◌&&◌, ◌||◌, cond, Bool, true, List, [], ◌∷◌, length, get_or, drop, refl, sym, ap, ◌∙◌, arith}
use Rattle.std.specs.Prelude.{slice_get, Some, nat_le, nat_lt}
use Rattle.std.proofs.lemmas.Bool.{cases_Bool, cases_lt, cond-true, cond-false, or_left, or_right, or_cases, and_from, and_parts, le-leb, lt-ltb, leb-true, ltb-true}
use Rattle.std.proofs.lemmas.List.{ext_get_or, get_or-take, get_or-drop, length-take, length-drop}
use Rattle.medium.specs.Bytes.{written}
use Rattle.medium.specs.Laws.{length-written}
use Rattle.medium.proofs.Writes.{get_written, written_within, written_behind}
use Rattle.flat_machine.specs.Machine.{IsMachine, MachineData}
use Rattle.file_plan.specs.Plan.{tail_place}
use Rattle.file_plan.specs.Layout.{StandsAt, Lay, last_piece, byte_in, pieces_of, file_of}
use Rattle.file_plan.specs.UnderWay.{Covers, CoversFile, IsLaidSoFar, IsShutFile, is_covered}
use Rattle.file_plan.proofs.FilePieces.{has_its_pieces, open_front, front_fits}
use Rattle.file_plan.proofs.Gaps.{zero_elsewhere}
use Rattle.file_plan.proofs.Records.{record_past_front}
use Rattle.std.proofs.lemmas.List.FromFn.{length-map-range_with_len}

-- ---- a range more

-- the places of the newest range
pub covers_here : (ranges : List (ℕ × ℕ)) (at n : ℕ) → Covers ((at, n) ∷ ranges) at n
covers_here ranges at n k some low high = or_left (nat_le at k && nat_lt k (at + n)) (is_covered ranges k) (and_from _ _ (le-leb at k low) (lt-ltb k (at + n) high))

-- those of a piece from the file's start that was written but for the gate byte
pub covers_behind_gate : (ranges : List (ℕ × ℕ)) (n : ℕ) → Covers ((1, n) ∷ ranges) 0 (1 + n)
covers_behind_gate ranges n k some low high = or_left (nat_le 1 k && nat_lt k (1 + n)) (is_covered ranges k) (and_from _ _ (le-leb 1 k (omega arith)) (lt-ltb k (1 + n) (omega arith)))

-- and those that were covered before
pub covers_still : (ranges : List (ℕ × ℕ)) (range : ℕ × ℕ) (at n : ℕ) → Covers ranges at n → Covers (range ∷ ranges) at n
covers_still ranges range at n before k some low high = or_right (nat_le range.0 k && nat_lt k (range.0 + range.1)) (is_covered ranges k) (before k some low high)

-- ---- the first byte

pub begins : (m : MachineData) → IsLaidSoFar (0 ∷ []) m []
unfolding file_of
begins m = record {
  shut = refl;
  size = omega (arith, length-map-range_with_len (byte_in (pieces_of m)) 0 (tail_place m.shape + length (last_piece m).bytes), record_past_front m.shape.pages m.shape.blocks);
  reaches = λ k covered. absurd (cc covered);
  bytes = λ k some. past_one k some;
}
  where
    past_one : (k : ℕ) → 0 < k → ◌≡◌ {A = ℕ} (get_or {A = ℕ} (0 ∷ []) k 0) 0
    past_one zero some = absurd (omega arith)
    past_one (suc k) some = refl

-- ---- a piece more

stays_shut : (at : ℕ) (bytes file : List ℕ) → 0 < at → slice_get file 0 ≡ Some 0 → slice_get (written at bytes file) 0 ≡ Some 0
stays_shut zero bytes file some shut = absurd (omega arith)
stays_shut (suc at) bytes [] some shut = absurd (cc shut)
stays_shut (suc at) bytes (b ∷ file) some shut = shut

module _ (file bytes : List ℕ) (m : MachineData) (ranges : List (ℕ × ℕ)) (at : ℕ) (so_far : IsLaidSoFar file m ranges) (behind : 0 < at) (some : 0 < length bytes) (stands : StandsAt (file_of m) at bytes) where
  fits : at + length bytes ≤ length (file_of m)
  fits = omega (arith, ap length stands, length-take (length bytes) (drop at (file_of m)), length-drop at (file_of m))

  abbrev here : ℕ → Bool
  here k = nat_le at k && nat_lt k (at + length bytes)

  piece_byte : (k : ℕ) → here k ≡ true → get_or bytes (k - at) 0 ≡ get_or (file_of m) k 0
  piece_byte k inside =
      let low : at ≤ k = leb-true at k (and_parts (nat_le at k) (nat_lt k (at + length bytes)) inside).0 in
      let high : k < at + length bytes = ltb-true k (at + length bytes) (and_parts (nat_le at k) (nat_lt k (at + length bytes)) inside).1 in
      let place : at + (k - at) ≡ k = omega arith in
      let short : k - at < length bytes = omega arith in
      ap (λ (l : List ℕ). get_or l (k - at) 0) (sym stands) ∙ get_or-take (length bytes) (drop at (file_of m)) (k - at) 0 short ∙ get_or-drop at (file_of m) (k - at) 0
      ∙ ap (λ (j : ℕ). get_or (file_of m) j 0) place

  byte_now : (k : ℕ) → 0 < k → get_or (written at bytes file) k 0 ≡ cond (here k || is_covered ranges k) (get_or (file_of m) k 0) 0
  byte_now k low = elim (cases_Bool (here k)) [
    | inl inside ↦
        get_written at bytes file k ∙ cond-true _ _ _ inside ∙ piece_byte k inside ∙ sym (cond-true {A = ℕ} _ (get_or (file_of m) k 0) 0 (or_left _ (is_covered ranges k) inside))
    | inr outside ↦
        get_written at bytes file k ∙ cond-false _ _ _ outside ∙ so_far.bytes k low
        ∙ ap (λ (b : Bool). cond (b || is_covered ranges k) (get_or (file_of m) k 0) 0) (sym outside)
  ]

  pub piece_more : IsLaidSoFar (written at bytes file) m ((at, length bytes) ∷ ranges)
  piece_more = record {
    shut = stays_shut at bytes file behind so_far.shut;
    size = omega (arith, length-written at bytes file, fits, so_far.size);
    reaches = λ k covered. elim (or_cases (here k) (is_covered ranges k) covered) [
      | inl inside ↦ omega (arith, length-written at bytes file, ltb-true k (at + length bytes) (and_parts _ _ inside).1)
      | inr before ↦ omega (arith, length-written at bytes file, so_far.reaches k before)
    ];
    bytes = byte_now;
  }

-- ---- the whole file

first_byte : (file : List ℕ) (b : ℕ) → slice_get file 0 ≡ Some b → get_or file 0 0 ≡ b
first_byte [] b is = absurd (cc is)
first_byte (c ∷ file) b is = cc

some_byte : (file : List ℕ) (b : ℕ) → slice_get file 0 ≡ Some b → 0 < length file
some_byte [] b is = absurd (cc is)
some_byte (c ∷ file) b is = omega arith

module _ (m : MachineData) (is : IsMachine m) (file : List ℕ) (ranges : List (ℕ × ℕ)) (so_far : IsLaidSoFar file m ranges) (covers : CoversFile ranges m) where
  same_byte : (k : ℕ) → 0 < k → k < length (file_of m) → get_or file k 0 ≡ get_or (file_of m) k 0
  same_byte k some lt = elim (cases_Bool (is_covered ranges k)) [
    | inl covered ↦ so_far.bytes k some ∙ cond-true {A = ℕ} _ (get_or (file_of m) k 0) 0 covered
    | inr none ↦ so_far.bytes k some ∙ cond-false {A = ℕ} _ (get_or (file_of m) k 0) 0 none ∙ sym (zero_elsewhere m is ranges covers k some none lt)
  ]

  -- the last byte is covered, so the file is as long as it
  size : length file ≡ length (file_of m)
  size =
      let whole = (has_its_pieces m is).size in
      let last = length (file_of m) - 1 in
      let reached : last < length file = so_far.reaches last (covers.tail last (omega (arith, whole, record_past_front m.shape.pages m.shape.blocks)) (omega (arith, whole)) (omega (arith, whole))) in
      omega (arith, reached, so_far.size)

  some_first : 0 < length file
  some_first = some_byte file 0 so_far.shut

  opened : file_of m ≡ written 0 (81 ∷ []) file
  opened =
      ext_get_or 0 (file_of m) (written 0 (81 ∷ []) file) (omega (arith, length-written 0 (81 ∷ []) file, size, some_first)) (λ k lt. elim (cases_lt 0 k) [
        | inl more ↦ sym (written_behind 0 k (81 ∷ []) file (omega arith) ∙ same_byte k more lt)
        | inr none ↦
            let gate : k ≡ 0 = omega arith in
            ap (λ (j : ℕ). get_or (file_of m) j 0) gate ∙ first_byte (file_of m) 81 (has_its_pieces m is).gate
            ∙ sym (ap (λ (j : ℕ). get_or (written 0 (81 ∷ []) file) j 0) gate ∙ written_within 0 0 (81 ∷ []) file (omega arith) (omega arith))
      ])

  shut : file ≡ written 0 (0 ∷ []) (file_of m)
  shut =
      ext_get_or 0 file (written 0 (0 ∷ []) (file_of m)) (omega (arith, length-written 0 (0 ∷ []) (file_of m), size, some_first)) (λ k lt. elim (cases_lt 0 k) [
        | inl more ↦ same_byte k more (omega (arith, size)) ∙ sym (written_behind 0 k (0 ∷ []) (file_of m) (omega arith))
        | inr none ↦
            let gate : k ≡ 0 = omega arith in
            ap (λ (j : ℕ). get_or file j 0) gate ∙ first_byte file 0 so_far.shut
            ∙ sym (ap (λ (j : ℕ). get_or (written 0 (0 ∷ []) (file_of m)) j 0) gate ∙ written_within 0 0 (0 ∷ []) (file_of m) (omega arith) (omega arith))
      ])

  pub whole_behind_gate : IsShutFile file m
  whole_behind_gate = record { opens = opened; shut = shut }

-- ---- a layout

pub open_layout : (file : List ℕ) (m : MachineData) → Lay file m → (slice_get file 0 ≡ Some 81) × (1 < length file)
open_layout file m lay = (open_front file m.shape lay.shape.front, front_fits file m.shape lay.shape.front)

pub shut_file : (file : List ℕ) (m : MachineData) → slice_get file 0 ≡ Some 0 → Lay file m → ⊥
shut_file file m is lay = let both : Some 0 ≡ Some 81 = sym is ∙ open_front file m.shape lay.shape.front in cc both
