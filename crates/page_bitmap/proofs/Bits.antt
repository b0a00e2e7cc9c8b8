-- Lemmas on the bits of a list of bytes.
use Rattle.std.proofs.Common.{◌≡◌, ℕ, zero, suc, ◌+◌, ◌*◌, ◌/◌, ◌%◌, ◌^◌, ◌<◌, ◌≤◌, Bool, true, false, cond, List, [], ◌∷◌, length, replicate, eqb, get_or, set, sym, ap, ◌∙◌, refl, arith, eq-eqb, ne_eqb, inl, inr, w8, ext_get_or, pow_pos, pow-suc}
use Rattle.std.specs.Int.{bit_at}
use Rattle.std.specs.Prelude.{bit_or, ◌==◌}
use Rattle.std.proofs.lemmas.Bool.{cases_eq, cases_lt}
use Rattle.page_bitmap.specs.Bitmap.{bit_in, bits_of, number_of}
use Rattle.std.proofs.lemmas.List.{get_or-set_same, get_or-set_other, get_or-replicate, length-replicate, get_or_past}
use Rattle.std.proofs.lemmas.List.FromFn.{get_or-map-range_with_len, length-map-range_with_len}
use Rattle.std.proofs.lemmas.Nat.{shr_split}
use Rattle.std.proofs.lemmas.Nat.Bits.{bit_at-suc, bit_at-zero, bit_at_above, bit_at_cat_low, bit_at_lowest, bit_at_set_other, bit_at_set_same}

-- there is a bit for each page
pub length-bits_of : (pages : ℕ) (bytes : List ℕ) → length (bits_of pages bytes) ≡ pages
length-bits_of pages bytes = length-map-range_with_len (bit_in bytes) 0 pages

-- which is that page's
pub get_or-bits_of : (pages : ℕ) (bytes : List ℕ) (p : ℕ) (d : Bool) → p < pages → get_or (bits_of pages bytes) p d ≡ bit_in bytes p
get_or-bits_of pages bytes p d h = get_or-map-range_with_len (bit_in bytes) 0 pages p p d h (omega arith)

-- bytes with the same bits of all pages
pub same_bits : (pages : ℕ) (bytes : List ℕ) (bits : List Bool) → length bits ≡ pages → ((p : ℕ) → p < pages → bit_in bytes p ≡ get_or bits p false) → bits_of pages bytes ≡ bits
same_bits pages bytes bits e h = ext_get_or false (bits_of pages bytes) bits (length-bits_of pages bytes ∙ sym e)
    (λ p within.
    let below : p < pages = rw length-bits_of at within in
    get_or-bits_of pages bytes p false below ∙ h p below)

-- bytes of zeros have no bit set
pub bit_in-zeros : (n p : ℕ) → bit_in (replicate n 0) p ≡ false
bit_in-zeros n p = elim (cases_lt (p / 8) n) [
  | inl within ↦
      let zero_byte : ◌≡◌ {A = ℕ} (get_or {A = ℕ} (replicate n 0) (p / 8) 0) 0 = get_or-replicate n (p / 8) 0 0 within in
      rw (zero_byte, bit_at-zero) refl
  | inr past ↦
      let zero_byte : ◌≡◌ {A = ℕ} (get_or {A = ℕ} (replicate n 0) (p / 8) 0) 0 = get_or_past (replicate n 0) (p / 8) 0 (rw length-replicate past) in
      rw (zero_byte, bit_at-zero) refl
]

-- a bit set in its byte is the only one that changes
pub bit_in-set : (bytes : List ℕ) (p x : ℕ) → p / 8 < length bytes → bit_in (set bytes (p / 8) (bit_or (get_or bytes (p / 8) 0) (1 * 2 ^ (p % 8) % 2 ^ 8))) x ≡ cond (eqb x p) true (bit_in bytes x)
bit_in-set bytes p x within = elim (cases_eq x p) [
  | inl same ↦ rw (same, eq-eqb p p refl, get_or-set_same bytes (p / 8) (bit_or (get_or bytes (p / 8) 0) (1 * 2 ^ (p % 8) % 2 ^ 8)) 0 within, bit_at_set_same w8 (get_or bytes (p / 8) 0) (p % 8) (omega arith)) refl
  | inr other ↦ rw (ne_eqb x p other) (elim (cases_eq (x / 8) (p / 8)) [
    | inl same_byte ↦
        let other_bit : x % 8 ≡ p % 8 → ⊥ = λ e. other (omega arith) in
        rw (same_byte, get_or-set_same bytes (p / 8) (bit_or (get_or bytes (p / 8) 0) (1 * 2 ^ (p % 8) % 2 ^ 8)) 0 within, bit_at_set_other w8 (get_or bytes (p / 8) 0) (p % 8) (omega arith) (x % 8) other_bit) refl
    | inr other_byte ↦ rw (get_or-set_other bytes (p / 8) (x / 8) (bit_or (get_or bytes (p / 8) 0) (1 * 2 ^ (p % 8) % 2 ^ 8)) 0 other_byte) refl
  ])
]

-- the lowest n bits of a byte keep those bits
pub bit_at-low : (byte n j : ℕ) → j < n → bit_at (byte % 2 ^ n) j ≡ bit_at byte j
bit_at-low byte n j h = sym (bit_at_cat_low (byte / 2 ^ n) n (byte % 2 ^ n) j h) ∙ ap (λ (b : ℕ). bit_at b j) (shr_split byte n)

-- and no other
pub bit_at-low_past : (byte n j : ℕ) → n ≤ j → bit_at (byte % 2 ^ n) j ≡ 0
bit_at-low_past byte n j h =
    let positive : 0 < 2 ^ n = pow_pos n in
    let below : byte % 2 ^ n < 2 ^ n = omega arith in
    bit_at_above (byte % 2 ^ n) n j below h

-- a number has the bits that it was made of
pub bit_at-number_of : (bits : List Bool) (j : ℕ) → (bit_at (number_of bits) j == 1) ≡ get_or bits j false
bit_at-number_of [] j = rw bit_at-zero refl
bit_at-number_of (true ∷ bits) zero =
    let odd : (1 + 2 * number_of bits) % 2 ≡ 1 = omega arith in
    rw (bit_at_lowest (1 + 2 * number_of bits), odd) refl
bit_at-number_of (false ∷ bits) zero =
    let even : (0 + 2 * number_of bits) % 2 ≡ 0 = omega arith in
    rw (bit_at_lowest (0 + 2 * number_of bits), even) refl
bit_at-number_of (true ∷ bits) (suc j) =
    let half : (1 + 2 * number_of bits) / 2 ≡ number_of bits = omega arith in
    rw (bit_at-suc (1 + 2 * number_of bits) j, half) (bit_at-number_of bits j)
bit_at-number_of (false ∷ bits) (suc j) =
    let half : (0 + 2 * number_of bits) / 2 ≡ number_of bits = omega arith in
    rw (bit_at-suc (0 + 2 * number_of bits) j, half) (bit_at-number_of bits j)

-- and is below 2 ^ n where they are n
pub number_of-below : (bits : List Bool) (n : ℕ) → length bits ≤ n → number_of bits < 2 ^ n
number_of-below [] n h = pow_pos n
number_of-below (b ∷ bits) zero h = absurd (omega arith)
number_of-below (true ∷ bits) (suc n) h =
    let rest : number_of bits < 2 ^ n = number_of-below bits n (omega arith) in
    omega (arith, pow-suc 2 n)
number_of-below (false ∷ bits) (suc n) h =
    let rest : number_of bits < 2 ^ n = number_of-below bits n (omega arith) in
    omega (arith, pow-suc 2 n)
