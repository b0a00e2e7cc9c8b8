-- What each call makes of the bytes.
use Rattle.std.proofs.Common.{◌≡◌, ℕ, ◌+◌, ◌-◌, ◌*◌, ◌/◌, ◌%◌, ◌^◌, ◌<◌, ◌≤◌, min, true, false, cond, List, length, take, drop, replicate, All, eqb, get_or, set, sym, ap, ◌∙◌, refl, arith, eq-eqb, ne_eqb, inl, inr, subst, ext_get_or, get_or-take, get_or-drop, length-take}
use Rattle.std.specs.Int.{bit_at}
use Rattle.std.specs.Prelude.{bit_or, bit_and, ◌==◌}
use Rattle.std.proofs.lemmas.Bool.{cases_eq, cases_lt, eqb-false, eqb-true}
use Rattle.page_bitmap.specs.Bitmap.{BitmapData, bit_in, bits_of, byte_len_of, bytes_of, number_of, IsPacked}
use Rattle.std.proofs.lemmas.Grind.{get_or_default_zero}
use Rattle.std.proofs.lemmas.List.{get_or_past, get_or-replicate, length-replicate, get_or-set_same, get_or-set_other, length-set}
use Rattle.std.proofs.lemmas.List.Elements.{All-get_or, All-set, All-replicate}
use Rattle.std.proofs.lemmas.List.FromFn.{get_or-map-range_with_len, length-map-range_with_len}
use Rattle.std.proofs.lemmas.Nat.{or_lt}
use Rattle.std.proofs.lemmas.Nat.Bits.{bit_at-lt, bit_at-zero, same_from_bits_below, shr_and_one}
use Rattle.page_bitmap.proofs.Bits.{bit_at-low, bit_at-low_past, bit_at-number_of, bit_in-set, bit_in-zeros, get_or-bits_of, length-bits_of, number_of-below, same_bits}

-- the byte of a page is one of the bytes
pub byte_within : (pages p : ℕ) (bytes : List ℕ) → length bytes ≡ byte_len_of pages → p < pages → p / 8 < length bytes
byte_within pages p bytes e h =
    let within : p / 8 < 8 * ((pages + 63) / 64) = omega arith in
    rw e within

-- contracts see a bit for each page
pub one_each : (pages : ℕ) (bytes : List ℕ) (d : BitmapData) → ◌≡◌ {A = BitmapData} (record { pages = pages; bits = bits_of pages bytes }) d → length d.bits ≡ d.pages
one_each pages bytes d e = subst (λ (x : BitmapData). length x.bits ≡ x.pages) e (length-bits_of pages bytes)

-- ---- new

-- zeros have no bit past the last page
pub zeros_packed : (pages : ℕ) (bytes : List ℕ) → bytes ≡ replicate (byte_len_of pages) 0 → IsPacked pages bytes
zeros_packed pages bytes e = record {
  whole = ap length e ∙ length-replicate (byte_len_of pages) 0;
  small = rw e (All-replicate (λ byte. byte < 2 ^ 8) (byte_len_of pages) 0 (omega arith));
  clear = λ p h. rw e (bit_in-zeros (byte_len_of pages) p);
}

-- nor any bit set
pub zeros_bits : (pages : ℕ) (bytes : List ℕ) → bytes ≡ replicate (byte_len_of pages) 0 → bits_of pages bytes ≡ replicate pages false
zeros_bits pages bytes e = same_bits pages bytes (replicate pages false) (length-replicate pages false)
    (λ p h. rw (e, get_or-replicate pages p false false h) (bit_in-zeros (byte_len_of pages) p))

-- ---- set and test

module _ (pages p byte : ℕ) (bytes : List ℕ) (k : IsPacked pages bytes) (below : p < pages) (read : byte ≡ get_or bytes (p / 8) byte) where
  -- the byte that was read is the page's
  page_byte : byte ≡ get_or bytes (p / 8) 0
  page_byte = read ∙ get_or_default_zero bytes (p / 8) byte (byte_within pages p bytes k.whole below)

  -- one bit is set
  set_bit : (x : ℕ) → bit_in (set bytes (p / 8) (bit_or byte (1 * 2 ^ (p % 8) % 2 ^ 8))) x ≡ cond (eqb x p) true (bit_in bytes x)
  set_bit x = rw page_byte (bit_in-set bytes p x (byte_within pages p bytes k.whole below))

  -- and no other
  pub set_packed : IsPacked pages (set bytes (p / 8) (bit_or byte (1 * 2 ^ (p % 8) % 2 ^ 8)))
  set_packed =
      let byte_small : byte < 2 ^ 8 = rw page_byte (All-get_or (λ b. b < 2 ^ 8) bytes (p / 8) 0 (byte_within pages p bytes k.whole below) k.small) in
      let bit_small : 1 * 2 ^ (p % 8) % 2 ^ 8 < 2 ^ 8 = omega arith in
      record {
        whole = length-set bytes (p / 8) (bit_or byte (1 * 2 ^ (p % 8) % 2 ^ 8)) ∙ k.whole;
        small = All-set (λ b. b < 2 ^ 8) bytes (p / 8) (bit_or byte (1 * 2 ^ (p % 8) % 2 ^ 8)) (or_lt 8 byte (1 * 2 ^ (p % 8) % 2 ^ 8) byte_small bit_small) k.small;
        clear = λ x h. set_bit x ∙ rw (ne_eqb x p (λ e. omega arith)) (k.clear x h);
      }

  -- so contracts see one bit set
  pub set_bits : bits_of pages (set bytes (p / 8) (bit_or byte (1 * 2 ^ (p % 8) % 2 ^ 8))) ≡ set (bits_of pages bytes) p true
  set_bits = same_bits pages (set bytes (p / 8) (bit_or byte (1 * 2 ^ (p % 8) % 2 ^ 8))) (set (bits_of pages bytes) p true)
      (length-set (bits_of pages bytes) p true ∙ length-bits_of pages bytes)
      (λ x h. set_bit x ∙ elim (cases_eq x p) [
        | inl same ↦ rw (same, eq-eqb p p refl) (sym (get_or-set_same (bits_of pages bytes) p true false (rw length-bits_of below)))
        | inr other ↦ rw (ne_eqb x p other) (sym (get_or-set_other (bits_of pages bytes) p x true false other ∙ get_or-bits_of pages bytes x false h))
      ])

  -- the test of one bit
  pub tests_bit : (bit_and (byte / 2 ^ (p % 8)) 1 == 1) ≡ get_or (bits_of pages bytes) p false
  tests_bit = rw (shr_and_one byte (p % 8), get_or-bits_of pages bytes p false below) (ap (λ (b : ℕ). bit_at b (p % 8) == 1) page_byte)

-- ---- get_bytes

-- the bytes are those that were given, each without its bits past the last page
pub record IsCut (pages : ℕ) (given bytes : List ℕ) (n : ℕ) : Type 0 where
  pub whole : length bytes ≡ byte_len_of pages
  pub small : All (λ byte. byte < 2 ^ 8) bytes
  pub cut : (k : ℕ) → k < n → get_or bytes k 0 ≡ get_or given k 0 % 2 ^ min (pages - 8 * k) 8

-- one more byte
pub cut_more : (pages : ℕ) (given bytes : List ℕ) (n byte : ℕ) → IsCut pages given bytes n → n < length bytes → byte ≡ get_or given n 0 % 2 ^ min (pages - 8 * n) 8 → byte < 2 ^ 8 → IsCut pages given (set bytes n byte) (n + 1)
cut_more pages given bytes n byte k within e h = record {
  whole = length-set bytes n byte ∙ k.whole;
  small = All-set (λ b. b < 2 ^ 8) bytes n byte h k.small;
  cut = λ i below. elim (cases_eq i n) [
    | inl same ↦ rw same (get_or-set_same bytes n byte 0 within ∙ e)
    | inr other ↦ get_or-set_other bytes n i byte 0 other ∙ k.cut i (omega arith)
  ];
}

-- all bytes
pub cut_all : (pages : ℕ) (given bytes : List ℕ) (n : ℕ) → IsCut pages given bytes n → byte_len_of pages ≤ n → IsCut pages given bytes (byte_len_of pages)
cut_all pages given bytes n k h = record {
  whole = k.whole;
  small = k.small;
  cut = λ i below. k.cut i (omega arith);
}

module _ (pages : ℕ) (given bytes : List ℕ) (k : IsCut pages given bytes (byte_len_of pages)) where
  -- the bits of the pages are those that were given
  cut_below : (p : ℕ) → p < pages → bit_in bytes p ≡ bit_in given p
  cut_below p h =
      let within : p / 8 < 8 * ((pages + 63) / 64) = omega arith in
      let low : p % 8 < min (pages - 8 * (p / 8)) 8 = omega arith in
      rw (k.cut (p / 8) within, bit_at-low (get_or given (p / 8) 0) (min (pages - 8 * (p / 8)) 8) (p % 8) low) refl

  -- and past the last page there are none
  cut_past : (p : ℕ) → pages ≤ p → bit_in bytes p ≡ false
  cut_past p h = elim (cases_lt (p / 8) (byte_len_of pages)) [
    | inl within ↦
        let high : min (pages - 8 * (p / 8)) 8 ≤ p % 8 = omega arith in
        rw (k.cut (p / 8) within, bit_at-low_past (get_or given (p / 8) 0) (min (pages - 8 * (p / 8)) 8) (p % 8) high) refl
    | inr past ↦ rw (get_or_past bytes (p / 8) 0 (rw k.whole past), bit_at-zero) refl
  ]

  pub cut_packed : IsPacked pages bytes
  cut_packed = record { whole = k.whole; small = k.small; clear = cut_past }

  pub cut_bits : bits_of pages bytes ≡ bits_of pages given
  cut_bits = same_bits pages bytes (bits_of pages given) (length-bits_of pages given) (λ p h. cut_below p h ∙ sym (get_or-bits_of pages given p false h))

-- ---- put_bytes

-- two bits with the same test are the same
same_bit : (x y : ℕ) → x < 2 → y < 2 → (x == 1) ≡ (y == 1) → x ≡ y
same_bit x y h k e = elim (cases_eq x 1) [
  | inl one ↦
      let test : (y == 1) ≡ true = sym e ∙ eq-eqb x 1 one in
      one ∙ sym (eqb-true y 1 test)
  | inr not_one ↦
      let test : (y == 1) ≡ false = sym e ∙ ne_eqb x 1 not_one in
      let other : y ≡ 1 → ⊥ = eqb-false y 1 test in
      omega arith
]

-- each bit of a byte is the bit of its page, or 0
bit_in_byte : (pages i j : ℕ) (bytes : List ℕ) → IsPacked pages bytes → j < 8 → (bit_at (get_or bytes i 0) j == 1) ≡ get_or (bits_of pages bytes) (8 * i + j) false
bit_in_byte pages i j bytes k below =
    let at_byte : (8 * i + j) / 8 ≡ i = omega arith in
    let at_bit : (8 * i + j) % 8 ≡ j = omega arith in
    let here : bit_in bytes (8 * i + j) ≡ (bit_at (get_or bytes i 0) j == 1) = rw (at_byte, at_bit) refl in
    sym here ∙ elim (cases_lt (8 * i + j) pages) [
      | inl page ↦ sym (get_or-bits_of pages bytes (8 * i + j) false page)
      | inr past ↦ k.clear (8 * i + j) past ∙ sym (get_or_past (bits_of pages bytes) (8 * i + j) false (rw length-bits_of past))
    ]

-- the bytes are those of the bits
pub packed_bytes : (pages : ℕ) (bytes : List ℕ) → IsPacked pages bytes → bytes ≡ bytes_of pages (bits_of pages bytes)
packed_bytes pages bytes k = ext_get_or 0 bytes (bytes_of pages (bits_of pages bytes)) (k.whole ∙ sym (length-map-range_with_len _ 0 (byte_len_of pages)))
    (λ i h. sym (byte_is i h))
  where
    number : (i : ℕ) → i < length bytes → number_of (take 8 (drop (8 * i) (bits_of pages bytes))) ≡ get_or bytes i 0
    number i h = same_from_bits_below 8 (number_of (take 8 (drop (8 * i) (bits_of pages bytes)))) (get_or bytes i 0)
        (number_of-below (take 8 (drop (8 * i) (bits_of pages bytes))) 8 (rw length-take (omega arith)))
        (All-get_or (λ b. b < 2 ^ 8) bytes i 0 h k.small)
        (λ j below. same_bit _ _ (bit_at-lt _ j) (bit_at-lt _ j)
        (bit_at-number_of (take 8 (drop (8 * i) (bits_of pages bytes))) j ∙ get_or-take 8 (drop (8 * i) (bits_of pages bytes)) j false below
        ∙ get_or-drop (8 * i) (bits_of pages bytes) j false ∙ sym (bit_in_byte pages i j bytes k below)))

    byte_is : (i : ℕ) → i < length bytes → get_or (bytes_of pages (bits_of pages bytes)) i 0 ≡ get_or bytes i 0
    byte_is i h = get_or-map-range_with_len (λ x. number_of (take 8 (drop (8 * x) (bits_of pages bytes)))) 0 (byte_len_of pages) i i 0 (rw k.whole at h) (omega arith) ∙ number i h
