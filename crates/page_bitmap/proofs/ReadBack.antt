-- Bits are read back from their bytes.
use Rattle.std.proofs.Common.{◌≡◌, ℕ, ◌+◌, ◌*◌, ◌/◌, ◌%◌, ◌<◌, Bool, false, List, length, take, drop, get_or, ap, ◌∙◌, arith, get_or-take, get_or-drop}
use Rattle.std.specs.Int.{bit_at}
use Rattle.std.specs.Prelude.{◌==◌}
use Rattle.std.proofs.lemmas.List.FromFn.{get_or-map-range_with_len}
use Rattle.page_bitmap.specs.Bitmap.{bit_in, bits_of, byte_len_of, bytes_of, number_of}
use Rattle.page_bitmap.proofs.Bits.{bit_at-number_of, same_bits}

-- the bit of a page in the bytes of these bits
bit_in-bytes_of : (pages p : ℕ) (bits : List Bool) → p < pages → bit_in (bytes_of pages bits) p ≡ get_or bits p false
bit_in-bytes_of pages p bits h =
    let within : p / 8 < byte_len_of pages = omega arith in
    let low : p % 8 < 8 = omega arith in
    let place : 8 * (p / 8) + p % 8 ≡ p = omega arith in
    ap (λ (byte : ℕ). bit_at byte (p % 8) == 1) (get_or-map-range_with_len (λ x. number_of (take 8 (drop (8 * x) bits))) 0 (byte_len_of pages) (p / 8) (p / 8) 0 within (omega arith))
    ∙ bit_at-number_of (take 8 (drop (8 * (p / 8)) bits)) (p % 8)
    ∙ get_or-take 8 (drop (8 * (p / 8)) bits) (p % 8) false low
    ∙ get_or-drop (8 * (p / 8)) bits (p % 8) false
    ∙ ap (λ (i : ℕ). get_or bits i false) place

-- all bits, where there is one for each page
pub bits_of-bytes_of : (pages : ℕ) (bits : List Bool) → length bits ≡ pages → bits_of pages (bytes_of pages bits) ≡ bits
bits_of-bytes_of pages bits len = same_bits pages (bytes_of pages bits) bits len (λ p h. bit_in-bytes_of pages p bits h)
