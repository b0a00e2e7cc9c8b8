-- A bitmap of pages and its bytes in a file (this project's file layout, docs/FILE_FORMAT.md).
use Rattle.std.specs.Prelude.{◌≡◌, ℕ, ◌+◌, ◌*◌, ◌/◌, ◌%◌, ◌^◌, ◌<◌, ◌≤◌, Bool, false, ◌==◌, List, [], ◌∷◌, length, map, All, take, drop, slice_index, if◌then◌else◌}
use Rattle.std.specs.Int.{bit_at}
use Rattle.std.specs.List.{range_with_len}

-- how many pages there are, and a bit for each
pub record BitmapData : Type 0 where
  pub pages : ℕ
  pub bits : List Bool

-- the bytes of the bitmap in a file: whole words of 64 bits
abbrev pub byte_len_of : ℕ → ℕ
byte_len_of pages = 8 * ((pages + 63) / 64)

-- the bit of page p: bit p mod 8 of byte p / 8
abbrev pub bit_in : List ℕ → ℕ → Bool
bit_in bytes p = bit_at (slice_index bytes (p / 8)) (p % 8) == 1

-- the bits of all pages
abbrev pub bits_of : ℕ → List ℕ → List Bool
bits_of pages bytes = map (bit_in bytes) (range_with_len 0 pages)

-- the number with these bits, the lowest first
abbrev pub number_of : List Bool → ℕ
number_of [] = 0
number_of (b ∷ bits) = (if b then 1 else 0) + 2 * number_of bits

-- the bytes of these bits, with 0 past the last
abbrev pub bytes_of : ℕ → List Bool → List ℕ
bytes_of pages bits = map (λ i. number_of (take 8 (drop (8 * i) bits))) (range_with_len 0 (byte_len_of pages))

-- there are as many bytes as the file has, each of 8 bits, and the bits past the last page are 0
pub record IsPacked (pages : ℕ) (bytes : List ℕ) : Type 0 where
  pub whole : length bytes ≡ byte_len_of pages
  pub small : All (λ byte. byte < 2 ^ 8) bytes
  pub clear : (p : ℕ) → pages ≤ p → bit_in bytes p ≡ false
