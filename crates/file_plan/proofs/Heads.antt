-- The head piece of a block and the tail: their lengths, and the parts of a head one behind the other.
use Rattle.std.proofs.Common.{◌≡◌, ℕ, zero, suc, ◌+◌, Bool, List, ◌++◌, length, refl, ap, ◌∙◌, length-append}
use Rattle.std.proofs.lemmas.List.FromFn.{length-map-range_with_len}
use Rattle.ram_block.specs.Shape.{ShapeData}
use Rattle.page_bitmap.specs.Bitmap.{byte_len_of, bytes_of}
use Rattle.file_plan.specs.Plan.{front_len, head_len_of}
use Rattle.file_plan.specs.Layout.{front_text, front_part, record_text, head_text, tail_text}

pub length-front : (s : ShapeData) → length (front_text s) ≡ 47
unfolding front_text
length-front s = refl

pub length-record : (s : ShapeData) (block : ℕ) → length (record_text s block) ≡ 41
unfolding record_text
length-record s block = refl

pub length-bytes_of : (pages : ℕ) (bits : List Bool) → length (bytes_of pages bits) ≡ byte_len_of pages
length-bytes_of pages bits = length-map-range_with_len _ 0 (byte_len_of pages)

length-front_part : (s : ShapeData) (block : ℕ) → length (front_part s block) ≡ front_len block
length-front_part s zero = length-front s
length-front_part s (suc block) = refl

pub length_head : (s : ShapeData) (block : ℕ) (bits : List Bool) → length (head_text s block bits) ≡ head_len_of s.pages block
unfolding head_text
length_head s block bits =
    length-append (front_part s block) (record_text s block ++ bytes_of s.pages bits)
    ∙ ap (λ (n : ℕ). n + length (record_text s block ++ bytes_of s.pages bits)) (length-front_part s block)
    ∙ ap (λ (n : ℕ). front_len block + n)
    (length-append (record_text s block) (bytes_of s.pages bits) ∙ ap (λ (n : ℕ). n + length (bytes_of s.pages bits)) (length-record s block) ∙ ap (λ (n : ℕ). 41 + n) (length-bytes_of s.pages bits))

pub length-tail : length tail_text ≡ 31
unfolding tail_text
length-tail = refl

-- the first head piece has the front before its record
pub first_head : (s : ShapeData) (block : ℕ) (bits : List Bool) → block ≡ 0 → head_text s block bits ≡ front_text s ++ (record_text s 0 ++ bytes_of s.pages bits)
unfolding head_text
first_head s block bits first = ap (λ (b : ℕ). front_part s b ++ (record_text s b ++ bytes_of s.pages bits)) first

-- and each other one has its record alone
pub later_head : (s : ShapeData) (block : ℕ) (bits : List Bool) → (block ≡ 0 → ⊥) → head_text s block bits ≡ record_text s block ++ bytes_of s.pages bits
unfolding head_text
later_head s zero bits other = absurd (other refl)
later_head s (suc block) bits other = refl
