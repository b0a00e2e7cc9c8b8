-- Blocks that stand in a file pass their checks.
use Rattle.std.proofs.Common.{◌≡◌, ℕ, zero, suc, ◌+◌, ◌-◌, ◌*◌, ◌/◌, ◌%◌, ◌^◌, ◌<◌, ◌≤◌, true, Bool, List, [], ◌∷◌, ◌++◌, Ok, Result, None, length, take, drop, refl, ◌∙◌, ap, subst, arith, Option, mul_assoc, mul_comm}
use Rattle.std.proofs.Math.Nat.{mul-div_cancel, mul-mod_left}
use Rattle.std.specs.Prelude.{◌==◌, nat_lt}
use Rattle.std.proofs.lemmas.Bool.{cond-false, cond-true, le-leb, le-ltb, and_from, and_right, eq-eqb}
use Rattle.std.proofs.lemmas.Nat.{from_be_bytes-to_be_bytes_8}
use Rattle.ram_block.specs.Shape.{IsShape, ShapeData, ram_bytes_of}
use Rattle.mig_stream.specs.Checks.{and_then, read_from}
use Rattle.mig_stream.specs.Pieces.{piece_in}
use Rattle.mig_stream.specs.Text.{be64}
use Rattle.mapped_ram_header.specs.Header.{header_bytes, header_fault}
use Rattle.mapped_ram_header.specs.declared.block.Places.{Places}
use Rattle.page_bitmap.specs.Bitmap.{BitmapData, bits_of, byte_len_of}
use Rattle.page_bitmap.proofs.Bits.{length-bits_of}
use Rattle.device_state.proofs.Found.{piece_has, piece_is}
use Rattle.device_state.proofs.Parts.{has_parts}
use Rattle.file_plan.specs.Plan.{record_place, block_places}
use Rattle.file_plan.specs.Layout.{StandsAt, block_name, record_text}
use Rattle.loader.specs.Frame.{RamData, bitmap_in, bitmaps_in, block_in, blocks_in, cut_page, header_in, is_length, later_in, ram_in, refused_header, refused_page, used_in}
use Rattle.loader.specs.Stands.{HasBlock, HasBlocks, HasHeader, HasUsed}
use Rattle.loader.specs.declared.piece.Text.TheVariants as texts
use Rattle.loader.specs.declared.refusal.Refusal.TheVariants.{Truncated}
use Rattle.loader.proofs.Forward.{then_ok, check_ok, number64_is, expected_is}

-- a record
pub has_record : (file : List ℕ) (shape : ShapeData) (block : ℕ) → StandsAt file (record_place shape.pages block) (record_text shape block) → HasBlock file shape.pages block
unfolding record_text HasHeader
has_record file shape block stands =
    let at = record_place shape.pages block in
    let one = has_parts file at (length (block_name block) ∷ block_name block) _ stands in
    let two = has_parts file (at + 5) (be64 (4096 * shape.pages)) (header_bytes (block_places shape.pages block)) one.1 in
    let there : at + 5 + 8 ≡ at + 13 = omega arith in
    record {
      used = record { name = one.0; used = two.0 };
      header = subst (λ (k : ℕ). StandsAt file k (header_bytes (block_places shape.pages block))) there two.1;
    }

used_is : (file : List ℕ) (block at v : ℕ) → v < 2 ^ 64 → HasUsed file block at v → used_in file block at ≡ Ok v
unfolding used_in
used_is file block at v fits has = then_ok _ _ tt v (expected_is (texts.BlockName block) file at (length (block_name block) ∷ block_name block) has.name) (number64_is file (at + 5) v fits has.used)

-- a header
header_is : (file : List ℕ) (pages block : ℕ) → HasHeader file pages block → header_fault (header_bytes (block_places pages block)) (block_places pages block) ≡ Ok tt
    → header_in file block (block_places pages block) ≡ Ok tt
unfolding header_in HasHeader
header_is file pages block stands right =
    let bytes = header_bytes (block_places pages block) in
    let piece : piece_in file (block_places pages block).header 28 ≡ Ok bytes = piece_is file (block_places pages block).header 28 bytes (piece_has file (block_places pages block).header bytes stands) in
    ap (λ (p : Result (List ℕ) _). and_then (read_from Truncated (λ (b : List ℕ). header_fault b (block_places pages block)) p) (refused_header block)) piece ∙ ap (refused_header block) right

-- a bitmap that the file has whole
pub bitmap_there : List ℕ → ℕ → ℕ → BitmapData
bitmap_there file pages at = record { pages = pages; bits = bits_of pages (take (byte_len_of pages) (drop at file)) }

bitmap_is : (file : List ℕ) (pages at : ℕ) → at + byte_len_of pages ≤ length file → bitmap_in file pages at ≡ Ok (bitmap_there file pages at)
unfolding bitmap_in bitmap_there
bitmap_is file pages at room =
    let long : byte_len_of pages ≤ length file - at = omega (arith, room) in
    let piece : piece_in file at (byte_len_of pages) ≡ Ok (take (byte_len_of pages) (drop at file)) = cond-false _ _ _ (le-ltb _ _ long) in
    ap (read_from Truncated (λ (bytes : List ℕ). record { pages = pages; bits = bits_of pages bytes })) piece

-- no page is cut that ends within the file
none_cut : (len at : ℕ) (bits : List Bool) → at + 4096 * length bits ≤ len → cut_page len at bits ≡ None
none_cut len at [] room = refl
none_cut len at (bit ∷ bits) room =
    let long : 4096 ≤ len - at = omega (arith, room) in
    let rest : at + 4096 + 4096 * length bits ≤ len = omega (arith, room) in
    cond-false _ _ _ (and_right bit (nat_lt (len - at) 4096) (le-ltb _ _ long)) ∙ none_cut len (at + 4096) bits rest

-- the numbers of a header are read back
header_right : (p : Places) → p.bitmap < 2 ^ 64 → p.pages < 2 ^ 64 → header_fault (header_bytes p) p ≡ Ok tt
header_right p small fits =
    cond-true _ _ _ (eq-eqb _ _ (from_be_bytes-to_be_bytes_8 p.bitmap small)) ∙ cond-true _ _ _ (eq-eqb _ _ (from_be_bytes-to_be_bytes_8 p.pages fits))

-- records stand within the first 2^28 bytes
pub early_record : (pages block : ℕ) → pages ≤ 2048 → record_place pages block ≤ 47 + block * 16777216
unfolding record_place
early_record pages zero few = omega arith
early_record pages (suc block) few =
    let before = early_record pages block few in
    omega (arith, before, few)

-- what a block has before the next one begins
pub record Reaches (pages block : ℕ) : Type 0 where
  pub bitmap : (block_places pages block).bitmap + byte_len_of pages ≤ (block_places pages block).pages
  pub pages_end : (block_places pages block).pages + 4096 * pages ≤ record_place pages (suc block)

reaches : (pages block : ℕ) → Reaches pages block
unfolding record_place
reaches pages block = record { bitmap = omega arith; pages_end = omega arith }

pub block_is : (file : List ℕ) (pages block : ℕ) → pages ≤ 2048 → block < 8 → HasHeader file pages block → record_place pages (suc block) ≤ length file
    → block_in file pages block ≡ Ok (bitmap_there file pages (block_places pages block).bitmap)
unfolding block_in bitmap_there
block_is file pages block few in_ram has room =
    let places = block_places pages block in
    let ends = reaches pages block in
    let early = early_record pages block few in
    let bitmap = bitmap_there file pages places.bitmap in
    let count : length bitmap.bits ≡ pages = length-bits_of pages (take (byte_len_of pages) (drop places.bitmap file)) in
    let header = header_is file pages block has (header_right places (omega (arith, early, in_ram)) (omega (arith, early, in_ram, few))) in
    then_ok (header_in file block places) _ tt bitmap header
    (then_ok (bitmap_in file pages places.bitmap) _ bitmap bitmap (bitmap_is file pages places.bitmap (omega (arith, ends.bitmap, ends.pages_end, room)))
    (ap (λ (cut : Option ℕ). and_then (refused_page cut) (λ _. Ok bitmap)) (none_cut (length file) places.pages bitmap.bits (omega (arith, count, ends.pages_end, room)))))

later_is : (file : List ℕ) (pages block : ℕ) → pages ≤ 2048 → block < 8 → HasBlock file pages block → record_place pages (suc block) ≤ length file
    → later_in file pages block ≡ Ok (bitmap_there file pages (block_places pages block).bitmap)
unfolding later_in
later_is file pages block few in_ram has room =
    let found = bitmap_there file pages (block_places pages block).bitmap in
    then_ok (used_in file block (record_place pages block)) _ (4096 * pages) found (used_is file block (record_place pages block) (4096 * pages) (omega (arith, few)) has.used)
    (check_ok (4096 * pages == 4096 * pages) _ _ found (eq-eqb (4096 * pages) (4096 * pages) refl) (block_is file pages block few in_ram has.header room))

-- the pages of a block stand behind its record
begins : (pages block : ℕ) → record_place pages block ≤ (block_places pages block).bitmap
begins pages block = omega arith

-- records stand one behind another
records_rise : (pages block n : ℕ) → record_place pages block ≤ record_place pages (block + n)
records_rise pages block zero =
    let same : block ≡ block + 0 = omega arith in
    let at = ap (record_place pages) same in
    omega (arith, at)
records_rise pages block (suc n) =
    let before = records_rise pages block n in
    let ends = reaches pages (block + n) in
    let next : suc (block + n) ≡ block + suc n = omega arith in
    let at = ap (record_place pages) next in
    omega (arith, before, ends.bitmap, ends.pages_end, at, begins pages (block + n))

-- the blocks from this one on
blocks_are : (file : List ℕ) (pages n block : ℕ) (so_far : List BitmapData) → pages ≤ 2048 → block + n ≤ 8 → ((b : ℕ) → b < block + n → HasBlock file pages b)
    → record_place pages (block + n) ≤ length file → (bits : List BitmapData) × (blocks_in file pages block n so_far ≡ Ok bits)
unfolding blocks_in
blocks_are file pages zero block so_far few in_ram has room = (so_far, refl)
blocks_are file pages (suc n) block so_far few in_ram has room =
    let found = bitmap_there file pages (block_places pages block).bitmap in
    let same : block + suc n ≡ block + 1 + n = omega arith in
    let next : suc block + n ≡ block + suc n = omega arith in
    let end = ap (record_place pages) next in
    let rise = records_rise pages (suc block) n in
    let here = later_is file pages block few (omega (arith, in_ram)) (has block (omega arith)) (omega (arith, end, rise, room)) in
    let rest = blocks_are file pages n (block + 1) (so_far ++ found ∷ []) few (omega (arith, in_ram)) (λ b lt. has b (omega (arith, lt))) (subst (λ (k : ℕ). record_place pages k ≤ length file) same room) in
    (rest.0, then_ok (later_in file pages block) (λ (b : BitmapData). blocks_in file pages (block + 1) n (so_far ++ b ∷ [])) found rest.0 here rest.1)

pub bitmaps_are : (file : List ℕ) (pages blocks : ℕ) → pages ≤ 2048 → 0 < blocks → blocks ≤ 8 → HasBlocks file pages blocks → record_place pages blocks ≤ length file
    → (bits : List BitmapData) × (bitmaps_in file pages blocks ≡ Ok bits)
unfolding bitmaps_in
bitmaps_are file pages blocks few some in_ram has room =
    let first = bitmap_there file pages (block_places pages 0).bitmap in
    let count : 1 + (blocks - 1) ≡ blocks = omega (arith, some) in
    let rise = records_rise pages 1 (blocks - 1) in
    let end = ap (record_place pages) count in
    let rest = blocks_are file pages (blocks - 1) 1 (first ∷ []) few (omega (arith, in_ram, some)) (λ b lt. has b (omega (arith, lt, some))) (omega (arith, end, room)) in
    (rest.0, then_ok (block_in file pages 0) (λ (b : BitmapData). blocks_in file pages 1 (blocks - 1) (b ∷ [])) first rest.0 (block_is file pages 0 few (omega arith) (has 0 some).header (omega (arith, rise, end, room))) rest.1)

-- the first record stands behind the front
first_used : (file : List ℕ) (pages : ℕ) → HasBlock file pages 0 → HasUsed file 0 47 (4096 * pages)
unfolding record_place
first_used file pages has = has.used

-- the length of the first block passes its checks
module _ (s : ShapeData) (limits : IsShape s) where
  total_by_blocks : ram_bytes_of s ≡ s.blocks * (4096 * s.pages)
  total_by_blocks = mul_assoc s.blocks s.pages 4096 ∙ ap (λ (k : ℕ). s.blocks * k) (mul_comm s.pages 4096)

  some_used : 0 < 4096 * s.pages
  some_used = omega (arith, limits.pages)

  blocks_told : ram_bytes_of s / (4096 * s.pages) ≡ s.blocks
  blocks_told = ap (λ (k : ℕ). k / (4096 * s.pages)) total_by_blocks ∙ mul-div_cancel s.blocks some_used

  divides : ram_bytes_of s % (4096 * s.pages) ≡ 0
  divides = ap (λ (k : ℕ). k % (4096 * s.pages)) total_by_blocks ∙ mul-mod_left s.blocks (4096 * s.pages)

  pages_told : 4096 * s.pages / 4096 ≡ s.pages
  pages_told = omega arith

  pub length_right : is_length (ram_bytes_of s) (4096 * s.pages) ≡ true
  length_right =
      let whole : 4096 * s.pages % 4096 ≡ 0 = omega arith in
      let few : ram_bytes_of s / (4096 * s.pages) ≤ 8 = omega (arith, blocks_told, limits.blocks) in
      let least : 4096 ≤ 4096 * s.pages = omega (arith, limits.pages) in
      let most : 4096 * s.pages ≤ 8388608 = omega (arith, limits.pages) in
      and_from _ _ (and_from _ _ (and_from _ _ (and_from _ _ (eq-eqb _ _ whole) (le-leb _ _ least)) (le-leb _ _ most)) (eq-eqb _ _ divides)) (le-leb _ _ few)

  pub ram_are : (file : List ℕ) → HasBlocks file s.pages s.blocks → record_place s.pages s.blocks ≤ length file
      → (bits : List BitmapData) × (ram_in file (ram_bytes_of s) ≡ Ok (record { pages = s.pages; bits = bits })) × (bitmaps_in file s.pages s.blocks ≡ Ok bits)
  unfolding ram_in
  ram_are file has room =
      let total = ram_bytes_of s in
      let v = 4096 * s.pages in
      let bits = bitmaps_are file s.pages s.blocks (omega (arith, limits.pages)) (omega (arith, limits.blocks)) (omega (arith, limits.blocks)) has room in
      let there : bitmaps_in file (v / 4096) (total / v) ≡ Ok bits.0 = ap (λ (p : ℕ). bitmaps_in file p (total / v)) pages_told ∙ ap (bitmaps_in file s.pages) blocks_told ∙ bits.1 in
      let ram : RamData = record { pages = s.pages; bits = bits.0 } in
      let made = ap (λ (p : ℕ). Ok (record { pages = p; bits = bits.0 })) pages_told in (
        bits.0,
        then_ok (used_in file 0 47) _ v ram (used_is file 0 47 v (omega (arith, limits.pages)) (first_used file s.pages (has 0 (omega (arith, limits.blocks)))))
            (check_ok (is_length total v) _ _ ram length_right (then_ok (bitmaps_in file (v / 4096) (total / v)) _ bits.0 ram there made)),
        bits.1,
      )
