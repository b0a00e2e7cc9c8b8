-- The pages of RAM that were read, one by one.
use Rattle.std.proofs.Common.{◌≡◌, ℕ, zero, suc, ◌+◌, ◌-◌, ◌*◌, ◌/◌, ◌<◌, ◌≤◌, Bool, true, false, List, [], ◌∷◌, ◌++◌, length, drop, get_or, All, Some, None, Ok, Err, Result, ◌%◌, refl, sym, ◌∙◌, ap, arith, inl, inr, length-append, suc-mul, add_comm}
use Rattle.std.specs.Prelude.{slice_get, ◌==◌}
use Rattle.std.specs.Int.{bit_at}
use Rattle.mig_stream.specs.Checks.{read_from}
use Rattle.mig_stream.specs.declared.field_fault.FieldFault.{FieldFault}
use Rattle.std.proofs.Math.ListN.{get_or-append}
use Rattle.std.proofs.lemmas.List.{get_or-append-add, get_or-take, length-take, length-drop, length-replicate}
use Rattle.std.proofs.lemmas.Bool.{cases_lt, cond-true, cond-false, lt-ltb, le-ltb}
use Rattle.ram_block.specs.Page.{zero_page}
use Rattle.mig_stream.specs.Pieces.{piece_in}
use Rattle.page_bitmap.specs.Bitmap.{BitmapData, bit_in, bits_of, byte_len_of}
use Rattle.page_bitmap.proofs.Bits.{length-bits_of, get_or-bits_of}
use Rattle.file_plan.specs.Plan.{block_places}
use Rattle.device_state.proofs.Found.{piece_of}
use Rattle.std.proofs.lemmas.List.Elements.{All-append, All-cons, All-nil}
use Rattle.loader.specs.Frame.{bitmap_in, cut_page, is_cut}
use Rattle.loader.specs.Loaded.{block_pages, page_by, pages_from}
use Rattle.loader.specs.Whole.{AreWhole, IsWhole}
use Rattle.loader.specs.declared.refusal.Refusal.TheVariants.{Truncated}

-- a page by its number in the block
pub nth_page : (file : List ℕ) (at p : ℕ) (bits : List Bool) (d : List ℕ) → p < length bits → get_or (block_pages file at bits) p d ≡ page_by file (at + 4096 * p) (get_or bits p false)
nth_page file at p [] d lt = absurd (omega arith)
nth_page file at zero (bit ∷ bits) d lt =
    let here : at ≡ at + 4096 * 0 = omega arith in
    ap (λ (k : ℕ). page_by file k bit) here
nth_page file at (suc p) (bit ∷ bits) d lt =
    let there : at + 4096 + 4096 * p ≡ at + 4096 * suc p = omega arith in
    nth_page file (at + 4096) p bits d (omega arith) ∙ ap (λ (k : ℕ). page_by file k (get_or bits p false)) there

pub count_pages : (file : List ℕ) (at : ℕ) (bits : List Bool) → length (block_pages file at bits) ≡ length bits
count_pages file at [] = refl
count_pages file at (bit ∷ bits) = ap suc (count_pages file (at + 4096) bits)

-- what no page is cut in is not cut behind the first page
rest_uncut : (len at : ℕ) (bit : Bool) (bits : List Bool) → cut_page len at (bit ∷ bits) ≡ None → cut_page len (at + 4096) bits ≡ None
rest_uncut len at false bits none = none
rest_uncut len at true bits none = elim (cases_lt (len - at) 4096) [
  | inl short ↦
      let cut = sym none ∙ cond-true (is_cut len at true) (Some at) (cut_page len (at + 4096) bits) (lt-ltb _ _ short) in
      absurd (cc)
  | inr long ↦ sym (cond-false (is_cut len at true) (Some at) (cut_page len (at + 4096) bits) (le-ltb _ _ long)) ∙ none
]

-- a page with a set bit that isn't cut is there whole
pub uncut_page : (len at p : ℕ) (bits : List Bool) → cut_page len at bits ≡ None → p < length bits → get_or bits p false ≡ true → 4096 ≤ len - (at + 4096 * p)
uncut_page len at p [] none lt set = absurd (omega arith)
uncut_page len at zero (true ∷ bits) none lt set = elim (cases_lt (len - at) 4096) [
  | inl short ↦
      let cut = sym none ∙ cond-true (is_cut len at true) (Some at) (cut_page len (at + 4096) bits) (lt-ltb _ _ short) in
      absurd (cc)
  | inr long ↦ omega (arith, long)
]
uncut_page len at zero (false ∷ bits) none lt set = absurd (cc)
uncut_page len at (suc p) (bit ∷ bits) none lt set =
    let rest : cut_page len (at + 4096) bits ≡ None = rest_uncut len at bit bits none in
    let long = uncut_page len (at + 4096) p bits rest (omega arith) set in
    omega (arith, long)

-- a page is whole
page_whole : (file : List ℕ) (at : ℕ) (bit : Bool) → (bit ≡ true → 4096 ≤ length file - at) → length (page_by file at bit) ≡ 4096
unfolding zero_page
page_whole file at true long = omega (arith, long refl, length-take 4096 (drop at file), length-drop at file)
page_whole file at false long = length-replicate {A = ℕ} 4096 0

-- and so are those of a block
block_whole : (file : List ℕ) (at : ℕ) (bits : List Bool) → cut_page (length file) at bits ≡ None → All (λ page. length page ≡ 4096) (block_pages file at bits)
block_whole file at [] none = All-nil (λ page. length page ≡ 4096)
block_whole file at (bit ∷ bits) none =
    let long : bit ≡ true → 4096 ≤ length file - at = λ set. let first = uncut_page (length file) at 0 (bit ∷ bits) none (omega arith) set in omega (arith, first) in
    All-cons (λ page. length page ≡ 4096) (page_by file at bit) (block_pages file (at + 4096) bits) (page_whole file at bit long) (block_whole file (at + 4096) bits (rest_uncut (length file) at bit bits none))

-- the bits of a bitmap are those that stand in the file
bitmap_of_piece : (file : List ℕ) (pages at : ℕ) (bitmap : BitmapData) (piece : Result (List ℕ) FieldFault) → read_from Truncated (λ bytes. record { pages = pages; bits = bits_of pages bytes }) piece ≡ Ok bitmap
    → (bytes : List ℕ) × (piece ≡ Ok bytes) × (bits_of pages bytes ≡ bitmap.bits) × (pages ≡ bitmap.pages)
bitmap_of_piece file pages at bitmap (Ok bytes) is =
    let same : record { pages = pages; bits = bits_of pages bytes } ≡ bitmap = cc in
    (bytes, refl, ap (λ (b : BitmapData). b.bits) same, ap (λ (b : BitmapData). b.pages) same)
bitmap_of_piece file pages at bitmap (Err fault) is = absurd (cc)

pub bitmap_told : (file : List ℕ) (pages at : ℕ) (bitmap : BitmapData) → bitmap_in file pages at ≡ Ok bitmap
    → (length bitmap.bits ≡ pages) × ((p : ℕ) → p < pages → get_or bitmap.bits p false ≡ bit_in (drop at file) p)
unfolding bitmap_in
bitmap_told file pages at bitmap is =
    let parts = bitmap_of_piece file pages at bitmap (piece_in file at (byte_len_of pages)) is in
    let piece = piece_of file at (byte_len_of pages) parts.0 parts.1 in (
      ap length (sym parts.2) ∙ length-bits_of pages parts.0,
      λ p lt.
          let byte : p / 8 < byte_len_of pages = omega arith in
          ap (λ (b : List Bool). get_or b p false) (sym parts.2)
          ∙ get_or-bits_of pages parts.0 p false lt
          ∙ ap (λ (l : List ℕ). bit_in l p) (sym piece.same)
          ∙ ap (λ (b : ℕ). bit_at b (p % 8) == 1) (get_or-take (byte_len_of pages) (drop at file) (p / 8) 0 byte),
    )

-- the bitmap of a block is one of its pages
bits_count : (file : List ℕ) (pages block : ℕ) (bitmap : BitmapData) → IsWhole file pages block bitmap → length bitmap.bits ≡ pages
bits_count file pages block bitmap whole = (bitmap_told file pages (block_places pages block).bitmap bitmap whole.bits).0

-- one time more
suc_times : (n k : ℕ) → suc n * k ≡ k + n * k
suc_times n k = suc-mul n k ∙ add_comm (n * k) k

-- the pages of all blocks, of which each has so many
pub count_from : (file : List ℕ) (pages block : ℕ) (bits : List BitmapData) → AreWhole file pages block bits → length (pages_from file pages block bits) ≡ length bits * pages
count_from file pages block [] whole = omega arith
count_from file pages block (bitmap ∷ bits) whole =
    let first = count_pages file (block_places pages block).pages bitmap.bits ∙ bits_count file pages block bitmap whole.0 in
    let rest = count_from file pages (block + 1) bits whole.1 in
    let more : suc (length bits) * pages ≡ pages + length bits * pages = suc_times (length bits) pages in
    omega (arith, first, rest, more, length-append (block_pages file (block_places pages block).pages bitmap.bits) (pages_from file pages (block + 1) bits))

-- page p of block j behind this one
pub nth_from : (file : List ℕ) (pages block j p : ℕ) (bits : List BitmapData) (bitmap : BitmapData) (d : List ℕ) → AreWhole file pages block bits → slice_get bits j ≡ Some bitmap → p < pages
    → get_or (pages_from file pages block bits) (j * pages + p) d ≡ page_by file ((block_places pages (block + j)).pages + 4096 * p) (get_or bitmap.bits p false)
nth_from file pages block j p [] bitmap d whole found lt = absurd (cc)
nth_from file pages block zero p (b ∷ bits) bitmap d whole found lt =
    let same : b ≡ bitmap = cc in
    let here : 0 * pages + p ≡ p = omega arith in
    let place : block ≡ block + 0 = omega arith in
    let first = block_pages file (block_places pages block).pages b.bits in
    let count : length first ≡ pages = count_pages file (block_places pages block).pages b.bits ∙ bits_count file pages block b whole.0 in
    let bits_are = bits_count file pages block b whole.0 in
    ap (λ (k : ℕ). get_or (first ++ pages_from file pages (block + 1) bits) k d) here
    ∙ get_or-append first (pages_from file pages (block + 1) bits) d p (omega (arith, count))
    ∙ nth_page file (block_places pages block).pages p b.bits d (omega (arith, bits_are))
    ∙ ap (λ (x : BitmapData). page_by file ((block_places pages block).pages + 4096 * p) (get_or x.bits p false)) same
    ∙ ap (λ (k : ℕ). page_by file ((block_places pages k).pages + 4096 * p) (get_or bitmap.bits p false)) place
nth_from file pages block (suc j) p (b ∷ bits) bitmap d whole found lt =
    let first = block_pages file (block_places pages block).pages b.bits in
    let count : length first ≡ pages = count_pages file (block_places pages block).pages b.bits ∙ bits_count file pages block b whole.0 in
    let more : suc j * pages ≡ pages + j * pages = suc_times j pages in
    let behind : suc j * pages + p ≡ length first + (j * pages + p) = omega (arith, more, count) in
    let place : block + 1 + j ≡ block + suc j = omega arith in
    ap (λ (k : ℕ). get_or (first ++ pages_from file pages (block + 1) bits) k d) behind
    ∙ get_or-append-add first (pages_from file pages (block + 1) bits) (j * pages + p) d
    ∙ nth_from file pages (block + 1) j p bits bitmap d whole.1 found lt
    ∙ ap (λ (k : ℕ). page_by file ((block_places pages k).pages + 4096 * p) (get_or bitmap.bits p false)) place

-- each of them is whole
pub all_whole : (file : List ℕ) (pages block : ℕ) (bits : List BitmapData) → AreWhole file pages block bits → All (λ page. length page ≡ 4096) (pages_from file pages block bits)
all_whole file pages block [] whole = All-nil (λ page. length page ≡ 4096)
all_whole file pages block (b ∷ bits) whole =
    All-append (λ page. length page ≡ 4096) (block_pages file (block_places pages block).pages b.bits) (pages_from file pages (block + 1) bits)
    (block_whole file (block_places pages block).pages b.bits whole.0.uncut) (all_whole file pages (block + 1) bits whole.1)

-- each bitmap is one of its block's pages
bitmap_pages : (file : List ℕ) (pages at : ℕ) (bitmap : BitmapData) → bitmap_in file pages at ≡ Ok bitmap → bitmap.pages ≡ pages
unfolding bitmap_in
bitmap_pages file pages at bitmap is = sym (bitmap_of_piece file pages at bitmap (piece_in file at (byte_len_of pages)) is).3

pub all_of_pages : (file : List ℕ) (pages block : ℕ) (bits : List BitmapData) → AreWhole file pages block bits → All (λ b. b.pages ≡ pages) bits
all_of_pages file pages block [] whole = All-nil (λ (b : BitmapData). b.pages ≡ pages)
all_of_pages file pages block (bitmap ∷ bits) whole =
    All-cons (λ (b : BitmapData). b.pages ≡ pages) bitmap bits (bitmap_pages file pages (block_places pages block).bitmap bitmap whole.0.bits) (all_of_pages file pages (block + 1) bits whole.1)
