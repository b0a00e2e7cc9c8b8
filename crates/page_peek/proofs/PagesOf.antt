-- Pages by the bitmaps of a file, and those of a layout.
use Rattle.std.proofs.Common.{◌≡◌, inl, inr, true, false, ℕ, zero, suc, ◌+◌, ◌-◌, ◌*◌, ◌/◌, ◌%◌, ◌<◌, ◌≤◌, List, Option, Some, Result, Ok, Err, IfSome, OnOk, length, get_or, take, drop, map, refl, sym, ◌∙◌, ap, subst, arith, length-append}
use Rattle.std.specs.Prelude.{◌==◌}
use Rattle.std.specs.Int.{bit_at}
use Rattle.std.specs.List.{range_with_len}
use Rattle.std.proofs.Math.Nat.{div-lt_iff_lt-mul}
use Rattle.std.proofs.lemmas.Bool.{cases_Bool, cases_lt, cond-false, le-ltb}
use Rattle.std.proofs.lemmas.List.{get_or-take, length-drop}
use Rattle.std.proofs.lemmas.List.FromFn.{get_or-map-range_with_len}
use Rattle.ram_block.specs.Shape.{ShapeData, total_pages_of}
use Rattle.page_bitmap.specs.Bitmap.{BitmapData, byte_len_of}
use Rattle.page_bitmap.proofs.Bits.{get_or-bits_of}
use Rattle.flat_machine.specs.Machine.{MachineData, page_of}
use Rattle.flat_machine.proofs.Inside.{length-page_of}
use Rattle.mig_stream.specs.Pieces.{piece_in}
use Rattle.mig_stream.specs.declared.field_fault.FieldFault.TheVariants.{Truncated}
use Rattle.device_state.specs.DeviceText.{device_text}
use Rattle.device_state.proofs.Found.{of_told, piece_of}
use Rattle.file_plan.specs.Layout.{Lay, page_bit, tail_text}
use Rattle.file_plan.specs.Plan.{block_places, page_place, record_place, tail_place}
use Rattle.file_plan.proofs.Heads.{length-tail}
use Rattle.file_plan.proofs.Records.{record_place_more}
use Rattle.page_peek.specs.Heads.{Heads}
use Rattle.page_peek.specs.Peeked.{PeekData, Peeks, bit_of, block_bits, no_bits, page_by, page_in, peek_of, peeked}
use Rattle.page_peek.specs.declared.fault.PageFault.{PageFault}
use Rattle.page_peek.specs.declared.fault.PageFault.TheVariants as pages

-- the block and the number in it of a page
pub record IsNumbered (s : ShapeData) (p : ℕ) : Type 0 where
  pub block : p / s.pages < s.blocks
  pub page : p % s.pages < s.pages
  pub back : p / s.pages * s.pages + p % s.pages ≡ p

some_factor : (b n p : ℕ) → p < b * n → 0 < n
some_factor b zero p lt = absurd (omega (arith, lt))
some_factor b (suc n) p lt = omega arith

pub numbered : (s : ShapeData) (p : ℕ) → p < total_pages_of s → IsNumbered s p
numbered s p lt =
    let some : 0 < s.pages = some_factor s.blocks s.pages p lt in
    record {
      block = (div-lt_iff_lt-mul {k = s.pages} {x = p} {y = s.blocks} some).1 lt;
      page = omega arith;
      back = omega arith;
    }

-- what was read of the bitmaps is what the file says of them
pub peek_is : (file : List ℕ) (s : ShapeData) (bits : List BitmapData) → bits ≡ (peek_of file s).bits → record { shape = s; bits = bits } ≡ peek_of file s
unfolding peek_of
peek_is file s bits is = ap (λ (b : List BitmapData). record { shape = s; bits = b }) is

-- the bitmaps of all blocks
pub bits_told : (file : List ℕ) (s : ShapeData) (n : ℕ) (bits : List BitmapData) → n ≡ s.blocks → bits ≡ map (block_bits file s) (range_with_len 0 n) → bits ≡ (peek_of file s).bits
unfolding peek_of
bits_told file s n bits all is = is ∙ ap (λ (k : ℕ). map (block_bits file s) (range_with_len 0 k)) all

-- the bit of a page in the bitmaps of a file
pub bit_told : (file : List ℕ) (s : ShapeData) (p : ℕ) → p < total_pages_of s → bit_of (peek_of file s) p ≡ page_bit file (block_places s.pages (p / s.pages)).bitmap (p % s.pages)
unfolding bit_of peek_of
bit_told file s p lt =
    let is = numbered s p lt in
    let place = (block_places s.pages (p / s.pages)).bitmap in
    let q = p % s.pages in
    let byte : q / 8 < byte_len_of s.pages = omega (arith, is.page) in
    ap (λ (b : BitmapData). get_or b.bits q false) (get_or-map-range_with_len (block_bits file s) 0 s.blocks (p / s.pages) (p / s.pages) no_bits is.block (omega arith))
    ∙ get_or-bits_of s.pages (take (byte_len_of s.pages) (drop place file)) q false is.page
    ∙ ap (λ (b : ℕ). bit_at b (q % 8) == 1) (get_or-take (byte_len_of s.pages) (drop place file) (q / 8) 0 byte)

-- and so the page
pub page_told : (file : List ℕ) (s : ShapeData) (p : ℕ) → p < total_pages_of s → page_in file (peek_of file s) p ≡ peeked file s p
unfolding peek_of peeked
page_told file s p lt = ap (page_by file (page_place s.pages p)) (bit_told file s p lt)

-- a page of a layout is the machine's
pub page_laid : (file : List ℕ) (m : MachineData) (p : ℕ) → Lay file m → p < total_pages_of m.shape → peeked file m.shape p ≡ page_of m p
unfolding peeked
page_laid file m p lay lt =
    let s = m.shape in
    let is = numbered s p lt in
    let bit = page_bit file (block_places s.pages (p / s.pages)).bitmap (p % s.pages) in
    let laid = lay.pages (p / s.pages) (p % s.pages) is.block is.page in
    let long : length (page_of m (p / s.pages * s.pages + p % s.pages)) ≡ 4096 = length-page_of m (p / s.pages * s.pages + p % s.pages) lay.machine.ram (omega (arith, lt, is.back)) in
    elim (cases_Bool bit) as (λ _. page_by file (page_place s.pages p) bit ≡ page_of m p) [
      | inl set ↦
          ap (page_by file (page_place s.pages p)) set
          ∙ ap (λ (n : ℕ). take n (drop (page_place s.pages p) file)) (sym long) ∙ laid.stands set ∙ ap (page_of m) is.back
      | inr clear ↦ ap (page_by file (page_place s.pages p)) clear ∙ sym (laid.zeros clear) ∙ ap (page_of m) is.back
    ]

-- ---- A page that is read

pub page_read : (told : Option (List ℕ)) (file page : List ℕ) (at place n : ℕ) → told ≡ Some file → at ≡ place → n ≡ 4096 → IfSome told (λ f. piece_in f at n ≡ Ok page)
    → (page ≡ take 4096 (drop place file)) × (4096 ≤ length file - place)
page_read told file page at place n is there len found =
    let piece = piece_of file at n page (of_told (λ f. piece_in f at n ≡ Ok page) told file is found) in
    (sym piece.same ∙ ap (λ (k : ℕ). take k (drop at file)) len ∙ ap (λ (k : ℕ). take 4096 (drop k file)) there, omega (arith, piece.room, len, there))

pub page_cut : (told : Option (List ℕ)) (file : List ℕ) (at place n p : ℕ) → told ≡ Some file → at ≡ place → n ≡ 4096 → IfSome told (λ f. piece_in f at n ≡ Err (Truncated p))
    → length file - place < 4096
page_cut told file at place n p is there len found =
    let cut : piece_in file at n ≡ Err (Truncated p) = of_told (λ f. piece_in f at n ≡ Err (Truncated p)) told file is found in
    elim (cases_lt (length file - at) n) [
      | inl short ↦ omega (arith, short, len, there)
      | inr long ↦ let two = sym cut ∙ cond-false _ _ _ (le-ltb _ _ long) in absurd (cc)
    ]

-- what is answered for a page with a set bit
pub peeks : (file : List ℕ) (d : PeekData) (p at : ℕ) (into : List ℕ) (result : Result (Unit {0}) PageFault) → at ≡ page_place d.shape.pages p → bit_of d p ≡ true
    → OnOk result ((into ≡ take 4096 (drop at file)) × (4096 ≤ length file - at)) → ((place : ℕ) → result ≡ Err (pages.Truncated place) → length file - at < 4096) → Peeks file d p into result
peeks file d p at into (Ok done) place set read cut = (
  read.0 ∙ ap (λ (k : ℕ). take 4096 (drop k file)) place ∙ ap (page_by file (page_place d.shape.pages p)) (sym set),
  λ is. omega (arith, read.1, is.cut, place),
)
peeks file d p at into (Err (pages.Truncated k)) place set read cut = record { saved = set; cut = (let short = cut k refl in omega (arith, short, place)) }
peeks file d p at into (Err pages.ReadFault) place set read cut = tt

-- ---- The heads of a layout

-- a record stands behind the pages of the block before it
records_grow : (pages block n : ℕ) → (block_places pages block).bitmap + byte_len_of pages ≤ record_place pages (block + suc n)
records_grow pages block zero =
    let one : block + 1 ≡ block + suc zero = omega arith in
    subst (λ (b : ℕ). (block_places pages block).bitmap + byte_len_of pages ≤ record_place pages b) one (omega (arith, record_place_more pages block))
records_grow pages block (suc n) =
    let one : block + suc n + 1 ≡ block + suc (suc n) = omega arith in
    subst (λ (b : ℕ). (block_places pages block).bitmap + byte_len_of pages ≤ record_place pages b) one
    (omega (arith, records_grow pages block n, record_place_more pages (block + suc n)))

pub layout_heads : (file : List ℕ) (m : MachineData) → Lay file m → Heads file m.shape
layout_heads file m lay = record {
  shape = lay.shape;
  bitmaps = λ block lt.
      let last : block + suc (m.shape.blocks - block - 1) ≡ m.shape.blocks = omega arith in
      let grows = subst (λ (b : ℕ). (block_places m.shape.pages block).bitmap + byte_len_of m.shape.pages ≤ record_place m.shape.pages b) last (records_grow m.shape.pages block (m.shape.blocks - block - 1)) in
      let tail = ap length lay.tail.2 in
      omega (arith, grows, tail, length-tail, length-append tail_text (device_text lay.tail.0 m), length-drop (tail_place m.shape) file);
}
