-- The file of a machine has each of its pieces at its place.
use Rattle.std.proofs.Common.{◌≡◌, ℕ, zero, suc, ◌+◌, ◌*◌, ◌/◌, ◌%◌, ◌<◌, List, [], ◌∷◌, ◌++◌, length, take, drop, refl, sym, ap, ◌∙◌, subst, arith, length-append}
use Rattle.std.specs.Prelude.{slice_get, Some}
use Rattle.std.proofs.lemmas.List.{drop-drop, length-take}
use Rattle.std.proofs.Math.Nat.{div-lt_iff_lt-mul}
use Rattle.std.proofs.Math.Seq.{take-add}
use Rattle.ram_block.specs.Shape.{ShapeData, total_pages_of}
use Rattle.page_bitmap.specs.Bitmap.{bytes_of}
use Rattle.flat_machine.specs.Machine.{IsMachine, MachineData, page_of}
use Rattle.device_state.specs.DeviceText.{Two, device_text}
use Rattle.file_plan.specs.Plan.{record_place, block_places, page_place, head_place}
use Rattle.file_plan.specs.Layout.{StandsAt, front_text, record_text, tail_text, head_text, bitmap_of, saved_bits, file_of}
use Rattle.file_plan.specs.UnderWay.{HasItsPieces}
use Rattle.file_plan.proofs.AnyFile.{stands, front_stands, record_stands, page_stands, tail_stands, record_ends, bitmap_ends, pages_end, block_fits, length-bitmap, length-file, bitmap_byte}
use Rattle.file_plan.proofs.Heads.{length-front, length-tail, length-record, first_head, later_head}
use Rattle.file_plan.proofs.Records.{record_place_first}

-- a text that goes on with another at the place where it ends
stands_on : (file one two : List ℕ) (at behind : ℕ) → at + length one ≡ behind → StandsAt file at one → StandsAt file behind two → StandsAt file at (one ++ two)
stands_on file one two at behind ends first second =
    ap (λ (n : ℕ). take n (drop at file)) (length-append one two) ∙ take-add (length one) (length two) (drop at file)
    ∙ ap (λ (l : List ℕ). take (length one) (drop at file) ++ take (length two) l) (drop-drop (length one) at file ∙ ap (λ (k : ℕ). drop k file) ends)
    ∙ ap (λ (l : List ℕ). l ++ take (length two) (drop behind file)) first ∙ ap (λ (l : List ℕ). one ++ l) second

-- a text without its first byte stands behind it
stands_behind : (file text : List ℕ) → StandsAt file 0 text → StandsAt file 1 (drop 1 text)
stands_behind file [] whole = refl
stands_behind [] (b ∷ text) whole = let none : ◌≡◌ {A = List ℕ} [] (b ∷ text) = whole in absurd (cc none)
stands_behind (c ∷ file) (b ∷ text) whole = ap (drop 1) whole

-- a file that has a front begins with the open gate byte, and has more
pub open_front : (file : List ℕ) (s : ShapeData) → StandsAt file 0 (front_text s) → slice_get file 0 ≡ Some 81
unfolding front_text
open_front [] s whole = ap (λ (l : List ℕ). slice_get l 0) whole
open_front (b ∷ file) s whole = ap (λ (l : List ℕ). slice_get l 0) whole

pub front_fits : (file : List ℕ) (s : ShapeData) → StandsAt file 0 (front_text s) → 1 < length file
front_fits file s whole = omega (arith, ap length whole, length-front s, length-take (length (front_text s)) (drop 0 file))

module _ (m : MachineData) (is : IsMachine m) where
  bitmap_stands : (b : ℕ) → b < m.shape.blocks → StandsAt (file_of m) (block_places m.shape.pages b).bitmap (bitmap_of m b)
  bitmap_stands b lt =
      stands (file_of m) (bitmap_of m b) (block_places m.shape.pages b).bitmap
      (omega (arith, length-bitmap m is b, bitmap_ends m is b, pages_end m is b, block_fits m is b lt, length-file m is))
      (λ i inside. bitmap_byte m is b i lt (omega (arith, length-bitmap m is b)))

  record_and_bitmap : (b : ℕ) → b < m.shape.blocks → StandsAt (file_of m) (record_place m.shape.pages b) (record_text m.shape b ++ bytes_of m.shape.pages (saved_bits m b))
  unfolding bitmap_of
  record_and_bitmap b lt =
      stands_on (file_of m) (record_text m.shape b) (bytes_of m.shape.pages (saved_bits m b)) (record_place m.shape.pages b) (block_places m.shape.pages b).bitmap
      (omega (arith, length-record m.shape b, record_ends m is b)) (record_stands m is b lt) (bitmap_stands b lt)

  head_stands : (b : ℕ) → b < m.shape.blocks → StandsAt (file_of m) (head_place m.shape b) (head_text m.shape b (saved_bits m b))
  head_stands zero lt =
      subst (StandsAt (file_of m) 0) (sym (first_head m.shape 0 (saved_bits m 0) refl))
      (stands_on (file_of m) (front_text m.shape) (record_text m.shape 0 ++ bytes_of m.shape.pages (saved_bits m 0)) 0 (record_place m.shape.pages 0)
      (omega (arith, length-front m.shape, record_place_first m.shape.pages)) (front_stands m is) (record_and_bitmap 0 lt))
  head_stands (suc b) lt =
      subst (StandsAt (file_of m) (record_place m.shape.pages (suc b))) (sym (later_head m.shape (suc b) (saved_bits m (suc b)) (λ e. omega arith))) (record_and_bitmap (suc b) lt)

  pages_stand : (p : ℕ) → p < total_pages_of m.shape → StandsAt (file_of m) (page_place m.shape.pages p) (page_of m p)
  pages_stand p lt =
      let pages = m.shape.pages in
      let some : 0 < pages = omega (arith, is.shape.pages) in
      let back : p / pages * pages + p % pages ≡ p = omega arith in
      let inside : p % pages < pages = omega arith in
      let block : p / pages < m.shape.blocks = (div-lt_iff_lt-mul {k = pages} {x = p} {y = m.shape.blocks} some).1 lt in
      subst (λ (q : ℕ). StandsAt (file_of m) (page_place pages p) (page_of m q)) back (page_stands m is (p / pages) (p % pages) block inside)

  pub has_its_pieces : HasItsPieces (file_of m) m
  has_its_pieces = record {
    gate = open_front (file_of m) m.shape (front_stands m is);
    heads = head_stands;
    behind_gate = stands_behind (file_of m) (head_text m.shape 0 (saved_bits m 0)) (head_stands 0 (omega (arith, is.shape.blocks)));
    pages = pages_stand;
    tail = tail_stands m is;
    size = omega (arith, length-file m is, length-append tail_text (device_text Two m), length-tail);
  }
