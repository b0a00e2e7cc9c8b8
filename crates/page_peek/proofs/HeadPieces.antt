-- A head piece that is right: what stands in it, and that none of it is refused.
use Rattle.std.proofs.Common.{◌≡◌, inl, inr, Bool, ℕ, zero, suc, ◌+◌, ◌-◌, ◌<◌, ◌≤◌, List, [], ◌++◌, Ok, Err, Result, Some, None, length, take, drop, refl, sym, ◌∙◌, ap, subst, arith, append_assoc, length-append}
use Rattle.std.proofs.lemmas.List.{drop-drop, drop-take, length-drop, take_all, take_at}
use Rattle.std.proofs.lemmas.Bool.{cases_lt, cond-true, cond-false, lt-ltb, le-ltb}
use Rattle.ram_block.specs.Shape.{ShapeData, IsShape}
use Rattle.page_bitmap.specs.Bitmap.{BitmapData, bits_of, byte_len_of, bytes_of}
use Rattle.mig_stream.specs.Pieces.{piece_in, text_in}
use Rattle.mig_stream.specs.declared.field_fault.FieldFault.TheVariants as fields
use Rattle.mig_stream.specs.declared.text_fault.TextFault.{TextFault}
use Rattle.mig_stream.specs.declared.text_fault.TextFault.TheVariants.{Field, Differs}
use Rattle.device_state.proofs.Found.{piece_of, text_has, text_is}
use Rattle.device_state.proofs.Parts.{has_both, has_parts}
use Rattle.file_plan.specs.Layout.{StandsAt, front_part, front_text, head_text, record_text}
use Rattle.file_plan.specs.Plan.{block_places, head_len_of, head_place, record_place}
use Rattle.file_plan.proofs.Heads.{length-bytes_of, length-front, length-record, length_head}
use Rattle.file_plan.proofs.Records.{record_place_first}
use Rattle.page_peek.specs.Heads.{Heads, fixed_text, head_refusal, refused_text}
use Rattle.page_peek.specs.Peeked.{block_bits}
use Rattle.page_peek.specs.declared.fault.PeekRefusal.TheVariants.{Truncated}

-- the head piece of a block is whole, and has what it must have before its bitmap
pub record IsHead (file : List ℕ) (s : ShapeData) (block : ℕ) : Type 0 where
  pub whole : head_len_of s.pages block ≤ length file - head_place s block
  pub fixed : StandsAt file (head_place s block) (fixed_text s block)

-- where a head piece ends: with its bitmap
pub head_ends : (s : ShapeData) (block : ℕ) → head_place s block + head_len_of s.pages block ≡ (block_places s.pages block).bitmap + byte_len_of s.pages
head_ends s zero = omega (arith, record_place_first s.pages)
head_ends s (suc block) = omega arith

-- a text that isn't refused was found
same_of : (at : ℕ) (found : Result (Unit {0}) TextFault) → refused_text at found ≡ None → found ≡ Ok tt
same_of at (Ok tt) none = refl
same_of at (Err (Field fault)) none = absurd (cc)
same_of at (Err (Differs place other)) none = absurd (cc)

-- a head piece that isn't refused is right
pub head_is : (file : List ℕ) (s : ShapeData) (block : ℕ) → head_refusal file s block ≡ None → IsHead file s block
unfolding head_refusal
head_is file s block none = elim (cases_lt (length file - head_place s block) (head_len_of s.pages block)) [
  | inl short ↦ let two = sym none ∙ cond-true _ _ _ (lt-ltb _ _ short) in absurd (cc)
  | inr long ↦
      let same = sym (cond-false _ _ _ (le-ltb _ _ long)) ∙ none in
      record { whole = long; fixed = (text_has file (head_place s block) (fixed_text s block) (same_of (head_place s block) (text_in file (head_place s block) (fixed_text s block)) same)).same }
]

-- and one that is right isn't refused
pub head_passes : (file : List ℕ) (s : ShapeData) (block : ℕ) → IsHead file s block → head_refusal file s block ≡ None
unfolding head_refusal
head_passes file s block is =
    cond-false _ _ _ (le-ltb _ _ is.whole) ∙ ap (refused_text (head_place s block)) (text_is file (head_place s block) (fixed_text s block) is.fixed)

-- the head piece of a block without its bitmap
pub fixed_front : (s : ShapeData) (block n : ℕ) (bits : List Bool) → n ≡ head_len_of s.pages block - byte_len_of s.pages → take n (head_text s block bits) ≡ fixed_text s block
unfolding head_text fixed_text
fixed_front s block n bits is =
    let count : length (front_part s block ++ record_text s block) ≡ n =
    omega (arith, is, length-append (front_part s block) (record_text s block), length-record s block, length_head s block [], length-append (front_part s block) (record_text s block ++ bytes_of s.pages []), length-append (record_text s block) (bytes_of s.pages []), length-bytes_of s.pages []) in
    ap (take n) (sym (append_assoc (front_part s block) (record_text s block) (bytes_of s.pages bits)))
    ∙ take_at (front_part s block ++ record_text s block) (bytes_of s.pages bits) n count

-- the refusal of a head piece in which the file ends, and that of any other
pub head_cut : (file : List ℕ) (s : ShapeData) (block at n : ℕ) → at ≡ head_place s block → n ≡ head_len_of s.pages block → piece_in file at n ≡ Err (fields.Truncated at)
    → head_refusal file s block ≡ Some (Truncated at)
unfolding head_refusal
head_cut file s block at n place len cut = elim (cases_lt (length file - at) n) as (λ _. head_refusal file s block ≡ Some (Truncated at)) [
  | inl short ↦
      let less : length file - head_place s block < head_len_of s.pages block = omega (arith, short, place, len) in
      cond-true _ _ _ (lt-ltb _ _ less) ∙ ap (λ (k : ℕ). Some (Truncated k)) (sym place)
  | inr long ↦
      let whole : piece_in file at n ≡ Ok (take n (drop at file)) = cond-false _ _ _ (le-ltb _ _ long) in
      let two = sym cut ∙ whole in
      absurd (cc)
]

pub head_by_text : (file bytes : List ℕ) (s : ShapeData) (block at n : ℕ) → at ≡ head_place s block → n ≡ head_len_of s.pages block → piece_in file at n ≡ Ok bytes
    → head_refusal file s block ≡ refused_text at (text_in file at (fixed_text s block))
unfolding head_refusal
head_by_text file bytes s block at n place len whole =
    let piece = piece_of file at n bytes whole in
    let enough : head_len_of s.pages block ≤ length file - head_place s block = omega (arith, piece.room, place, len) in
    cond-false _ _ _ (le-ltb _ _ enough) ∙ ap (λ (k : ℕ). refused_text k (text_in file k (fixed_text s block))) (sym place)

pub piece_bytes : (file bytes : List ℕ) (s : ShapeData) (block at n : ℕ) → at ≡ head_place s block → n ≡ head_len_of s.pages block → piece_in file at n ≡ Ok bytes
    → bytes ≡ take (head_len_of s.pages block) (drop (head_place s block) file)
piece_bytes file bytes s block at n place len whole =
    sym (piece_of file at n bytes whole).same ∙ ap (λ (k : ℕ). take k (drop at file)) len ∙ ap (λ (k : ℕ). take (head_len_of s.pages block) (drop k file)) place

-- the bitmap that stands behind it
pub bits_behind : (file piece : List ℕ) (s : ShapeData) (block n : ℕ) → piece ≡ take (head_len_of s.pages block) (drop (head_place s block) file) → n + byte_len_of s.pages ≡ head_len_of s.pages block
    → record { pages = s.pages; bits = bits_of s.pages (drop n piece) } ≡ block_bits file s block
bits_behind file piece s block n is ends =
    let len = byte_len_of s.pages in
    let whole : head_len_of s.pages block ≡ n + len = omega (arith, ends) in
    let place : head_place s block + n ≡ (block_places s.pages block).bitmap = omega (arith, head_ends s block, ends) in
    let bytes : drop n piece ≡ take len (drop (block_places s.pages block).bitmap file) =
    ap (drop n) is ∙ ap (λ (k : ℕ). drop n (take k (drop (head_place s block) file))) whole ∙ drop-take n len (drop (head_place s block) file)
    ∙ ap (take len) (drop-drop n (head_place s block) file) ∙ ap (λ (k : ℕ). take len (drop k file)) place in
    ap (λ (b : List ℕ). record { pages = s.pages; bits = bits_of s.pages b }) bytes

-- the same, of a plan for the shape and a bitmap of its pages
pub bits_read : (file piece : List ℕ) (s plan : ShapeData) (block n m pages : ℕ) (bits : BitmapData) → plan ≡ s → pages ≡ s.pages → n + byte_len_of s.pages ≡ head_len_of s.pages block
    → (head_refusal file plan block ≡ None) × (piece ≡ take (head_len_of plan.pages block) (drop (head_place plan block) file)) → m ≡ length piece - n
    → bits ≡ record { pages = pages; bits = bits_of pages (take m (drop n piece)) } → (head_refusal file s block ≡ None) × (bits ≡ block_bits file s block)
bits_read file piece s plan block n m pages bits same count ends read size is =
    let here = subst (λ (t : ShapeData). (head_refusal file t block ≡ None) × (piece ≡ take (head_len_of t.pages block) (drop (head_place t block) file))) same read in
    let rest : take m (drop n piece) ≡ drop n piece = take_all m (drop n piece) (omega (arith, size, length-drop n piece)) in (
      here.0,
      is ∙ ap (λ (q : ℕ). record { pages = q; bits = bits_of q (take m (drop n piece)) }) count
          ∙ ap (λ (b : List ℕ). record { pages = s.pages; bits = bits_of s.pages b }) rest ∙ bits_behind file piece s block n here.1 ends,
    )

-- ---- All heads

-- what a first head piece has, and what each other one has
first_fixed : (s : ShapeData) → fixed_text s 0 ≡ front_text s ++ record_text s 0
unfolding fixed_text
first_fixed s = refl

later_fixed : (s : ShapeData) (block : ℕ) → fixed_text s (suc block) ≡ record_text s (suc block)
unfolding fixed_text
later_fixed s block = refl

-- the record of a head piece stands at its place
record_of : (file : List ℕ) (s : ShapeData) (block : ℕ) → IsHead file s block → StandsAt file (record_place s.pages block) (record_text s block)
record_of file s zero is =
    let both = has_parts file 0 (front_text s) (record_text s 0) (subst (StandsAt file 0) (first_fixed s) is.fixed) in
    let place : 0 + length (front_text s) ≡ record_place s.pages 0 = omega (arith, length-front s, record_place_first s.pages) in
    subst (λ (at : ℕ). StandsAt file at (record_text s 0)) place both.1
record_of file s (suc block) is = subst (StandsAt file (record_place s.pages (suc block))) (later_fixed s block) is.fixed

front_of : (file : List ℕ) (s : ShapeData) → IsHead file s 0 → StandsAt file 0 (front_text s)
front_of file s is = (has_parts file 0 (front_text s) (record_text s 0) (subst (StandsAt file 0) (first_fixed s) is.fixed)).0

-- the heads of a file are its head pieces
pub heads_are : (file : List ℕ) (s : ShapeData) → IsShape s → ((block : ℕ) → block < s.blocks → IsHead file s block) → Heads file s
heads_are file s is each = record {
  shape = record {
    front = front_of file s (each 0 (omega (arith, is.blocks)));
    records = λ block lt. record_of file s block (each block lt);
  };
  bitmaps = λ block lt. omega (arith, (each block lt).whole, head_ends s block);
}

pub heads_have : (file : List ℕ) (s : ShapeData) → Heads file s → (block : ℕ) → block < s.blocks → IsHead file s block
heads_have file s heads zero lt = record {
  whole = omega (arith, heads.bitmaps 0 lt, head_ends s 0);
  fixed =
      let place : record_place s.pages 0 ≡ 0 + length (front_text s) = omega (arith, length-front s, record_place_first s.pages) in
      subst (StandsAt file 0) (sym (first_fixed s))
      (has_both file 0 (front_text s) (record_text s 0) heads.shape.front (subst (λ (at : ℕ). StandsAt file at (record_text s 0)) place (heads.shape.records 0 lt)));
}
heads_have file s heads (suc block) lt = record {
  whole = omega (arith, heads.bitmaps (suc block) lt, head_ends s (suc block));
  fixed = subst (StandsAt file (record_place s.pages (suc block))) (sym (later_fixed s block)) (heads.shape.records (suc block) lt);
}
