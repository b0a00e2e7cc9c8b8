-- The blocks, the tail and the devices that passed their checks stand in the file, where its numbers are bytes.
use Rattle.std.proofs.Common.{◌≡◌, inl, inr, ℕ, zero, suc, ◌+◌, ◌-◌, ◌*◌, ◌/◌, ◌<◌, ◌≤◌, true, false, Bool, List, [], ◌∷◌, ◌++◌, Ok, Err, Result, length, refl, sym, ◌∙◌, ap, subst, arith}
use Rattle.std.specs.Prelude.{◌==◌, if◌then◌else◌}
use Rattle.std.proofs.lemmas.Bool.{cases_lt, eqb-true}
use Rattle.std.proofs.lemmas.List.{take_all}
use Rattle.mig_stream.specs.Checks.{and_then, check, number64_in, read_from}
use Rattle.mig_stream.specs.Pieces.{piece_in}
use Rattle.mig_stream.specs.Text.{be32, be64, be32_at, be64_at, footer_text, part_text}
use Rattle.mig_stream.specs.declared.put.TheConstants.{END}
use Rattle.mapped_ram_header.specs.Header.{header_bytes, header_fault, unless}
use Rattle.mapped_ram_header.specs.declared.block.Places.{Places}
use Rattle.mapped_ram_header.specs.declared.fault.HeaderFault.{HeaderFault}
use Rattle.page_bitmap.specs.Bitmap.{BitmapData}
use Rattle.device_state.proofs.Bodies.{Bytes, be32_of-at, be64_of-at}
use Rattle.device_state.proofs.Found.{piece_of}
use Rattle.file_plan.specs.Layout.{StandsAt, block_name}
use Rattle.file_plan.specs.Plan.{record_place, block_places}
use Rattle.file_plan.specs.declared.format.TheConstants.{END_FLAG, RAM_SECTION}
use Rattle.file_plan.specs.declared.plan.TheConstants.{FIRST_RECORD}
use Rattle.loader.specs.Frame.{RamData, bitmaps_in, block_in, blocks_in, is_length, ram_in, end_marker_in, header_in, later_in, refused_header, tail_in, used_in}
use Rattle.loader.specs.Piece.{expected}
use Rattle.loader.specs.Stands.{HasBlock, HasBlocks, HasHeader, HasTail, HasUsed}
use Rattle.loader.specs.declared.piece.Text.{Text}
use Rattle.loader.specs.declared.piece.Text.TheVariants as texts
use Rattle.loader.specs.declared.refusal.Refusal.{Refusal}
use Rattle.loader.specs.declared.refusal.Refusal.TheVariants.{Flags, Length, Truncated}
use Rattle.loader.proofs.Backward.{number64_of, of_piece, piece_bytes, piece_long}
use Rattle.loader.proofs.Texts.{stands, stands_both}
use Rattle.loader.proofs.Lengths.{length_parts, some_block, total_is}
use Rattle.loader.proofs.Whole.{bitmaps_whole, both_ok, passes}

-- a text that was found
found_text : (kind : Text) (file : List ℕ) (at : ℕ) (text : List ℕ) (u : Unit {0}) → expected kind file at text ≡ Ok u → StandsAt file at text
found_text kind file at text tt is = stands kind file at text is

used_of : (file : List ℕ) (block at v : ℕ) → Bytes file → used_in file block at ≡ Ok v → HasUsed file block at v
unfolding used_in
used_of file block at v each is =
    let name = both_ok (expected (texts.BlockName block) file at (length (block_name block) ∷ block_name block)) (λ _. number64_in Truncated file (at + 5)) v is in
    record { name = found_text (texts.BlockName block) file at (length (block_name block) ∷ block_name block) name.0 name.1; used = number64_of file (at + 5) v each name.2 }

-- a field that passed its check
passed : (test : Bool) (fault : HeaderFault) (rest : Result (Unit {0}) HeaderFault) → (if test then rest else Err fault) ≡ Ok tt → (test ≡ true) × (rest ≡ Ok tt)
passed true fault rest is = (refl, is)
passed false fault rest is = absurd (cc)

right : (found wanted : ℕ) (fault : HeaderFault) (rest : Result (Unit {0}) HeaderFault) → unless found wanted fault rest ≡ Ok tt → ((found == wanted) ≡ true) × (rest ≡ Ok tt)
right found wanted fault rest is = passed (found == wanted) fault rest is

-- the bytes of a header with four right fields
header_is : (bytes : List ℕ) (p : Places) → length bytes ≡ 28 → Bytes bytes → header_fault bytes p ≡ Ok tt → bytes ≡ header_bytes p
header_is bytes p long each is =
    let one = right _ _ _ _ is in
    let two = right _ _ _ _ one.1 in
    let three = right _ _ _ _ two.1 in
    let four = right _ _ _ _ three.1 in
    let a : StandsAt bytes 0 (be32 1) = sym (be32_of-at bytes 0 (omega (arith, long)) each) ∙ ap be32 (eqb-true (be32_at bytes 0) 1 one.0) in
    let b : StandsAt bytes 4 (be64 4096) = sym (be64_of-at bytes 4 (omega (arith, long)) each) ∙ ap be64 (eqb-true (be64_at bytes 4) 4096 two.0) in
    let c : StandsAt bytes 12 (be64 p.bitmap) = sym (be64_of-at bytes 12 (omega (arith, long)) each) ∙ ap be64 (eqb-true (be64_at bytes 12) p.bitmap three.0) in
    let d : StandsAt bytes 20 (be64 p.pages) = sym (be64_of-at bytes 20 (omega (arith, long)) each) ∙ ap be64 (eqb-true (be64_at bytes 20) p.pages four.0) in
    let all : StandsAt bytes 0 (header_bytes p) = stands_both bytes 0 4 (be32 1) _ refl a (stands_both bytes 4 12 (be64 4096) _ refl b (stands_both bytes 12 20 (be64 p.bitmap) (be64 p.pages) refl c d)) in
    sym (take_all 28 bytes (omega (arith, long))) ∙ all

header_ok : (block : ℕ) (found : Result (Unit {0}) HeaderFault) → refused_header block found ≡ Ok tt → found ≡ Ok tt
header_ok block (Ok tt) is = refl
header_ok block (Err fault) is = absurd (cc)

header_of : (file : List ℕ) (pages block : ℕ) → Bytes file → header_in file block (block_places pages block) ≡ Ok tt → HasHeader file pages block
unfolding header_in HasHeader
header_of file pages block each is =
    let p = block_places pages block in
    let read = both_ok (read_from Truncated (λ (bytes : List ℕ). header_fault bytes p) (piece_in file p.header 28)) (refused_header block) tt is in
    let parts = of_piece (λ (bytes : List ℕ). header_fault bytes p) (piece_in file p.header 28) read.0 read.1 in
    let piece = piece_of file p.header 28 parts.0 parts.1 in
    let ok : header_fault parts.0 p ≡ Ok tt = parts.2 ∙ header_ok block read.0 read.2 in
    let same = header_is parts.0 p (piece_long file p.header 28 parts.0 piece) (piece_bytes file p.header 28 parts.0 each piece) ok in
    piece.same ∙ same

block_of : (file : List ℕ) (pages block : ℕ) (bitmap : BitmapData) → Bytes file → block_in file pages block ≡ Ok bitmap → HasHeader file pages block
unfolding block_in
block_of file pages block bitmap each is =
    let header = both_ok (header_in file block (block_places pages block)) _ bitmap is in
    header_of file pages block each header.1

later_of : (file : List ℕ) (pages block : ℕ) (bitmap : BitmapData) → Bytes file → later_in file pages block ≡ Ok bitmap → HasBlock file pages block
unfolding later_in
later_of file pages block bitmap each is =
    let at = record_place pages block in
    let used = both_ok (used_in file block at) (λ (v : ℕ). and_then (check (v == 4096 * pages) (Length block v)) (λ _. block_in file pages block)) bitmap is in
    let checked = passes (used.0 == 4096 * pages) (Length block used.0) (block_in file pages block) bitmap used.2 in
    record {
      used = subst (HasUsed file block at) (eqb-true used.0 (4096 * pages) checked.0) (used_of file block at used.0 each used.1);
      header = block_of file pages block bitmap each checked.1;
    }

-- the blocks from this one on
blocks_of : (file : List ℕ) (pages n block : ℕ) (so_far bits : List BitmapData) → Bytes file → blocks_in file pages block n so_far ≡ Ok bits → (b : ℕ) → block ≤ b → b < block + n → HasBlock file pages b
unfolding blocks_in
blocks_of file pages zero block so_far bits each is b from to = absurd (omega (arith, from, to))
blocks_of file pages (suc n) block so_far bits each is b from to =
    let later = both_ok (later_in file pages block) (λ (x : BitmapData). blocks_in file pages (block + 1) n (so_far ++ x ∷ [])) bits is in
    elim (cases_lt block b) [
      | inl more ↦ blocks_of file pages n (block + 1) (so_far ++ later.0 ∷ []) bits each later.2 b (omega (arith, more)) (omega (arith, to))
      | inr same ↦ let here : block ≡ b = omega (arith, from, same) in subst (HasBlock file pages) here (later_of file pages block later.0 each later.1)
    ]

-- what a file says of its RAM
pub record IsRam (file : List ℕ) (total : ℕ) (ram : RamData) : Type 0 where
  pub blocks : HasBlocks file ram.pages (length ram.bits)
  pub some : 0 < length ram.bits
  pub few : length ram.bits ≤ 8
  pub some_page : 1 ≤ ram.pages
  pub few_pages : ram.pages ≤ 2048
  pub sum : length ram.bits * ram.pages * 4096 ≡ total

pub ram_of : (file : List ℕ) (total : ℕ) (ram : RamData) → Bytes file → 4096 ≤ total → ram_in file total ≡ Ok ram → IsRam file total ram
unfolding ram_in bitmaps_in record_place
ram_of file total ram each least is =
    let used = both_ok (used_in file 0 FIRST_RECORD) _ ram is in
    let v = used.0 in
    let passed = passes (is_length total v) (Length 0 v) (and_then (bitmaps_in file (v / 4096) (total / v)) (λ (bits : List BitmapData). Ok (record { pages = v / 4096; bits = bits }))) ram used.2 in
    let parts = length_parts total v passed.0 in
    let read = both_ok (bitmaps_in file (v / 4096) (total / v)) (λ (bits : List BitmapData). Ok (record { pages = v / 4096; bits = bits })) ram passed.1 in
    let first = both_ok (block_in file (v / 4096) 0) (λ (b : BitmapData). blocks_in file (v / 4096) 1 (total / v - 1) (b ∷ [])) read.0 read.1 in
    let same : record { pages = v / 4096; bits = read.0 } ≡ ram = cc in
    let some = some_block total v least parts in
    let count : length read.0 ≡ total / v = (bitmaps_whole file (v / 4096) (total / v) read.0 some read.1).1 in
    let whole : v ≡ 4096 * (v / 4096) = omega (arith, parts.whole) in
    let zeroth : HasBlock file (v / 4096) 0 = record { used = subst (HasUsed file 0 47) whole (used_of file 0 47 v each used.1); header = block_of file (v / 4096) 0 first.0 each first.1 } in
    let blocks : HasBlocks file (v / 4096) (length read.0) = λ b lt. elim (cases_lt 0 b) [
      | inl more ↦ blocks_of file (v / 4096) (total / v - 1) 1 (first.0 ∷ []) read.0 each first.2 b (omega (arith, more)) (omega (arith, lt, count, some))
      | inr none ↦ let here : 0 ≡ b = omega (arith, none) in subst (HasBlock file (v / 4096)) here zeroth
    ] in
    let told : IsRam file total (record { pages = v / 4096; bits = read.0 }) = record {
      blocks = blocks;
      some = omega (arith, count, some);
      few = omega (arith, count, parts.blocks);
      some_page = omega (arith, parts.whole, parts.least);
      few_pages = omega (arith, parts.whole, parts.most);
      sum = ap (λ (k : ℕ). k * (v / 4096) * 4096) count ∙ total_is total v parts;
    } in
    subst (IsRam file total) same told

-- a check that was passed
checked : (test : Bool) (refusal : Refusal) → check test refusal ≡ Ok tt → test ≡ true
checked true refusal is = refl
checked false refusal is = absurd (cc)

-- an end marker
marker_of : (file : List ℕ) (at : ℕ) → Bytes file → end_marker_in file at ≡ Ok tt → StandsAt file at (be64 END_FLAG)
marker_of file at each is =
    let number = both_ok (number64_in Truncated file at) (λ (v : ℕ). check (v == END_FLAG) (Flags at v)) tt is in
    let test = checked (number.0 == END_FLAG) (Flags at number.0) number.2 in
    subst (λ (k : ℕ). StandsAt file at (be64 k)) (eqb-true number.0 END_FLAG test) (number64_of file at number.0 each number.1)

pub tail_of : (file : List ℕ) (at : ℕ) → Bytes file → tail_in file at ≡ Ok tt → HasTail file at
unfolding tail_in
tail_of file at each is =
    let one = both_ok (end_marker_in file at) _ tt is in
    let two = both_ok (expected texts.SectionFooter file (at + 8) (footer_text RAM_SECTION)) _ tt one.2 in
    let three = both_ok (expected texts.SectionHeader file (at + 13) (part_text END RAM_SECTION)) _ tt two.2 in
    let four = both_ok (end_marker_in file (at + 18)) (λ _. expected texts.SectionFooter file (at + 26) (footer_text RAM_SECTION)) tt three.2 in
    record {
      first = marker_of file at each one.1;
      first_footer = found_text texts.SectionFooter file (at + 8) (footer_text RAM_SECTION) two.0 two.1;
      end = found_text texts.SectionHeader file (at + 13) (part_text END RAM_SECTION) three.0 three.1;
      second = marker_of file (at + 18) each four.1;
      second_footer = found_text texts.SectionFooter file (at + 26) (footer_text RAM_SECTION) tt four.2;
    }
