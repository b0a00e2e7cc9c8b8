-- The bitmaps of a file that is loaded are of its pages, and no page with a set bit is cut.
use Rattle.std.proofs.Common.{◌≡◌, ℕ, zero, suc, ◌+◌, ◌-◌, ◌*◌, ◌<◌, List, [], ◌∷◌, ◌++◌, Bool, true, false, ◌/◌, ◌≤◌, length, drop, drop-cons, slice_get, Option, Some, None, Ok, Err, Result, refl, ◌∙◌, ap, subst, arith, length-append}
use Rattle.std.proofs.lemmas.Option.{slice_get_within, get_or_from_slice_get}
use Rattle.mig_stream.specs.Checks.{and_then, check, number32_in, number64_in}
use Rattle.page_bitmap.specs.Bitmap.{BitmapData}
use Rattle.ram_block.specs.declared.page_buf.TheConstants.{PAGE}
use Rattle.file_plan.specs.Plan.{block_places, record_place}
use Rattle.device_state.specs.DeviceText.{DevicesData}
use Rattle.file_plan.specs.declared.plan.TheConstants.{FIRST_RECORD}
use Rattle.loader.specs.Frame.{FrameData, RamData, devices_behind, frame_in, framed, is_length, ram_in, ram_header, stream_in, total_in, total_of, bitmap_in, bitmaps_in, block_in, blocks_in, cut_page, header_in, later_in, refused_page, used_in}
use Rattle.loader.proofs.Lengths.{length_parts, some_block}
use Rattle.loader.specs.Piece.{Refuses, expected}
use Rattle.loader.specs.Whole.{IsWhole, AreWhole}
use Rattle.loader.specs.Loaded.{block_pages, pages_from}
use Rattle.loader.specs.declared.refusal.Refusal.{Refusal}
use Rattle.loader.specs.declared.refusal.Refusal.TheVariants.{Flags, Length, RamVersion, Total, Truncated}
use Rattle.std.specs.Prelude.{◌==◌, ◌&&◌, ◌%◌, nat_le}
use Rattle.std.proofs.lemmas.Bool.{leb-true, and_parts}
use Rattle.flat_machine.specs.Machine.{MachineData}
use Rattle.file_plan.specs.declared.format.TheConstants.{RAM_VERSION}
use Rattle.loader.specs.declared.piece.Text.TheVariants as texts
use Rattle.loader.specs.declared.refusal.LoadFault.{LoadFault}
use Rattle.loader.specs.declared.refusal.LoadFault.TheVariants.{Refused, ReadFault, NoMemory}

-- a check was passed, and what follows went well
pub passes : {B : Type 0} (right : Bool) (refusal : Refusal) (rest : Result B Refusal) (b : B) → and_then (check right refusal) (λ _. rest) ≡ Ok b → (right ≡ true) × (rest ≡ Ok b)
passes true refusal rest b found = (refl, found)
passes false refusal rest b found = absurd (cc)

-- what follows went well, so what it follows did
pub both_ok : {A B : Type 0} (first : Result A Refusal) (rest : A → Result B Refusal) (b : B) → and_then first rest ≡ Ok b → (a : A) × (first ≡ Ok a) × (rest a ≡ Ok b)
both_ok (Ok a) rest b found = (a, refl, found)
both_ok (Err refusal) rest b found = absurd (cc)

none_cut : (cut : Option ℕ) (bitmap result : BitmapData) → and_then (refused_page cut) (λ _. Ok bitmap) ≡ Ok result → (cut ≡ None) × (bitmap ≡ result)
none_cut None bitmap result found = (refl, cc)
none_cut (Some at) bitmap result found = absurd (cc)

pub block_whole : (file : List ℕ) (pages block : ℕ) (bitmap : BitmapData) → block_in file pages block ≡ Ok bitmap → IsWhole file pages block bitmap
unfolding block_in
block_whole file pages block bitmap found =
    let header = both_ok (header_in file block (block_places pages block)) _ bitmap found in
    let read = both_ok (bitmap_in file pages (block_places pages block).bitmap) _ bitmap header.2 in
    let cut = none_cut (cut_page (length file) (block_places pages block).pages read.0.bits) read.0 bitmap read.2 in
    record {
      bits = read.1 ∙ ap (λ (b : BitmapData). Ok b) cut.1;
      uncut = subst (λ (b : BitmapData). cut_page (length file) (block_places pages block).pages b.bits ≡ None) cut.1 cut.0;
    }

-- one block behind those so far
whole_snoc : (file : List ℕ) (pages block last : ℕ) (so_far : List BitmapData) (bitmap : BitmapData) → last ≡ block + length so_far
    → AreWhole file pages block so_far → IsWhole file pages last bitmap → AreWhole file pages block (so_far ++ bitmap ∷ [])
whole_snoc file pages block last [] bitmap place before here =
    let same : last ≡ block = omega arith in
    (subst (λ (k : ℕ). IsWhole file pages k bitmap) same here, tt)
whole_snoc file pages block last (b ∷ so_far) bitmap place before here =
    let next : last ≡ block + 1 + length so_far = omega arith in
    (before.0, whole_snoc file pages (block + 1) last so_far bitmap next before.1 here)

later_whole : (file : List ℕ) (pages block : ℕ) (bitmap : BitmapData) → later_in file pages block ≡ Ok bitmap → IsWhole file pages block bitmap
unfolding later_in
later_whole file pages block bitmap found =
    let used = both_ok (used_in file block (record_place pages block)) _ bitmap found in
    let checked = both_ok (check (used.0 == PAGE * pages) (Length block used.0)) (λ _. block_in file pages block) bitmap used.2 in
    block_whole file pages block bitmap checked.2

-- so many blocks more
blocks_whole : (file : List ℕ) (pages n block : ℕ) (so_far bits : List BitmapData) → block ≡ length so_far → AreWhole file pages 0 so_far → blocks_in file pages block n so_far ≡ Ok bits
    → AreWhole file pages 0 bits × (length bits ≡ block + n)
unfolding blocks_in
blocks_whole file pages zero block so_far bits place before found =
    let same : so_far ≡ bits = cc in
    let count : length so_far ≡ length bits = ap length same in
    (subst (AreWhole file pages 0) same before, omega arith)
blocks_whole file pages (suc n) block so_far bits place before found =
    let later = both_ok (later_in file pages block) (λ (b : BitmapData). blocks_in file pages (block + 1) n (so_far ++ b ∷ [])) bits found in
    let here : block ≡ 0 + length so_far = omega arith in
    let next : block + 1 ≡ length (so_far ++ later.0 ∷ []) = omega (arith, length-append so_far (later.0 ∷ [])) in
    let rest = blocks_whole file pages n (block + 1) (so_far ++ later.0 ∷ []) bits next (whole_snoc file pages 0 block so_far later.0 here before (later_whole file pages block later.0 later.1)) later.2 in
    let count : length bits ≡ block + 1 + n = rest.1 in
    (rest.0, omega arith)

-- all blocks
pub bitmaps_whole : (file : List ℕ) (pages blocks : ℕ) (bits : List BitmapData) → 0 < blocks → bitmaps_in file pages blocks ≡ Ok bits → AreWhole file pages 0 bits × (length bits ≡ blocks)
unfolding bitmaps_in
bitmaps_whole file pages blocks bits some found =
    let first = both_ok (block_in file pages 0) (λ (b : BitmapData). blocks_in file pages 1 (blocks - 1) (b ∷ [])) bits found in
    let rest = blocks_whole file pages (blocks - 1) 1 (first.0 ∷ []) bits refl (block_whole file pages 0 first.0 first.1, tt) first.2 in
    let count : length bits ≡ 1 + (blocks - 1) = rest.1 in
    (rest.0, omega arith)

-- the list from an element on
drop_get : (bits : List BitmapData) (k : ℕ) (b : BitmapData) → slice_get bits k ≡ Some b → drop k bits ≡ b ∷ drop (k + 1) bits
drop_get bits k b found =
    let within = slice_get_within bits k b found in
    let on : suc k ≡ k + 1 = omega arith in
    drop-cons bits k b within ∙ ap (λ (x : BitmapData). x ∷ drop (suc k) bits) (get_or_from_slice_get bits k b b found) ∙ ap (λ (n : ℕ). b ∷ drop n bits) on

-- what is left of the blocks, from block to block
pub whole_on : (file : List ℕ) (pages block : ℕ) (bits : List BitmapData) (b : BitmapData) → slice_get bits block ≡ Some b → AreWhole file pages block (drop block bits)
    → IsWhole file pages block b × AreWhole file pages (block + 1) (drop (block + 1) bits)
whole_on file pages block bits b found whole =
    let parts : AreWhole file pages block (b ∷ drop (block + 1) bits) = subst (AreWhole file pages block) (drop_get bits block b found) whole in
    (parts.0, parts.1)

pub pages_on : (file : List ℕ) (pages block : ℕ) (bits : List BitmapData) (b : BitmapData) → slice_get bits block ≡ Some b
    → pages_from file pages block (drop block bits) ≡ block_pages file (block_places pages block).pages b.bits ++ pages_from file pages (block + 1) (drop (block + 1) bits)
pages_on file pages block bits b found = ap (pages_from file pages block) (drop_get bits block b found)

-- the blocks of RAM of a file
pub ram_whole : (file : List ℕ) (total : ℕ) (ram : RamData) → 4096 ≤ total → ram_in file total ≡ Ok ram → AreWhole file ram.pages 0 ram.bits
unfolding ram_in
ram_whole file total ram some found =
    let used = both_ok (used_in file 0 FIRST_RECORD) _ ram found in
    let passed = passes (is_length total used.0) (Length 0 used.0) (and_then (bitmaps_in file (used.0 / 4096) (total / used.0)) (λ (bits : List BitmapData). Ok (record { pages = used.0 / 4096; bits = bits }))) ram used.2 in
    let parts = length_parts total used.0 passed.0 in
    let read = both_ok (bitmaps_in file (used.0 / 4096) (total / used.0)) (λ (bits : List BitmapData). Ok (record { pages = used.0 / 4096; bits = bits })) ram passed.1 in
    let same : record { pages = used.0 / 4096; bits = read.0 } ≡ ram = cc in
    let blocks = some_block total used.0 some parts in
    subst (λ (r : RamData). AreWhole file r.pages 0 r.bits) same (bitmaps_whole file (used.0 / 4096) (total / used.0) read.0 blocks read.1).0

total_least : (file : List ℕ) (total : ℕ) → total_in file ≡ Ok total → 4096 ≤ total
unfolding total_in
total_least file total found =
    let header = both_ok (expected texts.SectionHeader file 22 ram_header) _ total found in
    let version = both_ok (number32_in Truncated file 35) _ total header.2 in
    let checked = both_ok (check (version.0 == RAM_VERSION) (RamVersion version.0)) _ total version.2 in
    let number = both_ok (number64_in Truncated file 39) (total_of 39) total checked.2 in
    let flags = both_ok (check (number.0 % 4096 == 4) (Flags 39 number.0)) _ total number.2 in
    let limits = passes (nat_le 4096 (number.0 - 4) && nat_le (number.0 - 4) 67108864) (Total number.0) (Ok (number.0 - 4)) total flags.2 in
    let least : 4096 ≤ number.0 - 4 = leb-true _ _ (and_parts _ _ limits.0).0 in
    let same : number.0 - 4 ≡ total = cc in
    subst (λ (k : ℕ). 4096 ≤ k) same least

-- a file of which a frame was read
pub frame_whole : (file : List ℕ) (frame : FrameData) → frame_in file ≡ Ok frame → AreWhole file frame.shape.pages 0 frame.bits
unfolding frame_in
frame_whole file frame found =
    let stream = both_ok (stream_in file) _ frame found in
    let total = both_ok (total_in file) _ frame stream.2 in
    let ram = both_ok (ram_in file total.0) (λ (r : RamData). and_then (devices_behind file (record_place r.pages (length r.bits))) (λ (d : DevicesData). Ok (framed r d))) frame total.2 in
    let last = both_ok (devices_behind file (record_place ram.0.pages (length ram.0.bits))) (λ (d : DevicesData). Ok (framed ram.0 d)) frame ram.2 in
    let same : framed ram.0 last.0 ≡ frame = cc in
    subst (λ (f : FrameData). AreWhole file f.shape.pages 0 f.bits) same (ram_whole file total.0 ram.0 (total_least file total.0 total.1) ram.1)

-- no page of such a file is refused
pub never_refused : (found : Result MachineData Refusal) (fault : LoadFault) → ((refusal : Refusal) → fault ≡ Refused refusal → ⊥) → Refuses found fault
never_refused found (Refused refusal) never = absurd (never refusal refl)
never_refused found ReadFault never = tt
never_refused found NoMemory never = tt

-- one of the blocks
pub nth_whole : (file : List ℕ) (pages block j : ℕ) (bits : List BitmapData) (b : BitmapData) → AreWhole file pages block bits → slice_get bits j ≡ Some b → IsWhole file pages (block + j) b
nth_whole file pages block j [] b whole found = absurd (cc)
nth_whole file pages block zero (a ∷ bits) b whole found =
    let same : a ≡ b = cc in
    let here : block ≡ block + 0 = omega arith in
    subst (λ (k : ℕ). IsWhole file pages k b) here (subst (IsWhole file pages block) same whole.0)
nth_whole file pages block (suc j) (a ∷ bits) b whole found =
    let there : block + 1 + j ≡ block + suc j = omega arith in
    subst (λ (k : ℕ). IsWhole file pages k b) there (nth_whole file pages (block + 1) j bits b whole.1 found)
