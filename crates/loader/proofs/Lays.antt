-- A file of which a frame was read is a layout of the machine with its pages.
use Rattle.std.proofs.Common.{◌≡◌, ℕ, suc, ◌+◌, ◌-◌, ◌*◌, ◌<◌, ◌≤◌, true, false, List, [], ◌∷◌, ◌++◌, length, take, drop, get_or, Some, refl, sym, ◌∙◌, ap, subst, arith, suc-mul, mul-le-mul_right}
use Rattle.std.specs.Prelude.{slice_get}
use Rattle.std.proofs.lemmas.List.{take-append-drop, take_all, drop-drop, length-drop, length-take}
use Rattle.std.proofs.lemmas.Option.{slice_get-get_or}
use Rattle.ram_block.specs.Shape.{ShapeData, ram_bytes_of}
use Rattle.mig_stream.specs.Text.{be32, be64, footer_text, part_text, start_text}
use Rattle.mig_stream.specs.declared.put.TheConstants.{START, END}
use Rattle.mapped_ram_header.specs.Header.{header_bytes}
use Rattle.page_bitmap.specs.Bitmap.{BitmapData}
use Rattle.flat_machine.specs.Machine.{IsMachine, MachineData, Rest, page_of}
use Rattle.flat_machine.proofs.Pages.{page_at-joined}
use Rattle.device_state.specs.DeviceText.{DevicesData, SerialVersion, HasVersion, TellsAll, device_text, devices_text}
use Rattle.file_plan.specs.Plan.{record_place, block_places, tail_place}
use Rattle.file_plan.specs.Layout.{Lay, LaysPage, StandsAt, block_name, configuration_text, front_text, page_bit, record_text, tail_text}
use Rattle.file_plan.specs.declared.format.TheConstants.{END_FLAG, MAGIC, RAM_SECTION, RAM_NAME, RAM_VERSION, STREAM_VERSION, TOTAL_FLAG}
use Rattle.loader.specs.Frame.{FrameData, ram_header}
use Rattle.loader.specs.Loaded.{machine_of, page_by, pages_from}
use Rattle.loader.specs.Stands.{EndsWith, HasBlock, HasFrame, HasHeader, HasLast, HasStream, HasTail, HasTotal, IsFrame}
use Rattle.loader.specs.Whole.{AreWhole, IsWhole}
use Rattle.loader.proofs.RamPages.{all_whole, bitmap_told, count_from, nth_from, uncut_page}
use Rattle.loader.proofs.Texts.{stands_both}
use Rattle.loader.proofs.Whole.{nth_whole}

-- the front
front_stands : (file : List ℕ) (shape : ShapeData) → HasStream file → HasTotal file (ram_bytes_of shape) → StandsAt file 0 (front_text shape)
unfolding front_text
front_stands file shape stream total =
    let last = stands_both file 35 39 (be32 RAM_VERSION) (be64 (ram_bytes_of shape + TOTAL_FLAG)) refl total.version total.total in
    let ram = stands_both file 22 35 ram_header (be32 RAM_VERSION ++ be64 (ram_bytes_of shape + TOTAL_FLAG)) refl total.header last in
    let name = stands_both file 8 22 configuration_text (start_text START RAM_SECTION RAM_NAME 0 RAM_VERSION ++ be64 (ram_bytes_of shape + TOTAL_FLAG)) refl stream.configuration ram in
    let version = stands_both file 4 8 (be32 STREAM_VERSION) _ refl stream.version name in
    stands_both file 0 4 (be32 MAGIC) _ refl stream.magic version

-- the record of a block
record_stands : (file : List ℕ) (shape : ShapeData) (block : ℕ) → HasBlock file shape.pages block → StandsAt file (record_place shape.pages block) (record_text shape block)
unfolding record_text HasHeader
record_stands file shape block has =
    let at = record_place shape.pages block in
    let there : at + 13 ≡ at + 5 + 8 = omega arith in
    let numbers = stands_both file (at + 5) (at + 13) (be64 (4096 * shape.pages)) (header_bytes (block_places shape.pages block)) (omega arith) has.used.used (has.header) in
    stands_both file at (at + 5) (length (block_name block) ∷ block_name block) _ refl has.used.name numbers

-- the tail
tail_stands : (file : List ℕ) (at : ℕ) → HasTail file at → StandsAt file at tail_text
unfolding tail_text
tail_stands file at has =
    let four = stands_both file (at + 18) (at + 26) (be64 END_FLAG) (footer_text RAM_SECTION) (omega arith) has.second has.second_footer in
    let three = stands_both file (at + 13) (at + 18) (part_text END RAM_SECTION) _ (omega arith) has.end four in
    let two = stands_both file (at + 8) (at + 13) (footer_text RAM_SECTION) _ (omega arith) has.first_footer three in
    stands_both file at (at + 8) (be64 END_FLAG) _ refl has.first two

-- the device text, with which the file ends
end_stands : (file : List ℕ) (at : ℕ) (d : DevicesData) (end : EndsWith file at d) → drop at file ≡ devices_text end.stands.0 d
end_stands file at d end =
    let text = devices_text end.stands.0 d in
    let long : length (drop at file) ≤ length text = omega (arith, length-drop at file, end.last, end.stands.1.end) in
    sym (take_all (length text) (drop at file) long) ∙ end.stands.1.bytes

last_stands : (file : List ℕ) (at : ℕ) (m : MachineData) (d : DevicesData) → d ≡ record { vcpus = m.vcpus; serial = m.serial; cmp = m.cmp; clock = m.clock } → HasLast file at d
    → (version : SerialVersion) × HasVersion version m × (drop at file ≡ tail_text ++ device_text version m)
unfolding device_text tail_text
last_stands file at m d same last =
    let version = last.devices.stands.0 in
    let rest : drop 31 (drop at file) ≡ devices_text version d = drop-drop 31 at file ∙ end_stands file (at + 31) d last.devices in
    let all = sym (take-append-drop 31 (drop at file)) ∙ ap (λ (l : List ℕ). l ++ drop 31 (drop at file)) (tail_stands file at last.tail) ∙ ap (λ (l : List ℕ). tail_text ++ l) rest in
    (version, subst (λ (x : DevicesData). TellsAll version x.serial) same last.devices.stands.1.tells_all, all ∙ ap (λ (x : DevicesData). tail_text ++ devices_text version x) same)

-- a page of one of the blocks is one of RAM
in_page : (block blocks p pages : ℕ) → block < blocks → p < pages → block * pages + p < blocks * pages
in_page block blocks p pages in_ram in_block =
    let more : suc block * pages ≤ blocks * pages = mul-le-mul_right pages in_ram in
    omega (arith, more, suc-mul block pages, in_block)

-- a page by its bit
module _ (file : List ℕ) (frame : FrameData) (limits : IsFrame frame) (whole : AreWhole file frame.shape.pages 0 frame.bits) (block p : ℕ) (in_ram : block < frame.shape.blocks) (in_block : p < frame.shape.pages) where
  abbrev bitmap : BitmapData
  bitmap = get_or frame.bits block (record { pages = 0; bits = [] })

  found : slice_get frame.bits block ≡ Some bitmap
  found = slice_get-get_or frame.bits block (record { pages = 0; bits = [] }) (omega (arith, in_ram, limits.blocks))

  here : IsWhole file frame.shape.pages block bitmap
  here =
      let same : 0 + block ≡ block = omega arith in
      subst (λ (k : ℕ). IsWhole file frame.shape.pages k bitmap) same (nth_whole file frame.shape.pages 0 block frame.bits bitmap whole found)

  abbrev at : ℕ
  at = (block_places frame.shape.pages block).pages

  abbrev pages : List (List ℕ)
  pages = pages_from file frame.shape.pages 0 frame.bits

  page_is : page_of (machine_of file frame) (block * frame.shape.pages + p) ≡ page_by file (at + 4096 * p) (get_or bitmap.bits p false)
  page_is =
      let count : length pages ≡ length frame.bits * frame.shape.pages = count_from file frame.shape.pages 0 frame.bits whole in
      let blocks : length frame.bits * frame.shape.pages ≡ frame.shape.blocks * frame.shape.pages = ap (λ (k : ℕ). k * frame.shape.pages) limits.blocks in
      let inside : block * frame.shape.pages + p < frame.shape.blocks * frame.shape.pages = in_page block frame.shape.blocks p frame.shape.pages in_ram in_block in
      let same : 0 + block ≡ block = omega arith in
      page_at-joined pages (block * frame.shape.pages + p) [] (all_whole file frame.shape.pages 0 frame.bits whole) (omega (arith, count, blocks, inside))
      ∙ nth_from file frame.shape.pages 0 block p frame.bits bitmap [] whole found in_block
      ∙ ap (λ (k : ℕ). page_by file ((block_places frame.shape.pages k).pages + 4096 * p) (get_or bitmap.bits p false)) same

  told : (length bitmap.bits ≡ frame.shape.pages) × ((q : ℕ) → q < frame.shape.pages → get_or bitmap.bits q false ≡ page_bit file (block_places frame.shape.pages block).bitmap q)
  told = bitmap_told file frame.shape.pages (block_places frame.shape.pages block).bitmap bitmap here.bits

  bit_is : get_or bitmap.bits p false ≡ page_bit file (block_places frame.shape.pages block).bitmap p
  bit_is = told.1 p in_block

  long : get_or bitmap.bits p false ≡ true → 4096 ≤ length file - (at + 4096 * p)
  long set = uncut_page (length file) at p bitmap.bits here.uncut (omega (arith, told.0, in_block)) set

  pub lays_page : LaysPage file (machine_of file frame) block p
  lays_page = record {
    stands = λ set.
        let is_set : get_or bitmap.bits p false ≡ true = bit_is ∙ set in
        let saved : page_of (machine_of file frame) (block * frame.shape.pages + p) ≡ take 4096 (drop (at + 4096 * p) file) = page_is ∙ ap (page_by file (at + 4096 * p)) is_set in
        let room = long is_set in
        let count : length (take 4096 (drop (at + 4096 * p) file)) ≡ 4096 = omega (arith, room, length-take 4096 (drop (at + 4096 * p) file), length-drop (at + 4096 * p) file) in
        subst (StandsAt file (at + 4096 * p)) (sym saved) (ap (λ (n : ℕ). take n (drop (at + 4096 * p) file)) count);
    zeros = λ clear. page_is ∙ ap (page_by file (at + 4096 * p)) (bit_is ∙ clear);
  }

-- the whole file
pub lays : (file : List ℕ) (frame : FrameData) → HasFrame file frame → IsFrame frame → AreWhole file frame.shape.pages 0 frame.bits
    → IsMachine (machine_of file frame) → Rest (machine_of file frame) → Lay file (machine_of file frame)
lays file frame has limits whole machine rest = record {
  machine = machine;
  rest = rest;
  shape = record { front = front_stands file frame.shape has.stream has.total; records = λ block lt. record_stands file frame.shape block (has.blocks block lt) };
  pages = λ block p in_ram in_block. lays_page file frame limits whole block p in_ram in_block;
  tail = last_stands file (tail_place frame.shape) (machine_of file frame) frame.devices refl has.last;
}
