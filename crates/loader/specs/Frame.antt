-- What a file says but for the bytes of its pages, piece by piece in their order, or the first refusal (this project's
-- own, docs/FILE_FORMAT.md).
use Rattle.std.specs.Prelude.{ℕ, zero, suc, ◌+◌, ◌-◌, ◌*◌, ◌/◌, ◌%◌, ◌==◌, ◌&&◌, nat_le, nat_lt, Bool, List, [], ◌∷◌, ◌++◌, length, take, Option, Some, None, Result, Ok, Err, if◌then◌else◌}
use Rattle.ram_block.specs.Shape.{ShapeData}
use Rattle.ram_block.specs.declared.limits.TheConstants.{MAX_RAM}
use Rattle.ram_block.specs.declared.page_buf.TheConstants.{PAGE}
use Rattle.ram_block.specs.declared.shape.TheConstants.{MAX_BLOCKS, MAX_PAGES}
use Rattle.mig_stream.specs.Checks.{and_then, cut_at, check, number32_in, number64_in, read_from}
use Rattle.mig_stream.specs.Pieces.{piece_in}
use Rattle.mig_stream.specs.Text.{start_text, part_text, footer_text}
use Rattle.mig_stream.specs.declared.put.TheConstants.{START, END}
use Rattle.mapped_ram_header.specs.Header.{header_fault}
use Rattle.mapped_ram_header.specs.declared.block.Places.{Places}
use Rattle.mapped_ram_header.specs.declared.fault.HeaderFault.{HeaderFault}
use Rattle.mapped_ram_header.specs.declared.header.TheConstants.{HEADER_LEN}
use Rattle.page_bitmap.specs.Bitmap.{BitmapData, bits_of, byte_len_of}
use Rattle.file_plan.specs.Layout.{block_name, configuration_text}
use Rattle.file_plan.specs.Plan.{record_place, block_places}
use Rattle.file_plan.specs.declared.format.TheConstants.{MAGIC, STREAM_VERSION, RAM_NAME, RAM_SECTION, RAM_VERSION, TOTAL_FLAG, END_FLAG, TAIL_LEN}
use Rattle.file_plan.specs.declared.plan.TheConstants.{FIRST_RECORD}
use Rattle.device_state.specs.DeviceText.{DevicesData}
use Rattle.device_state.specs.Reading.{DevicesRead, devices_in}
use Rattle.device_state.specs.declared.fault.DeviceReadFault.{DeviceReadFault}
use Rattle.device_state.specs.declared.fault.DeviceReadFault.TheVariants as devices
use Rattle.loader.specs.Piece.{expected}
use Rattle.loader.specs.declared.refusal.Refusal.{Refusal}
use Rattle.loader.specs.declared.refusal.Refusal.TheVariants.{Truncated, Magic, StreamVersion, Section, RamVersion, Flags, Total, Length, Header, Footer, Device, Trailing}
use Rattle.loader.specs.declared.piece.Text.TheVariants as texts

-- what a file says of its RAM: the pages of a block, and the bitmap of each block
pub record RamData : Type 0 where
  pub pages : ℕ
  pub bits : List BitmapData

-- the first header of the section of RAM, before its version
abbrev pub ram_header : List ℕ
ram_header = take 13 (start_text START RAM_SECTION RAM_NAME 0 RAM_VERSION)

-- the magic, the version and the configuration
unfoldable pub stream_in : List ℕ → Result (Unit {0}) Refusal
stream_in file =
    and_then (number32_in Truncated file 0) (λ magic. and_then (check (magic == MAGIC) (Magic magic)) (λ _.
    and_then (number32_in Truncated file 4) (λ version. and_then (check (version == STREAM_VERSION) (StreamVersion version)) (λ _.
    expected texts.Configuration file 8 configuration_text))))

-- the total of RAM in bytes, of the number that stands at the place
abbrev pub total_of : ℕ → ℕ → Result ℕ Refusal
total_of at v =
    and_then (check (v % 4096 == TOTAL_FLAG) (Flags at v)) (λ _.
    and_then (check (nat_le PAGE (v - TOTAL_FLAG) && nat_le (v - TOTAL_FLAG) MAX_RAM) (Total v)) (λ _. Ok (v - TOTAL_FLAG)))

-- the first header of the section of RAM, and the total
unfoldable pub total_in : List ℕ → Result ℕ Refusal
total_in file =
    and_then (expected texts.SectionHeader file 22 ram_header) (λ _.
    and_then (number32_in Truncated file 35) (λ version. and_then (check (version == RAM_VERSION) (RamVersion version)) (λ _.
    and_then (number64_in Truncated file 39) (total_of 39))))

-- whether a block can have this length: so many whole pages, and as many blocks as make the total
abbrev pub is_length : ℕ → ℕ → Bool
is_length total v = (v % PAGE == 0) && nat_le PAGE v && nat_le v (PAGE * MAX_PAGES) && (total % v == 0) && nat_le (total / v) MAX_BLOCKS

-- the blocks and pages that a first block of this length asks for, as the shape of a machine with one vCPU
abbrev pub shape_of : ℕ → ℕ → Option ShapeData
shape_of total v = if is_length total v then Some (record { vcpus = 1; blocks = total / v; pages = v / PAGE }) else None

-- the name of a block and its used length
unfoldable pub used_in : List ℕ → ℕ → ℕ → Result ℕ Refusal
used_in file block at = and_then (expected (texts.BlockName block) file at (length (block_name block) ∷ block_name block)) (λ _. number64_in Truncated file (at + 5))

-- the header of a block is the one that its places ask for
abbrev pub refused_header : ℕ → Result (Unit {0}) HeaderFault → Result (Unit {0}) Refusal
refused_header block (Ok same) = Ok tt
refused_header block (Err fault) = Err (Header block fault)

unfoldable pub header_in : List ℕ → ℕ → Places → Result (Unit {0}) Refusal
header_in file block places = and_then (read_from Truncated (λ bytes. header_fault bytes places) (piece_in file places.header HEADER_LEN)) (refused_header block)

-- the bitmap of a block of so many pages
unfoldable pub bitmap_in : List ℕ → ℕ → ℕ → Result BitmapData Refusal
bitmap_in file pages at = read_from Truncated (λ bytes. record { pages = pages; bits = bits_of pages bytes }) (piece_in file at (byte_len_of pages))

-- a page with this bit, which would stand at the place, isn't whole in a file of this length
abbrev pub is_cut : ℕ → ℕ → Bool → Bool
is_cut len at bit = bit && nat_lt (len - at) PAGE

-- where the first page with a set bit stands that a file of this length hasn't whole; the first page stands at the place
abbrev pub cut_page : ℕ → ℕ → List Bool → Option ℕ
cut_page len at [] = None
cut_page len at (bit ∷ bits) = if is_cut len at bit then Some at else cut_page len (at + PAGE) bits

abbrev pub refused_page : Option ℕ → Result (Unit {0}) Refusal
refused_page None = Ok tt
refused_page (Some at) = Err (Truncated at)

-- the header, the bitmap and the pages of a block: its bits
unfoldable pub block_in : List ℕ → ℕ → ℕ → Result BitmapData Refusal
block_in file pages block =
    let places = block_places pages block in
    and_then (header_in file block places) (λ _.
    and_then (bitmap_in file pages places.bitmap) (λ bitmap.
    and_then (refused_page (cut_page (length file) places.pages bitmap.bits)) (λ _. Ok bitmap)))

-- a block behind the first one, of as many pages
unfoldable pub later_in : List ℕ → ℕ → ℕ → Result BitmapData Refusal
later_in file pages block =
    and_then (used_in file block (record_place pages block)) (λ v. and_then (check (v == PAGE * pages) (Length block v)) (λ _.
    block_in file pages block))

-- so many blocks from this one on, behind those so far
unfoldable pub blocks_in : List ℕ → ℕ → ℕ → ℕ → List BitmapData → Result (List BitmapData) Refusal
blocks_in file pages block zero so_far = Ok so_far
blocks_in file pages block (suc n) so_far = and_then (later_in file pages block) (λ bitmap. blocks_in file pages (block + 1) n (so_far ++ bitmap ∷ []))

-- so many blocks of so many pages
unfoldable pub bitmaps_in : List ℕ → ℕ → ℕ → Result (List BitmapData) Refusal
bitmaps_in file pages blocks = and_then (block_in file pages 0) (λ first. blocks_in file pages 1 (blocks - 1) (first ∷ []))

-- the blocks of RAM of this total: the length of the first says how many there are
unfoldable pub ram_in : List ℕ → ℕ → Result RamData Refusal
ram_in file total =
    and_then (used_in file 0 FIRST_RECORD) (λ v. and_then (check (is_length total v) (Length 0 v)) (λ _.
    and_then (bitmaps_in file (v / PAGE) (total / v)) (λ bits. Ok (record { pages = v / PAGE; bits = bits }))))

-- an end marker
abbrev pub end_marker_in : List ℕ → ℕ → Result (Unit {0}) Refusal
end_marker_in file at = and_then (number64_in Truncated file at) (λ v. check (v == END_FLAG) (Flags at v))

-- what stands between the pages and the device text
unfoldable pub tail_in : List ℕ → ℕ → Result (Unit {0}) Refusal
tail_in file at =
    and_then (end_marker_in file at) (λ _.
    and_then (expected texts.SectionFooter file (at + 8) (footer_text RAM_SECTION)) (λ _.
    and_then (expected texts.SectionHeader file (at + 13) (part_text END RAM_SECTION)) (λ _.
    and_then (end_marker_in file (at + 18)) (λ _.
    expected texts.SectionFooter file (at + 26) (footer_text RAM_SECTION)))))

-- why a device text is refused; for what stands in a file no memory is wanted
abbrev pub refused_devices : DeviceReadFault → Refusal
refused_devices (devices.Field fault) = Truncated (cut_at fault)
refused_devices (devices.Section at found) = Section at found
refused_devices (devices.Footer at found) = Footer at found
refused_devices (devices.Device at fault) = Device at fault
refused_devices devices.NoMemory = Truncated 0

-- what a device text tells with which the file ends
abbrev pub last_of : ℕ → Result DevicesRead DeviceReadFault → Result DevicesData Refusal
last_of len (Ok found) = and_then (check (nat_le len found.end) (Trailing found.end)) (λ _. Ok found.devices)
last_of len (Err fault) = Err (refused_devices fault)

unfoldable pub last_in : List ℕ → ℕ → Result DevicesData Refusal
last_in file at = last_of (length file) (devices_in file at)

-- what a file says but for the bytes of its pages
pub record FrameData : Type 0 where
  pub shape : ShapeData
  pub bits : List BitmapData
  pub devices : DevicesData

-- the tail that begins at the place, and the device text behind it
unfoldable pub devices_behind : List ℕ → ℕ → Result DevicesData Refusal
devices_behind file at = and_then (tail_in file at) (λ _. last_in file (at + TAIL_LEN))

abbrev pub framed : RamData → DevicesData → FrameData
framed ram d = record { shape = record { vcpus = length d.vcpus; blocks = length ram.bits; pages = ram.pages }; bits = ram.bits; devices = d }

unfoldable pub frame_in : List ℕ → Result FrameData Refusal
frame_in file =
    and_then (stream_in file) (λ _.
    and_then (total_in file) (λ total.
    and_then (ram_in file total) (λ ram.
    and_then (devices_behind file (record_place ram.pages (length ram.bits))) (λ d. Ok (framed ram d)))))
