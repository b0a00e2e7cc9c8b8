-- A snapshot file and the machine that it stands for, by places (this project's own file layout,
-- docs/FILE_FORMAT.md).
use Rattle.std.specs.Prelude.{◌≡◌, ℕ, zero, suc, ◌+◌, ◌-◌, ◌*◌, ◌<◌, Bool, true, false, not, ◌&&◌, if◌then◌else◌, nat_le, nat_lt, List, [], ◌∷◌, ◌++◌, length, take, drop, map, slice_index, ◌==◌}
use Rattle.std.specs.List.{range_with_len, list_all}
use Rattle.ram_block.specs.Page.{zero_page}
use Rattle.ram_block.specs.Shape.{ShapeData, ram_bytes_of}
use Rattle.ram_block.specs.declared.page_buf.TheConstants.{PAGE}
use Rattle.page_bitmap.specs.Bitmap.{bit_in, bytes_of}
use Rattle.mig_stream.specs.Text.{be32, be64, start_text, part_text, footer_text}
use Rattle.mig_stream.specs.declared.put.TheConstants.{START, END}
use Rattle.mapped_ram_header.specs.Header.{header_bytes}
use Rattle.file_plan.specs.Plan.{record_place, block_places, tail_place}
use Rattle.flat_machine.specs.Machine.{IsMachine, MachineData, Rest, page_of}
use Rattle.device_state.specs.DeviceText.{SerialVersion, Two, HasVersion, device_text}
use Rattle.file_plan.specs.declared.format.TheConstants.{MAGIC, STREAM_VERSION, CONFIGURATION, MACHINE_NAME, RAM_SECTION, RAM_NAME, RAM_VERSION, TOTAL_FLAG, END_FLAG}

-- the configuration: the machine's name after its length
abbrev pub configuration_text : List ℕ
configuration_text = CONFIGURATION ∷ (be32 (length MACHINE_NAME) ++ MACHINE_NAME)

-- the front of a file: magic, version, configuration, and the first header of the RAM section with its total
unfoldable pub front_text : ShapeData → List ℕ
front_text s =
    be32 MAGIC ++ (be32 STREAM_VERSION ++ (configuration_text
    ++ (start_text START RAM_SECTION RAM_NAME 0 RAM_VERSION ++ be64 (ram_bytes_of s + TOTAL_FLAG))))

-- the name of a block: that of the RAM and the digit of the block
abbrev pub block_name : ℕ → List ℕ
block_name block = RAM_NAME ++ (48 + block) ∷ []

-- the record of a block: its name after its length, its used length, and its mapped-ram header
unfoldable pub record_text : ShapeData → ℕ → List ℕ
record_text s block =
    (length (block_name block) ∷ block_name block) ++ (be64 (PAGE * s.pages) ++ header_bytes (block_places s.pages block))

-- what the head piece of a block has before the record
abbrev pub front_part : ShapeData → ℕ → List ℕ
front_part s zero = front_text s
front_part s (suc block) = []

-- the head piece of a block with these bits: for the first the front of the file, then the record and the bitmap
unfoldable pub head_text : ShapeData → ℕ → List Bool → List ℕ
head_text s block bits = front_part s block ++ (record_text s block ++ bytes_of s.pages bits)

-- what stands between the pages and the device text: the end of the setup, and the end of the RAM section
unfoldable pub tail_text : List ℕ
tail_text = be64 END_FLAG ++ (footer_text RAM_SECTION ++ (part_text END RAM_SECTION ++ (be64 END_FLAG ++ footer_text RAM_SECTION)))

-- these bytes stand at this place
abbrev pub StandsAt : List ℕ → ℕ → List ℕ → Type 0
StandsAt file at bytes = take (length bytes) (drop at file) ≡ bytes

-- the bit of page p in the bitmap at this place
abbrev pub page_bit : List ℕ → ℕ → ℕ → Bool
page_bit file bitmap p = bit_in (drop bitmap file) p

-- page p of a block: it stands at its place, where its bit is set, and else is all zeros
pub record LaysPage (file : List ℕ) (m : MachineData) (block p : ℕ) : Type 0 where
  pub stands : page_bit file (block_places m.shape.pages block).bitmap p ≡ true →
      StandsAt file ((block_places m.shape.pages block).pages + PAGE * p) (page_of m (block * m.shape.pages + p))
  pub zeros : page_bit file (block_places m.shape.pages block).bitmap p ≡ false →
      page_of m (block * m.shape.pages + p) ≡ zero_page

-- what a file says of the shape alone: its front, and the record of each block
pub record LaysShape (file : List ℕ) (shape : ShapeData) : Type 0 where
  pub front : StandsAt file 0 (front_text shape)
  pub records : (block : ℕ) → block < shape.blocks → StandsAt file (record_place shape.pages block) (record_text shape block)

-- The file is a layout of the machine. What is not spoken of is free: bytes between a bitmap and the pages,
-- bits past the last page, and pages whose bit is clear.
pub record Lay (file : List ℕ) (m : MachineData) : Type 0 where
  pub machine : IsMachine m
  pub rest : Rest m
  pub shape : LaysShape file m.shape
  pub pages : (block p : ℕ) → block < m.shape.blocks → p < m.shape.pages → LaysPage file m block p
  pub tail : (version : SerialVersion) × HasVersion version m × (drop (tail_place m.shape) file ≡ tail_text ++ device_text version m)

-- bytes with their place in a file
pub record Piece : Type 0 where
  pub at : ℕ
  pub bytes : List ℕ

-- the byte of the piece that has this place, and 0 where none has it
abbrev pub byte_in : List Piece → ℕ → ℕ
byte_in [] k = 0
byte_in (piece ∷ pieces) k =
    if nat_le piece.at k && nat_lt k (piece.at + length piece.bytes) then slice_index piece.bytes (k - piece.at) else byte_in pieces k

-- whether a page, counted over all blocks, isn't all zeros
abbrev pub is_saved : MachineData → ℕ → Bool
is_saved m p = not (list_all (λ b. b == 0) (page_of m p))

-- a bit for each page of a block: set where the page isn't all zeros
abbrev pub saved_bits : MachineData → ℕ → List Bool
saved_bits m block = map (λ p. is_saved m (block * m.shape.pages + p)) (range_with_len 0 m.shape.pages)

-- the bytes of that bitmap
unfoldable pub bitmap_of : MachineData → ℕ → List ℕ
bitmap_of m block = bytes_of m.shape.pages (saved_bits m block)

-- the RAM of a block
abbrev pub block_ram : MachineData → ℕ → List ℕ
block_ram m block = take (PAGE * m.shape.pages) (drop (PAGE * m.shape.pages * block) m.ram)

-- the pieces of a block
abbrev pub block_pieces : MachineData → ℕ → List Piece
block_pieces m block =
    let places = block_places m.shape.pages block in
    record { at = record_place m.shape.pages block; bytes = record_text m.shape block }
    ∷ (record { at = places.bitmap; bytes = bitmap_of m block } ∷ (record { at = places.pages; bytes = block_ram m block } ∷ []))

-- the pieces of so many blocks from this one on
unfoldable pub pieces_from : MachineData → ℕ → ℕ → List Piece
pieces_from m block zero = []
pieces_from m block (suc n) = block_pieces m block ++ pieces_from m (block + 1) n

-- the last piece, with the serial section of the second version
abbrev pub last_piece : MachineData → Piece
last_piece m = record { at = tail_place m.shape; bytes = tail_text ++ device_text Two m }

-- all pieces of the file
unfoldable pub pieces_of : MachineData → List Piece
pieces_of m = record { at = 0; bytes = front_text m.shape } ∷ (pieces_from m 0 m.shape.blocks ++ last_piece m ∷ [])

-- the file that a save writes: each piece at its place, and zeros elsewhere
unfoldable pub file_of : MachineData → List ℕ
file_of m = map (byte_in (pieces_of m)) (range_with_len 0 (tail_place m.shape + length (last_piece m).bytes))
