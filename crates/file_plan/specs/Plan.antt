-- Where each piece of a snapshot file stands, by the shape of the machine (this project's own file layout,
-- docs/FILE_FORMAT.md).
use Rattle.std.specs.Prelude.{ℕ, zero, suc, ◌+◌, ◌*◌, ◌/◌, ◌%◌}
use Rattle.page_bitmap.specs.Bitmap.{byte_len_of}
use Rattle.ram_block.specs.Shape.{ShapeData}
use Rattle.ram_block.specs.declared.page_buf.TheConstants.{PAGE}
use Rattle.mapped_ram_header.specs.Places.{places_of}
use Rattle.mapped_ram_header.specs.declared.block.Places.{Places}
use Rattle.file_plan.specs.declared.format.TheConstants.{FRONT_LEN, RECORD_LEN}
use Rattle.file_plan.specs.declared.plan.TheConstants.{FIRST_RECORD, RECORD_HEAD}

-- where the record of a block begins: the first at a fixed place, each other one behind the pages before it
unfoldable pub record_place : ℕ → ℕ → ℕ
record_place pages zero = FIRST_RECORD
record_place pages (suc block) = (places_of (record_place pages block + RECORD_HEAD) pages).end

-- where the header, the bitmap and the pages of a block stand
abbrev pub block_places : ℕ → ℕ → Places
block_places pages block = places_of (record_place pages block + RECORD_HEAD) pages

-- where a page stands, counted over all blocks
abbrev pub page_place : ℕ → ℕ → ℕ
page_place pages p = (block_places pages (p / pages)).pages + PAGE * (p % pages)

-- where the tail begins: behind the last block's pages
abbrev pub tail_place : ShapeData → ℕ
tail_place s = record_place s.pages s.blocks

-- where the head piece of a block begins: the first with the file, each other one with its record
abbrev pub head_place : ShapeData → ℕ → ℕ
head_place s zero = 0
head_place s (suc block) = record_place s.pages (suc block)

-- how many bytes of a head piece stand before the record
abbrev pub front_len : ℕ → ℕ
front_len zero = FRONT_LEN
front_len (suc block) = 0

-- how many bytes a head piece has: the front where it is the first, the record and the bitmap
abbrev pub head_len_of : ℕ → ℕ → ℕ
head_len_of pages block = front_len block + (RECORD_LEN + byte_len_of pages)
