-- A page of RAM as it stands in a file (this project's own file layout, docs/FILE_FORMAT.md).
use Rattle.std.specs.Prelude.{◌≡◌, ⊤, ℕ, ◌-◌, ◌/◌, ◌%◌, ◌<◌, Bool, true, false, List, [], length, take, drop, map, All, get_or, Some, Result, Ok, Err, if◌then◌else◌}
use Rattle.std.specs.List.{range_with_len}
use Rattle.ram_block.specs.Page.{zero_page}
use Rattle.ram_block.specs.Shape.{ShapeData, IsShape}
use Rattle.ram_block.specs.declared.page_buf.TheConstants.{PAGE}
use Rattle.page_bitmap.specs.Bitmap.{BitmapData, bits_of, byte_len_of}
use Rattle.mig_stream.specs.declared.field_fault.FieldFault.{FieldFault}
use Rattle.mig_stream.specs.declared.field_fault.FieldFault.TheVariants as fields
use Rattle.mig_stream.specs.declared.text_fault.TextFault.{TextFault}
use Rattle.mig_stream.specs.declared.text_fault.TextFault.TheVariants as texts
use Rattle.file_plan.specs.Layout.{page_bit}
use Rattle.file_plan.specs.Plan.{block_places, page_place}
use Rattle.page_peek.specs.Heads.{Heads, heads_refusal}
use Rattle.page_peek.specs.declared.fault.PageFault.{PageFault}
use Rattle.page_peek.specs.declared.fault.PageFault.TheVariants as pages
use Rattle.page_peek.specs.declared.fault.PeekFault.{PeekFault}
use Rattle.page_peek.specs.declared.fault.PeekFault.TheVariants.{Refused, ReadFault, NoMemory}
use Rattle.page_peek.specs.declared.fault.PeekRefusal.TheVariants.{Truncated, Differs}

-- a page by its bit: the bytes at its place, or zeros
abbrev pub page_by : List ℕ → ℕ → Bool → List ℕ
page_by file at bit = if bit then take PAGE (drop at file) else zero_page

-- page p, counted over all blocks, as the file has it: the bytes at its place where its bit is 1, else zeros
unfoldable pub peeked : List ℕ → ShapeData → ℕ → List ℕ
peeked file s p = page_by file (page_place s.pages p) (page_bit file (block_places s.pages (p / s.pages)).bitmap (p % s.pages))

-- what is known of a file: the shape of its machine, and the bitmap of each block
pub record PeekData : Type 0 where
  pub shape : ShapeData
  pub bits : List BitmapData

-- a bitmap of so many pages for each block
pub record IsPeek (d : PeekData) : Type 0 where
  pub shape : IsShape d.shape
  pub blocks : length d.bits ≡ d.shape.blocks
  pub pages : All (λ b. b.pages ≡ d.shape.pages) d.bits

-- no bitmap
abbrev pub no_bits : BitmapData
no_bits = record { pages = 0; bits = [] }

-- the bit of a page, counted over all blocks
unfoldable pub bit_of : PeekData → ℕ → Bool
bit_of d p = get_or (get_or d.bits (p / d.shape.pages) no_bits).bits (p % d.shape.pages) false

-- a page by that bit
abbrev pub page_in : List ℕ → PeekData → ℕ → List ℕ
page_in file d p = page_by file (page_place d.shape.pages p) (bit_of d p)

-- the bitmap of a block as it stands in the file
abbrev pub block_bits : List ℕ → ShapeData → ℕ → BitmapData
block_bits file s block = record { pages = s.pages; bits = bits_of s.pages (take (byte_len_of s.pages) (drop (block_places s.pages block).bitmap file)) }

-- what the file says of its bitmaps
unfoldable pub peek_of : List ℕ → ShapeData → PeekData
peek_of file s = record { shape = s; bits = map (block_bits file s) (range_with_len 0 s.blocks) }

-- The heads were found, with these bitmaps, or the first head piece is refused that is wrong.
abbrev pub Opens : List ℕ → ShapeData → Result PeekData PeekFault → Type 0
Opens file s (Ok d) = Heads file s × (d ≡ peek_of file s)
Opens file s (Err (Refused refusal)) = heads_refusal file s ≡ Some refusal
Opens file s (Err ReadFault) = ⊤
Opens file s (Err NoMemory) = ⊤

-- the fault of a head piece in which the file ends, and of one that is another
abbrev pub cut_fault : FieldFault → PeekFault
cut_fault (fields.Truncated at) = Refused (Truncated at)
cut_fault fields.ReadFault = ReadFault

abbrev pub text_fault : TextFault → PeekFault
text_fault (texts.Field fault) = cut_fault fault
text_fault (texts.Differs at found) = Refused (Differs at found)

-- the file ends in the bytes of a page with a set bit
pub record IsCutPage (file : List ℕ) (d : PeekData) (p : ℕ) : Type 0 where
  pub saved : bit_of d p ≡ true
  pub cut : length file - page_place d.shape.pages p < PAGE

-- the buffer has the page, or the file ends in it
abbrev pub Peeks : List ℕ → PeekData → ℕ → List ℕ → Result (Unit {0}) PageFault → Type 0
Peeks file d p into (Ok done) = (into ≡ page_in file d p) × ¬ IsCutPage file d p
Peeks file d p into (Err (pages.Truncated at)) = IsCutPage file d p
Peeks file d p into (Err pages.ReadFault) = ⊤
