-- What a file says of the shape of its machine and of its bitmaps, by places, or the first head piece that is refused
-- (this project's own file layout, docs/FILE_FORMAT.md).
use Rattle.std.specs.Prelude.{ℕ, zero, suc, ◌+◌, ◌-◌, ◌<◌, ◌≤◌, nat_lt, List, ◌++◌, length, Option, Some, None, Result, Ok, Err, if◌then◌else◌}
use Rattle.ram_block.specs.Shape.{ShapeData}
use Rattle.page_bitmap.specs.Bitmap.{byte_len_of}
use Rattle.mig_stream.specs.Pieces.{text_in}
use Rattle.mig_stream.specs.declared.text_fault.TextFault.{TextFault}
use Rattle.mig_stream.specs.declared.text_fault.TextFault.TheVariants as texts
use Rattle.file_plan.specs.Layout.{LaysShape, front_part, record_text}
use Rattle.file_plan.specs.Plan.{block_places, head_len_of, head_place}
use Rattle.page_peek.specs.declared.fault.PeekRefusal.{PeekRefusal}
use Rattle.page_peek.specs.declared.fault.PeekRefusal.TheVariants.{Truncated, Differs}

-- The file has the front and the records of a layout of this shape, and doesn't end in a bitmap.
pub record Heads (file : List ℕ) (s : ShapeData) : Type 0 where
  pub shape : LaysShape file s
  pub bitmaps : (block : ℕ) → block < s.blocks → (block_places s.pages block).bitmap + byte_len_of s.pages ≤ length file

-- what a head piece has before its bitmap: for the first block the front of the file, then the record
unfoldable pub fixed_text : ShapeData → ℕ → List ℕ
fixed_text s block = front_part s block ++ record_text s block

-- the first byte of a text that is another
abbrev pub refused_text : ℕ → Result (Unit {0}) TextFault → Option PeekRefusal
refused_text at (Ok same) = None
refused_text at (Err (texts.Differs place found)) = Some (Differs place found)
refused_text at (Err (texts.Field fault)) = Some (Truncated at)

-- why the head piece of a block is refused, where it is: the file ends in it, or a byte before the bitmap is another
unfoldable pub head_refusal : List ℕ → ShapeData → ℕ → Option PeekRefusal
head_refusal file s block =
    let at = head_place s block in
    if nat_lt (length file - at) (head_len_of s.pages block) then Some (Truncated at) else refused_text at (text_in file at (fixed_text s block))

-- the first of two refusals
abbrev pub or_else : Option PeekRefusal → Option PeekRefusal → Option PeekRefusal
or_else (Some refusal) later = Some refusal
or_else None later = later

-- the first refusal of so many head pieces from this block on
unfoldable pub refusal_from : List ℕ → ShapeData → ℕ → ℕ → Option PeekRefusal
refusal_from file s block zero = None
refusal_from file s block (suc n) = or_else (head_refusal file s block) (refusal_from file s (block + 1) n)

-- the first refusal of the head pieces of all blocks
abbrev pub heads_refusal : List ℕ → ShapeData → Option PeekRefusal
heads_refusal file s = refusal_from file s 0 s.blocks
