-- A file of which no page with a set bit is cut (this project's own, docs/FILE_FORMAT.md).
use Rattle.std.specs.Prelude.{◌≡◌, ℕ, ◌+◌, List, [], ◌∷◌, length, None, Ok}
use Rattle.page_bitmap.specs.Bitmap.{BitmapData}
use Rattle.file_plan.specs.Plan.{block_places}
use Rattle.loader.specs.Frame.{bitmap_in, cut_page}

-- the bitmap of a block, and its pages
pub record IsWhole (file : List ℕ) (pages block : ℕ) (bitmap : BitmapData) : Type 0 where
  pub bits : bitmap_in file pages (block_places pages block).bitmap ≡ Ok bitmap
  pub uncut : cut_page (length file) (block_places pages block).pages bitmap.bits ≡ None

-- the blocks from this one on
abbrev pub AreWhole : List ℕ → ℕ → ℕ → List BitmapData → Type 0
AreWhole file pages block [] = Unit {0}
AreWhole file pages block (bitmap ∷ bits) = IsWhole file pages block bitmap × AreWhole file pages (block + 1) bits
