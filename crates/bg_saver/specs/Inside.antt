-- What a saver holds of a save, as plain data (this project's own, docs/ARCHITECTURE.md).
use Rattle.std.specs.Prelude.{◌≡◌, ℕ, ◌≤◌, ◌^◌, Bool, List, [], ◌∷◌, ◌++◌, length, drop, All}
use Rattle.ram_block.specs.Shape.{total_pages_of}
use Rattle.page_bitmap.specs.Bitmap.{BitmapData}
use Rattle.file_plan.specs.Layout.{tail_text}
use Rattle.file_plan.specs.declared.format.TheConstants.{TAIL_LEN}
use Rattle.bg_saver.specs.Saver.{SaverData, IsSaver}
use Rattle.bg_saver.specs.declared.progress.Progress.TheInside.{Inside}

-- the bits of all blocks
abbrev pub joined_bits : List BitmapData → List Bool
joined_bits [] = []
joined_bits (b ∷ bitmaps) = b.bits ++ joined_bits bitmaps

-- the devices stand behind the rest of the tail
abbrev pub progress_of : Inside → SaverData
progress_of s = record {
  shape = s.shape;
  devices = drop TAIL_LEN s.tail.items;
  bits = joined_bits s.bitmaps.items;
  left = s.sweep.list;
  hand = s.hand;
  end = s.end;
  counts = s.counts;
  faulted = s.faulted.items;
}

-- a bitmap of a block with so many pages
pub record IsOfBlock (count : ℕ) (b : BitmapData) : Type 0 where
  pub pages : b.pages ≡ count
  pub bits : length b.bits ≡ count

-- one bitmap for each block, a sweep over all pages, and the tail's text
pub record IsInside (s : Inside) : Type 0 where
  pub saver : IsSaver (progress_of s)
  pub blocks : length s.bitmaps.items ≡ s.shape.blocks
  pub each : All (IsOfBlock s.shape.pages) s.bitmaps.items
  pub pages : s.sweep.pages ≡ total_pages_of s.shape
  pub tail : s.tail.items ≡ tail_text ++ drop TAIL_LEN s.tail.items
  pub short : length s.tail.items ≤ 2 ^ 30
