-- What a saver shows, and what each one keeps (this project's own, docs/ARCHITECTURE.md).
use Rattle.std.specs.Prelude.{◌≡◌, ℕ, ◌+◌, ◌*◌, ◌<◌, ◌≤◌, Bool, true, false, List, length, take, drop, slice_get, Option, Some, IfSome}
use Rattle.std.specs.List.{count_by}
use Rattle.ram_block.specs.PageLinks.{is_listed}
use Rattle.ram_block.specs.Shape.{ShapeData, IsShape, total_pages_of}
use Rattle.page_sweep.specs.Sweep.{IsSweep}
use Rattle.bg_saver.specs.declared.counts.Counts.{Counts}
use Rattle.bg_saver.specs.declared.progress.PageInHand.{PageInHand}
use Rattle.bg_saver.specs.declared.save_end.SaveEnd.{SaveEnd}
use Rattle.bg_saver.specs.declared.save_end.SaveEnd.TheVariants.{Failed}

-- the shape of the machine and its device text; a bit for each page, counted over all blocks; the pages left, in
-- ascending order; the page in hand; how the save ended; the counts, and a flag for each page that `faults` counts
pub record SaverData : Type 0 where
  pub shape : ShapeData
  pub devices : List ℕ
  pub bits : List Bool
  pub left : List ℕ
  pub hand : Option PageInHand
  pub end : Option SaveEnd
  pub counts : Counts
  pub faulted : List Bool

abbrev pub total_of : SaverData → ℕ
total_of d = total_pages_of d.shape

-- the bits of one block
abbrev pub block_bits : SaverData → ℕ → List Bool
block_bits d block = take d.shape.pages (drop (d.shape.pages * block) d.bits)

-- What each saver keeps. Each page is left or was copied; until a failure each one that was copied is counted.
pub record IsSaver (d : SaverData) : Type 0 where
  pub shape : IsShape d.shape
  pub bits : length d.bits ≡ total_of d
  pub sweep : IsSweep (record { pages = total_of d; list = d.left })
  pub hand : IfSome d.hand (λ hand. hand.page < total_of d)
  pub faulted : length d.faulted ≡ total_of d
  pub faults : d.counts.faults ≡ count_by (λ flag. flag) d.faulted
  pub copied : (p : ℕ) → slice_get d.faulted p ≡ Some true → is_listed d.left p ≡ false
  pub most : d.counts.faults + d.counts.sweep + length d.left ≤ total_of d
  pub all : (d.end ≡ Some Failed → ⊥) → d.counts.faults + d.counts.sweep + length d.left ≡ total_of d
