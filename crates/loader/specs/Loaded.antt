-- The machine of which a file is a layout, or the first refusal (this project's own, docs/FILE_FORMAT.md).
use Rattle.std.specs.Prelude.{◌≡◌, ℕ, ◌+◌, Bool, List, [], ◌∷◌, ◌++◌, take, drop, Option, Some, None, Result, Ok, Err, if◌then◌else◌}
use Rattle.ram_block.specs.Page.{zero_page}
use Rattle.ram_block.specs.declared.page_buf.TheConstants.{PAGE}
use Rattle.mig_stream.specs.Checks.{and_then}
use Rattle.page_bitmap.specs.Bitmap.{BitmapData}
use Rattle.flat_machine.specs.Machine.{MachineData}
use Rattle.flat_machine.specs.Page.{joined}
use Rattle.file_plan.specs.Layout.{Lay}
use Rattle.file_plan.specs.Plan.{block_places}
use Rattle.loader.specs.Frame.{FrameData, frame_in}
use Rattle.loader.specs.declared.refusal.Refusal.{Refusal}

-- a page by its bit: the bytes at its place, or zeros
abbrev pub page_by : List ℕ → ℕ → Bool → List ℕ
page_by file at bit = if bit then take PAGE (drop at file) else zero_page

-- the pages of a block by their bits, of which the first stands at the place
abbrev pub block_pages : List ℕ → ℕ → List Bool → List (List ℕ)
block_pages file at [] = []
block_pages file at (bit ∷ bits) = page_by file at bit ∷ block_pages file (at + PAGE) bits

-- the pages of the blocks from this one on, each of so many
abbrev pub pages_from : List ℕ → ℕ → ℕ → List BitmapData → List (List ℕ)
pages_from file pages block [] = []
pages_from file pages block (bitmap ∷ bits) = block_pages file (block_places pages block).pages bitmap.bits ++ pages_from file pages (block + 1) bits

-- the machine of a frame, with its pages
abbrev pub machine_of : List ℕ → FrameData → MachineData
machine_of file frame = record {
  shape = frame.shape;
  ram = joined (pages_from file frame.shape.pages 0 frame.bits);
  vcpus = frame.devices.vcpus;
  serial = frame.devices.serial;
  cmp = frame.devices.cmp;
  clock = frame.devices.clock;
}

-- what is loaded of a file
unfoldable pub loaded : List ℕ → Result MachineData Refusal
loaded file = and_then (frame_in file) (λ frame. Ok (machine_of file frame))

-- why a file is a layout of no machine, where it is one of none
abbrev pub refusal_in : Result MachineData Refusal → Option Refusal
refusal_in (Ok machine) = None
refusal_in (Err refusal) = Some refusal

abbrev pub refusal : List ℕ → Option Refusal
refusal file = refusal_in (loaded file)

-- the file is a layout of the machine that is loaded of it
pub record IsLoaded (file : List ℕ) : Type 0 where
  pub machine : MachineData
  pub layout : Lay file machine
  pub loads : loaded file ≡ Ok machine
