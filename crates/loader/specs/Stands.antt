-- What stands in a file whose pieces passed their checks, by places (this project's own, docs/FILE_FORMAT.md).
use Rattle.std.specs.Prelude.{◌≡◌, ℕ, ◌+◌, ◌*◌, ◌<◌, ◌≤◌, List, ◌∷◌, length, All, Result, Ok, Err}
use Rattle.ram_block.specs.Shape.{IsShape, ram_bytes_of}
use Rattle.device_state.specs.DeviceText.{AreDevices, DevicesData}
use Rattle.device_state.specs.Reader.{Stands, told_of}
use Rattle.page_bitmap.specs.Bitmap.{BitmapData}
use Rattle.ram_block.specs.declared.page_buf.TheConstants.{PAGE}
use Rattle.mig_stream.specs.Text.{be32, be64, footer_text, part_text}
use Rattle.mapped_ram_header.specs.Header.{header_bytes}
use Rattle.mig_stream.specs.declared.put.TheConstants.{END}
use Rattle.file_plan.specs.Layout.{StandsAt, block_name, configuration_text}
use Rattle.file_plan.specs.Plan.{record_place, block_places}
use Rattle.file_plan.specs.declared.format.TheConstants.{MAGIC, STREAM_VERSION, RAM_SECTION, RAM_VERSION, TOTAL_FLAG, END_FLAG, TAIL_LEN}
use Rattle.loader.specs.Frame.{FrameData, RamData, ram_header}
use Rattle.loader.specs.Piece.{Refuses}
use Rattle.loader.specs.declared.file_frame.Frame.{Frame}
use Rattle.loader.specs.declared.ram.Ram.{Ram}
use Rattle.loader.specs.declared.refusal.LoadFault.{LoadFault}
use Rattle.loader.specs.declared.refusal.Refusal.{Refusal}

-- the front, up to the first header of the section of RAM
pub record HasStream (file : List ℕ) : Type 0 where
  pub magic : StandsAt file 0 (be32 MAGIC)
  pub version : StandsAt file 4 (be32 STREAM_VERSION)
  pub configuration : StandsAt file 8 configuration_text

pub record HasTotal (file : List ℕ) (bytes : ℕ) : Type 0 where
  pub header : StandsAt file 22 ram_header
  pub version : StandsAt file 35 (be32 RAM_VERSION)
  pub total : StandsAt file 39 (be64 (bytes + TOTAL_FLAG))

-- the header of a block
unfoldable pub HasHeader : List ℕ → ℕ → ℕ → Type 0
HasHeader file pages block = StandsAt file (block_places pages block).header (header_bytes (block_places pages block))

-- the name and the used length of a block whose record begins at the place
pub record HasUsed (file : List ℕ) (block at v : ℕ) : Type 0 where
  pub name : StandsAt file at (length (block_name block) ∷ block_name block)
  pub used : StandsAt file (at + 5) (be64 v)

-- what a tail has
pub record HasTail (file : List ℕ) (at : ℕ) : Type 0 where
  pub first : StandsAt file at (be64 END_FLAG)
  pub first_footer : StandsAt file (at + 8) (footer_text RAM_SECTION)
  pub end : StandsAt file (at + 13) (part_text END RAM_SECTION)
  pub second : StandsAt file (at + 18) (be64 END_FLAG)
  pub second_footer : StandsAt file (at + 26) (footer_text RAM_SECTION)

-- a block's record
pub record HasBlock (file : List ℕ) (pages block : ℕ) : Type 0 where
  pub used : HasUsed file block (record_place pages block) (PAGE * pages)
  pub header : HasHeader file pages block

-- the records of so many blocks, and of those behind the first one
abbrev pub HasBlocks : List ℕ → ℕ → ℕ → Type 0
HasBlocks file pages blocks = (block : ℕ) → block < blocks → HasBlock file pages block

abbrev pub HasLater : List ℕ → ℕ → ℕ → Type 0
HasLater file pages blocks = (block : ℕ) → 0 < block → block < blocks → HasBlock file pages block

-- a step from block to block: what is left to read goes on from here, or the step found the refusal
abbrev pub GoesOn : Result (List BitmapData) Refusal → Result (List BitmapData) Refusal → Result (Unit {0}) LoadFault → Type 0
GoesOn before after (Ok done) = before ≡ after
GoesOn before after (Err fault) = Refuses before fault

-- what a reader's ram says
abbrev pub says_ram : Ram → RamData
says_ram ram = record { pages = ram.shape.pages; bits = ram.bits.items }

-- the file ends with a device text of these devices, which begins at the place
pub record EndsWith (file : List ℕ) (at : ℕ) (d : DevicesData) : Type 0 where
  pub end : ℕ
  pub stands : Stands file at end d
  pub last : length file ≤ end

-- what stands behind the pages
pub record HasLast (file : List ℕ) (at : ℕ) (d : DevicesData) : Type 0 where
  pub tail : HasTail file at
  pub devices : EndsWith file (at + TAIL_LEN) d

-- what a frame was read from
pub record HasFrame (file : List ℕ) (frame : FrameData) : Type 0 where
  pub stream : HasStream file
  pub total : HasTotal file (ram_bytes_of frame.shape)
  pub blocks : HasBlocks file frame.shape.pages frame.shape.blocks
  pub last : HasLast file (record_place frame.shape.pages frame.shape.blocks) frame.devices

-- what a reader's frame says
abbrev pub says_frame : Frame → FrameData
says_frame frame = record { shape = frame.shape; bits = frame.bits.items; devices = told_of frame.devices }

-- within the limits: a bitmap of the shape's pages for each block, and vCPUs and devices of a machine at rest
pub record IsFrame (frame : FrameData) : Type 0 where
  pub shape : IsShape frame.shape
  pub blocks : length frame.bits ≡ frame.shape.blocks
  pub pages : All (λ b. b.pages ≡ frame.shape.pages) frame.bits
  pub vcpus : length frame.devices.vcpus ≡ frame.shape.vcpus
  pub devices : AreDevices frame.devices
