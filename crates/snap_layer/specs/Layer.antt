-- A layer, and the machine to which a base machine and a layer join (this project's own, docs/FILE_FORMAT.md, Layers).
use Rattle.std.specs.Prelude.{◌≡◌, ◌≢◌, ℕ, ◌+◌, ◌<◌, ◌≤◌, Bool, not, List, [], ◌∷◌, ◌++◌, length, All}
use Rattle.std.specs.List.{filter, flat_map, range_with_len}
use Rattle.std.specs.Str.{bytes_eq}
use Rattle.ram_block.specs.Shape.{total_pages_of}
use Rattle.mig_stream.specs.Text.{be32, be64}
use Rattle.flat_machine.specs.Machine.{IsMachine, MachineData, Rest, page_of}
use Rattle.device_state.specs.DeviceText.{SerialVersion, Two, HasVersion, device_text}
use Rattle.flat_machine.specs.Sum.{ram_sum}
use Rattle.snap_layer.specs.declared.format.TheConstants.{MAGIC, VERSION}

-- the base that a layer asks for, by its shape, its clock and the sum of its RAM
unfoldable pub base_text : MachineData → List ℕ
base_text base = be32 base.shape.blocks ++ (be32 base.shape.pages ++ (be64 base.clock ++ be64 (ram_sum base)))

-- a page of the machine behind its number
abbrev pub page_text : MachineData → ℕ → List ℕ
page_text m p = be32 p ++ page_of m p

-- all that stands before the pages: magic and version, the base, and how many pages there are
unfoldable pub front_text : MachineData → ℕ → List ℕ
front_text base count = be32 MAGIC ++ (be32 VERSION ++ (base_text base ++ be32 count))

-- the layer that has these pages of the machine: the front, each page, and the device text
unfoldable pub layer_text : SerialVersion → MachineData → MachineData → List ℕ → List ℕ
layer_text version base m pages = front_text base (length pages) ++ (flat_map (page_text m) pages ++ device_text version m)

-- whether the machines differ in page p, counted over all blocks
abbrev pub differs : MachineData → MachineData → ℕ → Bool
differs base m p = not (bytes_eq (page_of base p) (page_of m p))

-- the pages in which they differ, ascending
abbrev pub changed_pages : MachineData → MachineData → List ℕ
changed_pages base m = filter (differs base m) (range_with_len 0 (total_pages_of m.shape))

-- the layer that is written: it has exactly these pages
abbrev pub layer_of : MachineData → MachineData → List ℕ
layer_of base m = layer_text Two base m (changed_pages base m)

-- page numbers that ascend, none below the least and all below the total
abbrev pub AreAscending : ℕ → ℕ → List ℕ → Type 0
AreAscending least total [] = Unit {0}
AreAscending least total (p ∷ pages) = (least ≤ p) × (p < total) × AreAscending (p + 1) total pages

-- Base and layer join to the machine: it is at rest and has the base's shape, and the layer is the machine's with any
-- ascending pages. The machine's other pages are the base's.
pub record Joined (base : MachineData) (layer : List ℕ) (m : MachineData) : Type 0 where
  pub machine : IsMachine m
  pub rest : Rest m
  pub shape : m.shape ≡ base.shape
  pub pages : List ℕ
  pub ascending : AreAscending 0 (total_pages_of base.shape) pages
  pub others : (p : ℕ) → p < total_pages_of base.shape → All (λ q. q ≢ p) pages → page_of m p ≡ page_of base p
  pub text : (version : SerialVersion) × HasVersion version m × (layer ≡ layer_text version base m pages)
