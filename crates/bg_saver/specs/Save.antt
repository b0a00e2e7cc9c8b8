-- A save of a machine under way: the saver, the plant that it takes pages from, and the file that it writes (this
-- project's own order of writes, docs/FILE_FORMAT.md).
use Rattle.std.specs.Prelude.{◌≡◌, ℕ, ◌+◌, ◌<◌, not, Bool, true, false, ◌&&◌, List, [], ◌∷◌, replicate, slice_get, Option, Some, None, IfSome}
use Rattle.std.specs.List.{range_with_len}
use Rattle.ram_block.specs.PageLinks.{is_listed}
use Rattle.ram_block.specs.Shape.{total_pages_of}
use Rattle.ram_block.specs.declared.page_buf.TheConstants.{PAGE}
use Rattle.medium.specs.Crash.{Only}
use Rattle.medium.specs.States.{FileState}
use Rattle.flat_machine.specs.Machine.{MachineData, IsMachine, Rest}
use Rattle.device_state.specs.DeviceText.{Two, device_text}
use Rattle.page_cell.specs.Plant.{PlantState, pages_of}
use Rattle.file_plan.specs.Layout.{file_of, is_saved}
use Rattle.file_plan.specs.Plan.{page_place}
use Rattle.file_plan.specs.UnderWay.{IsLaidSoFar}
use Rattle.bg_saver.specs.Saver.{SaverData, total_of}
use Rattle.bg_saver.specs.Writes.{IsShutNow}
use Rattle.bg_saver.specs.declared.progress.PageInHand.{PageInHand}
use Rattle.bg_saver.specs.declared.save_end.SaveEnd.TheVariants.{Failed}

-- The saver saves this machine: a bit is set exactly for a page that isn't left and isn't all zeros.
pub record Saves (d : SaverData) (i : MachineData) : Type 0 where
  pub machine : IsMachine i
  pub rest : Rest i
  pub shape : d.shape ≡ i.shape
  pub devices : d.devices ≡ device_text Two i
  pub bits : (p : ℕ) → p < total_of d → slice_get d.bits p ≡ Some (not (is_listed d.left p) && is_saved i p)

-- a page in hand that a pick gave has this flag
abbrev pub IsAmong : List Bool → Option PageInHand → Type 0
IsAmong picked hand = IfSome hand (λ h. h.picked ≡ true → slice_get picked h.page ≡ Some true)

-- The plant is that of this save: until the end its writable pages are those that aren't left.
pub record IsOfSave {R : Type 0} (d : SaverData) (plant : PlantState R) : Type 0 where
  pub fits : plant.fits
  pub total : plant.total ≡ total_of d
  pub writable : d.end ≡ None → (p : ℕ) → p < total_of d → slice_get plant.writable p ≡ Some (not (is_listed d.left p))
  pub picked : (p : ℕ) → slice_get d.faulted p ≡ Some true → slice_get plant.picked p ≡ Some true
  pub hand : IsAmong plant.picked d.hand

-- the place and the length of each page whose bit is set, from this page on
abbrev pub ranges_from : ℕ → ℕ → List Bool → List (ℕ × ℕ)
ranges_from pages p [] = []
ranges_from pages p (true ∷ bits) = (page_place pages p, PAGE) ∷ ranges_from pages (p + 1) bits
ranges_from pages p (false ∷ bits) = ranges_from pages (p + 1) bits

-- the ranges of the pages that were written
abbrev pub ranges_of : SaverData → List (ℕ × ℕ)
ranges_of d = ranges_from d.shape.pages 0 d.bits

-- The save of this machine is under way: the plant stands for its pages; the file, where it is told, has the pages
-- that were written, and its gate byte is shut, also where a crash comes now.
pub record IsUnderWay {R : Type 0} (d : SaverData) (i : MachineData) (plant : PlantState R) (file : FileState) : Type 0 where
  pub runs : d.end ≡ None
  pub saves : Saves d i
  pub stands : plant.stands (pages_of i)
  pub told : IfSome file.told (λ bytes. IsLaidSoFar bytes i (ranges_of d))
  pub shut : IfSome file.told (λ bytes. IsShutNow file)

-- the saver of a machine before its first call: all pages are left
abbrev pub saver_at : MachineData → SaverData
saver_at i = record {
  shape = i.shape;
  devices = device_text Two i;
  bits = replicate (total_pages_of i.shape) false;
  left = range_with_len 0 (total_pages_of i.shape);
  hand = None;
  end = None;
  counts = record { faults = 0; sweep = 0 };
  faulted = replicate (total_pages_of i.shape) false;
}

-- which saves the machine
pub record IsBeforeAll (d : SaverData) (i : MachineData) : Type 0 where
  pub saver : d ≡ saver_at i
  pub saves : Saves d i

-- The saver has just begun on this machine with this file, of which the gate byte is written, and shut.
pub record HasJustBegun (d : SaverData) (i : MachineData) (file : FileState) : Type 0 where
  pub saver : IsBeforeAll d i
  pub told : IfSome file.told (λ bytes. (bytes ≡ 0 ∷ []) × Only (0 ∷ []) file.may_leave)

-- no page is writable
abbrev pub IsAllProtected : {R : Type 0} → PlantState R → Type 0
IsAllProtected plant = plant.writable ≡ replicate plant.total false

-- the plant is that of a save which hasn't moved yet
pub record IsAtInstant {R : Type 0} (i : MachineData) (plant : PlantState R) : Type 0 where
  pub fits : plant.fits
  pub total : plant.total ≡ total_pages_of i.shape
  pub protected : IsAllProtected plant
  pub stands : plant.stands (pages_of i)

-- after a failure each page that isn't left is writable
pub record MayRelease {R : Type 0} (d : SaverData) (plant : PlantState R) : Type 0 where
  pub end : d.end ≡ Some Failed
  pub fits : plant.fits
  pub total : plant.total ≡ total_of d
  pub writable : (p : ℕ) → p < total_of d → is_listed d.left p ≡ false → slice_get plant.writable p ≡ Some true

-- the file, which told its bytes, is that of the machine, and a crash now leaves nothing else
abbrev pub IsWhole : MachineData → Option (List ℕ) → FileState → Type 0
IsWhole i told file = IfSome told (λ before. (file.told ≡ Some (file_of i)) × Only (file_of i) file.may_leave)
