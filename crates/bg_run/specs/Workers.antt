-- What the workers of a phase leave of their passes (this project's own, docs/ARCHITECTURE.md).
use Rattle.std.specs.Prelude.{◌≡◌, ℕ, ◌<◌, true, List, [], length, get_or, slice_get, Some}
use Rattle.flat_machine.specs.Machine.{MachineData}
use Rattle.flat_machine.specs.Run.{vcpu_ended}
use Rattle.page_bus.specs.Passes.{BusData, SaverPassData, VcpuPassData, book_of, saver_key, task_of, vcpu_key}
use Rattle.page_bus.specs.Plant.{end_state}
use Rattle.page_bus.specs.Saves.{pages_of_book}
use Rattle.bg_saver.specs.Saver.{IsSaver, SaverData}
use Rattle.bg_saver.specs.Save.{IsOfSave, MayRelease}
use Rattle.bg_saver.specs.declared.save_end.SaveEnd.{SaveEnd}
use Rattle.bg_saver.specs.declared.save_end.SaveEnd.TheVariants.{Complete, Failed}

-- ---- The vCPUs

-- the phase of the pass's vCPU has ended
abbrev pub IsOver : VcpuPassData → Type 0
IsOver d = vcpu_ended (task_of d.view).until (task_of d.view).vcpu ≡ true

-- the pass is that of the same vCPU, and its phase has ended
pub record IsStepped (old new : VcpuPassData) : Type 0 where
  pub key : vcpu_key new ≡ vcpu_key old
  pub over : IsOver new

-- and so is each of these
pub record AreStepped (old new : List VcpuPassData) : Type 0 where
  pub count : length new ≡ length old
  pub each : (k : ℕ) (d : VcpuPassData) → k < length old → IsStepped (get_or old k d) (get_or new k d)

-- ---- The saver

-- the machine at the start of the pass's bus
abbrev pub instant_of : SaverPassData → MachineData
instant_of d = (book_of d.view).instant

-- every page is writable
abbrev pub IsReleased : SaverPassData → Type 0
IsReleased d = (p : ℕ) → p < pages_of_book (book_of d.view) → slice_get (book_of d.view).writable p ≡ Some true

-- the bus is the same, and so is what no call changes of the pass; and the saver is one of this bus
pub record KeepsSaving (bus : BusData) (old : SaverPassData) (now : BusData) (new : SaverPassData) (saver : SaverData) : Type 0 where
  pub same_bus : now ≡ bus
  pub key : saver_key new ≡ saver_key old
  pub save : IsOfSave saver (end_state now new)

-- how a save stands behind its last turn: complete, every page is writable; after a failure those that aren't left are
abbrev pub HasTurned : SaveEnd → BusData → SaverPassData → SaverData → Type 0
HasTurned Complete bus d saver = (saver.left ≡ []) × IsReleased d
HasTurned Failed bus d saver = MayRelease saver (end_state bus d)

-- the turns ended the save so
pub record EndsTurns (bus : BusData) (old : SaverPassData) (end : SaveEnd) (now : BusData) (new : SaverPassData) (saver : SaverData) : Type 0 where
  pub keeps : KeepsSaving bus old now new saver
  pub limits : IsSaver saver
  pub ended : saver.end ≡ Some end
  pub turned : HasTurned end now new saver

-- every page left was released, and the saver is otherwise as it was
pub record Releases (bus : BusData) (old : SaverPassData) (before : SaverData) (now : BusData) (new : SaverPassData) (saver : SaverData) : Type 0 where
  pub keeps : KeepsSaving bus old now new saver
  pub limits : IsSaver saver
  pub only : saver ≡ record before { left = [] }
  pub released : IsReleased new

-- the save has ended so, and every page is writable
pub record EndsSave (bus : BusData) (old : SaverPassData) (end : SaveEnd) (now : BusData) (new : SaverPassData) (saver : SaverData) : Type 0 where
  pub keeps : KeepsSaving bus old now new saver
  pub limits : IsSaver saver
  pub ended : saver.end ≡ Some end
  pub left : saver.left ≡ []
  pub released : IsReleased new
