-- What the begin of a save leaves, by its answer (this project's own order of writes, docs/FILE_FORMAT.md).
use Rattle.std.specs.Prelude.{◌≡◌, ◌<◌, ◌≤◌, ℕ, List, [], length, Result, Ok, Err, IfSome}
use Rattle.medium.specs.Bytes.{BecomesTold}
use Rattle.medium.specs.Count.{HasRisen, counted}
use Rattle.medium.specs.Crash.{Torn}
use Rattle.medium.specs.States.{FileState, Leaves}
use Rattle.flat_machine.specs.Machine.{MachineData}
use Rattle.bg_saver.specs.Saver.{SaverData, IsSaver}
use Rattle.bg_saver.specs.Save.{HasJustBegun}
use Rattle.bg_saver.specs.Writes.{IsRefused}
use Rattle.bg_saver.specs.declared.save_fault.SaveFault.{SaveFault}
use Rattle.bg_saver.specs.declared.save_fault.SaveFault.TheVariants.{FileFault, NotEmpty, NoMemory}

-- an empty file has the shut gate byte, once and durably
pub record Begins (i : MachineData) (old new : FileState) (d : SaverData) : Type 0 where
  pub begun : HasJustBegun d i new
  pub empty : IfSome old.told (λ bytes. bytes ≡ [])
  pub syncs : new.syncs ≡ counted old.syncs
  pub never_falls : old.faults ≤ new.faults
  pub limits : IsSaver d

-- a call failed: at most the gate byte was written, and a file that had bytes was only looked at
pub record FailsToBegin (old new : FileState) : Type 0 where
  pub rose : HasRisen old.faults new.faults
  pub syncs : new.syncs ≡ old.syncs
  pub told : BecomesTold (Torn 0 1) old.told new.told
  pub full : IfSome old.told (λ bytes. 0 < length bytes → Leaves old new)

-- a file that has bytes was only looked at
pub record IsNotEmpty (len : ℕ) (old new : FileState) : Type 0 where
  pub some : 0 < len
  pub answer : IfSome old.told (λ bytes. len ≡ length bytes)
  pub leaves : Leaves old new

abbrev pub LeavesBegin : MachineData → (same_file : Type 0) → FileState → FileState → Result SaverData SaveFault → Type 0
LeavesBegin i same_file old new (Ok d) = Begins i old new d
LeavesBegin i same_file old new (Err FileFault) = FailsToBegin old new
LeavesBegin i same_file old new (Err (NotEmpty len)) = IsNotEmpty len old new
LeavesBegin i same_file old new (Err NoMemory) = same_file

-- an image before the begin, as it was or with the gate byte in some way
abbrev pub IsTornGate : FileState → List ℕ → Type 0
IsTornGate old image = (before : List ℕ) × old.may_leave before × Torn 0 1 before image

-- at most one byte, and so no file of a machine
abbrev pub IsFirstByte : List ℕ → Type 0
IsFirstByte image = (length image ≤ 1) × IsRefused image
