-- The writes of a save and what a crash leaves of them (this project's own order of writes, docs/FILE_FORMAT.md).
use Rattle.std.specs.Prelude.{◌≡◌, ◌⊎◌, ℕ, ◌≤◌, Bool, true, false, ◌==◌, List, ◌++◌, length, slice_get, Option, Some, option_map}
use Rattle.std.specs.Int.{from_le_bytes, w64}
use Rattle.std.specs.List.{list_all}
use Rattle.medium.specs.Bytes.{written, BecomesTold}
use Rattle.medium.specs.Count.{HasRisen}
use Rattle.medium.specs.Crash.{Torn, Follows, Elapses, LeavesOnly}
use Rattle.medium.specs.States.{FileState}
use Rattle.flat_machine.specs.Machine.{MachineData}
use Rattle.file_plan.specs.Layout.{Lay, tail_text}
use Rattle.bg_saver.specs.Saver.{SaverData}

abbrev pub is_zeros : List ℕ → Bool
is_zeros bytes = list_all (λ b. b == 0) bytes

-- whether a word of eight bytes is 0
abbrev pub is_zero_word : List ℕ → Bool
is_zero_word word = from_le_bytes w64 word == 0

-- ---- One write

-- the bytes that are told, where the write went well, and where it failed
abbrev pub BecomesWritten : ℕ → List ℕ → Bool → Option (List ℕ) → Option (List ℕ) → Type 0
BecomesWritten at bytes true old new = new ≡ option_map (written at bytes) old
BecomesWritten at bytes false old new = BecomesTold (Torn at (length bytes)) old new

-- what one write leaves, and no other call; it failed only where the count of faults rose
pub record LeavesWrite (at : ℕ) (bytes : List ℕ) (went_well : Bool) (old new : FileState) : Type 0 where
  pub told : BecomesWritten at bytes went_well old.told new.told
  pub never_falls : old.faults ≤ new.faults
  pub rose : went_well ≡ false → HasRisen old.faults new.faults
  pub syncs : new.syncs ≡ old.syncs
  pub images : Follows (Torn at (length bytes)) old.may_leave new.may_leave
  pub time : Elapses old.moment new.moment old.left_since new.left_since new.may_leave

-- what stands behind the last block's pages
abbrev pub whole_tail : SaverData → List ℕ
whole_tail d = tail_text ++ d.devices

-- ---- What a crash leaves

-- a file that no machine has
abbrev pub IsRefused : List ℕ → Type 0
IsRefused file = (m : MachineData) → Lay file m → ⊥

-- the gate byte is shut
abbrev pub IsShut : List ℕ → Type 0
IsShut file = slice_get file 0 ≡ Some 0

-- a crash now leaves a file whose gate byte is shut
abbrev pub IsShutNow : FileState → Type 0
IsShutNow file = (image : List ℕ) → file.may_leave image → IsShut image

-- each image since then has P
abbrev pub LeavesSince : FileState → FileState → (List ℕ → Type 0) → Type 0
LeavesSince old new P = LeavesOnly old.moment new.moment old.left_since new.left_since P

-- a file that is refused, or that of the machine
abbrev pub IsRefusedOr : MachineData → List ℕ → Type 0
IsRefusedOr i file = IsRefused file ⊎ Lay file i
