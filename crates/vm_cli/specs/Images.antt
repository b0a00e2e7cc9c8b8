-- What a crash at any moment of a job may have left of its output (this project's own, docs/PROMISES.md).
use Rattle.std.specs.Prelude.{◌≡◌, ◌⊎◌, List, [], ℕ, Option, Some, None}
use Rattle.flat_machine.specs.Machine.{MachineData}
use Rattle.medium.specs.Crash.{Only}
use Rattle.medium.specs.States.{FileState}
use Rattle.file_plan.specs.Layout.{Lay}

-- the image is a layout of the machine that was to be saved, where there is one, or of no machine, so that it is refused
abbrev pub IsOfInstant : Option MachineData → List ℕ → Type 0
IsOfInstant None image = ⊥
IsOfInstant (Some instant) image = Lay image instant ⊎ ((m : MachineData) → Lay image m → ⊥)

-- each image since the start is one that a crash at the start could leave, or one of that machine
abbrev pub IsCrashSafe : Option MachineData → FileState → FileState → Type 0
IsCrashSafe instant old new = (image : List ℕ) → new.left_since old.moment image → old.may_leave image ⊎ IsOfInstant instant image

-- the file is empty, and nothing is pending on it: a crash now would leave it empty
pub record IsEmptyFile (file : FileState) : Type 0 where
  pub told : file.told ≡ Some []
  pub only : Only [] file.may_leave
