-- A run of a machine that is restored page by page, beside a run without a file (this project's own,
-- docs/ARCHITECTURE.md).
use Rattle.std.specs.Prelude.{◌≡◌, ℕ, List, Option, Some, None, IfSome}
use Rattle.flat_machine.specs.Machine.{MachineData}
use Rattle.flat_machine.specs.Run.{Progress, rounds, run}
use Rattle.flat_machine.specs.Touched.{touched}
use Rattle.lazy_restore.specs.Lazy.{IsWhole, LazyData, shown}
use Rattle.loader.specs.declared.refusal.Refusal.TheVariants.{Truncated}
use Rattle.medium.specs.Count.{HasRisen}
use Rattle.medium.specs.States.{FileState}
use Rattle.page_peek.specs.declared.fault.PageFault.{PageFault}
use Rattle.page_peek.specs.declared.fault.PageFault.TheVariants as pages
use Rattle.vm_cli.specs.declared.answer.Fault.{Fault}
use Rattle.vm_cli.specs.declared.answer.Fault.TheVariants as faults

-- no page of the file is cut, where it tells its bytes
abbrev pub IsUncut : Option (List ℕ) → LazyData → Type 0
IsUncut told d = IfSome told (λ file. IsWhole file d)

-- how far the run has come: the machine that is shown, and the order of the events so far
abbrev pub progress_in : List ℕ → LazyData → List ℕ → Progress
progress_in file d order = record { machine = shown file d; order = order }

-- the machine m ran in this order, became the one that is shown, and touched the pages that were read
pub record HasRun (file : List ℕ) (m : MachineData) (d : LazyData) (order : List ℕ) : Type 0 where
  pub ran : run m order ≡ Some (shown file d)
  pub touched : d.touched ≡ touched m order

-- The run went on as a run without a file does, over a file that tells its bytes.
pub record GoesOn (file : List ℕ) (does : Progress → Progress) (old : LazyData) (before : List ℕ) (new : LazyData) (order : List ℕ) : Type 0 where
  pub progress : progress_in file new order ≡ does (progress_in file old before)
  pub run : (m : MachineData) → HasRun file m old before → HasRun file m new order

abbrev pub GoesOnTold : Option (List ℕ) → (Progress → Progress) → LazyData → List ℕ → LazyData → List ℕ → Type 0
GoesOnTold told does old before new order = IfSome told (λ file. GoesOn file does old before new order)

-- the fault of a page that isn't read
abbrev pub page_fault_of : PageFault → Fault
page_fault_of (pages.Truncated at) = faults.FileRefused (Truncated at)
page_fault_of pages.ReadFault = faults.FileFault

-- a page wasn't read: a call failed; or the file, which doesn't tell its bytes, ended in the page
abbrev pub IsUnread : FileState → FileState → Fault → Type 0
IsUnread old new faults.FileFault = HasRisen old.faults new.faults
IsUnread old new (faults.FileRefused (Truncated at)) = old.told ≡ None
IsUnread old new fault = ⊥

-- a phase didn't come to its end: the same, or memory ran out
abbrev pub FailsToRun : FileState → FileState → Fault → Type 0
FailsToRun old new faults.NoMemory = Unit {0}
FailsToRun old new fault = IsUnread old new fault

-- the machine that was shown ran a phase of n instructions by rounds in this order
pub record RunsPhase (n : ℕ) (file : List ℕ) (old : LazyData) (order : List ℕ) (new : LazyData) : Type 0 where
  pub by_rounds : order ≡ rounds (shown file old) n
  pub run : HasRun file (shown file old) new order
