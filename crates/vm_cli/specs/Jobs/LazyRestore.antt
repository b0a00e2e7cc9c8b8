-- The job of `restore` with `mode=lazy`: the input is opened without its pages, the machine runs a phase by rounds, in
-- which each page is read at its first touch, the other pages are read, and the machine is reported behind the number of
-- pages touched (this project's own, docs/COMMAND_LINE.md).
use Rattle.std.specs.Prelude.{◌≡◌, ◌⊎◌, ℕ, Bool, true, false, List, [], ◌∷◌, ◌++◌, codes, length, Option, Some, None, option_map, IfSome}
use Rattle.std.specs.Fmt.{decimal}
use Rattle.file_plan.specs.Layout.{Lay}
use Rattle.flat_machine.specs.Machine.{MachineData}
use Rattle.flat_machine.specs.Run.{rounds, run}
use Rattle.flat_machine.specs.Touched.{touched}
use Rattle.loader.specs.declared.refusal.Refusal.TheVariants.{Truncated}
use Rattle.medium.specs.States.{FileState}
use Rattle.vm_cli.specs.Jobs.Common.{Printing, print_step}
use Rattle.vm_cli.specs.Jobs.Load.{load_step}
use Rattle.vm_cli.specs.Outside.{End, Outside}
use Rattle.vm_cli.specs.Steps.{Step, Input}
use Rattle.vm_cli.specs.declared.answer.Fault.{Fault}
use Rattle.vm_cli.specs.declared.answer.Fault.TheVariants as faults
use Rattle.vm_report.specs.Report.{report}

-- ---- Steps

abbrev pub is_cut_file : Fault → Bool
is_cut_file (faults.FileRefused (Truncated at)) = true
is_cut_file _ = false

-- Pages are read of an input that was opened: where it tells its bytes, none of them is cut.
abbrev pub read_pages_step : FileState → Step
read_pages_step input = record { calls = Some Input; may_refuse = is_cut_file; verdict = option_map (λ _. None) input.told }

-- the input is opened as it is loaded
abbrev pub lazy_steps : FileState → List Step
lazy_steps input = load_step input ∷ read_pages_step input ∷ print_step ∷ []

-- ---- What it did, where its work came to its end

-- the line of the pages touched
abbrev pub touched_line : ℕ → List ℕ
touched_line pages = codes "touched " ++ decimal pages ++ codes "\n"

-- the machine of the file ran a phase of n instructions by rounds, in this order, touched so many pages, and became this
-- machine
pub record RunsByTouch (n : ℕ) (file order : List ℕ) (pages : ℕ) (after : MachineData) : Type 0 where
  pub machine : MachineData
  pub layout : Lay file machine
  pub by_rounds : order ≡ rounds machine n
  pub ran : run machine order ≡ Some after
  pub touched : pages ≡ length (touched machine order)

pub record RestoresLazily (prints : Printing) (n : ℕ) (old new : Outside) (end : End) : Type 0 where
  pub pages : ℕ
  pub after : MachineData
  pub phase : IfSome old.input.told (λ file. RunsByTouch n file end.first pages after)
  pub printed : prints end.fault (touched_line pages ++ report None after) old.console new.console

-- ---- What it did, where it ended before it printed anything

-- the faults of a page that isn't read: a call failed; or the input, which doesn't tell its bytes, ended in the page
abbrev pub IsOfPage : FileState → Option Fault → Type 0
IsOfPage input (Some faults.FileFault) = Unit {0}
IsOfPage input (Some (faults.FileRefused (Truncated at))) = input.told ≡ None
IsOfPage input _ = ⊥

-- the phase had ended, and a page that it hadn't touched wasn't read
pub record EndsBehindPhase (n : ℕ) (input : FileState) (fault : Option Fault) (first : List ℕ) : Type 0 where
  pub of_page : IsOfPage input fault
  pub phase : IfSome input.told (λ file. (m : MachineData) × Lay file m × (first ≡ rounds m n))

-- it ended before that, or there
abbrev pub StopsLazily : ℕ → FileState → Option Fault → List ℕ → Type 0
StopsLazily n input fault first = (first ≡ []) ⊎ EndsBehindPhase n input fault first
