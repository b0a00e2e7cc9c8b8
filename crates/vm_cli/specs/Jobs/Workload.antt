-- The job of `workload`: the guest that a seed gives is saved on one thread while it runs, it is reported, and the file is
-- loaded (this project's own, docs/COMMAND_LINE.md).
use Rattle.std.specs.Prelude.{◌≡◌, ◌⊎◌, ℕ, List, [], ◌∷◌, ◌++◌, Option, Some, None, option_map, IfSome}
use Rattle.bg_saver.specs.declared.save_end.SaveEnd.TheVariants.{Complete}
use Rattle.flat_machine.specs.Machine.{MachineData, boot}
use Rattle.medium.specs.Count.{HasRisen}
use Rattle.medium.specs.States.{FileState, SinkState}
use Rattle.ram_block.specs.Shape.{ShapeData}
use Rattle.vm_words.specs.Generator.{turns_drawn}
use Rattle.vm_words.specs.Workload.{work}
use Rattle.vm_words.specs.declared.turns.TheConstants.{MAX_TURNS}
use Rattle.vm_cli.specs.Jobs.Common.{FaultPrinting, Printing, print_step}
use Rattle.vm_cli.specs.Jobs.Load.{is_file_refusal}
use Rattle.vm_cli.specs.Jobs.Save.{ReportsFailed, SavesMachine, report_of, save_machine_steps}
use Rattle.vm_cli.specs.Outside.{End, Outside}
use Rattle.vm_cli.specs.Steps.{Output, Step}
use Rattle.vm_cli.specs.declared.answer.Fault.{Fault}
use Rattle.vm_cli.specs.declared.answer.Fault.TheVariants as faults
use Rattle.vm_cli.specs.Served.{SavePhases, Sliced}
use Rattle.vm_cli.specs.declared.workload.TheConstants.{BLOCKS, PAGES, RUN, STOP, VCPUS}
use Rattle.vm_report.specs.Report.{ok_line}

-- ---- The guest

abbrev pub workload_shape : ShapeData
workload_shape = record { vcpus = VCPUS; blocks = BLOCKS; pages = PAGES }

-- the machine at boot, with no input
abbrev pub workload_machine : ℕ → MachineData
workload_machine seed = boot workload_shape (work seed) []

-- its phases, with as many turns as a save has that names none
abbrev pub workload_phases : ℕ → SavePhases
workload_phases seed = record { stop = STOP; run = RUN; way = Sliced (turns_drawn seed VCPUS MAX_TURNS) }

-- ---- Steps

-- The file that was saved is loaded: where it tells its bytes, nothing is refused.
abbrev pub load_saved_step : FileState → Step
load_saved_step output = record { calls = Some Output; may_refuse = is_file_refusal; verdict = option_map (λ _. None) output.told }

abbrev pub workload_steps : FileState → List Step
workload_steps output = save_machine_steps output ++ load_saved_step output ∷ print_step ∷ []

-- ---- What it did

-- The shape of the machine that was loaded of the output: that of the guest, where the output tells its bytes.
abbrev pub IsCheckedShape : Option (List ℕ) → ShapeData → Type 0
IsCheckedShape told shape = IfSome told (λ _. shape ≡ workload_shape)

-- its work came to its end: the save is complete, and the report and the line of its file were printed
pub record SavesWorkload (prints : Printing) (seed : ℕ) (old new : Outside) (end : End) : Type 0 where
  pub saved : SavesMachine (workload_machine seed) (workload_phases seed) old.output new.output end
  pub checked : ShapeData
  pub shape : IsCheckedShape old.output.told checked
  pub printed : prints end.fault (report_of Complete saved.out ++ ok_line checked) old.console new.console

-- the faults of a load
abbrev pub IsOfLoad : FileState → FileState → Fault → Type 0
IsOfLoad old new (faults.FileRefused refusal) = old.told ≡ None
IsOfLoad old new faults.FileFault = HasRisen old.faults new.faults
IsOfLoad old new faults.NoMemory = Unit {0}
IsOfLoad old new _ = ⊥

-- the save is complete and was reported, and then the load of the file ended with this fault
pub record FailsToLoad (behind : FaultPrinting) (seed : ℕ) (fault : Fault) (old new : FileState) (console console_now : SinkState) (end : End) : Type 0 where
  pub of_load : IsOfLoad old new fault
  pub saved : SavesMachine (workload_machine seed) (workload_phases seed) old new end
  pub printed : behind fault (report_of Complete saved.out) console console_now

-- its save failed, or it was complete and the load of the file failed
abbrev pub FailsWorkload : (cut behind : FaultPrinting) → ℕ → Fault → FileState → FileState → SinkState → SinkState → End → Type 0
FailsWorkload cut behind seed fault old new console console_now end =
    ReportsFailed cut (workload_machine seed) (workload_phases seed) old new console console_now end
    ⊎ FailsToLoad behind seed fault old new console console_now end
