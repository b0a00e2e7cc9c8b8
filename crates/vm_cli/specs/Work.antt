-- What the work of a job does, by its kind, up to the line of a fault (this project's own, docs/COMMAND_LINE.md).
use Rattle.std.specs.Prelude.{◌≡◌, ◌⊎◌, ℕ, ◌+◌, ◌≤◌, true, List, [], ◌∷◌, Option, Some, None}
use Rattle.guest_asm.specs.declared.assembler.TheConstants.{MAX_TEXT}
use Rattle.image_file.specs.Image.{ReadsOn}
use Rattle.image_file.specs.declared.raw.TheConstants.{MOST_IMAGE}
use Rattle.medium.specs.States.{Leaves}
use Rattle.vm_cli.specs.Images.{IsCrashSafe}
use Rattle.vm_cli.specs.Jobs.Assembly.{Assembles, assembly_steps}
use Rattle.vm_cli.specs.Jobs.CheckFile.{Checks}
use Rattle.vm_cli.specs.Jobs.Common.{FaultPrinting, Printing, Takes, TakesReport, TakesWhole}
use Rattle.vm_cli.specs.Jobs.Join.{Joins, StopsJoin, join_steps}
use Rattle.vm_cli.specs.Jobs.Layer.{Layers, StopsLayer, layer_steps}
use Rattle.vm_cli.specs.Jobs.LazyRestore.{RestoresLazily, StopsLazily, lazy_steps}
use Rattle.vm_cli.specs.Jobs.Load.{load_and_print_steps}
use Rattle.vm_cli.specs.Jobs.Peek.{PrintsRange, peek_steps}
use Rattle.vm_cli.specs.Jobs.Record.{Records, StopsRecord, record_steps}
use Rattle.vm_cli.specs.Jobs.Replay.{Replays, replay_steps}
use Rattle.vm_cli.specs.Jobs.Restore.{Restores}
use Rattle.vm_cli.specs.Jobs.Save.{EndsEarly, FailsToSave, LeavesMachine, Saves, save_steps}
use Rattle.vm_cli.specs.Jobs.Workload.{FailsWorkload, SavesWorkload, workload_machine, workload_phases, workload_steps}
use Rattle.vm_cli.specs.Outside.{End, Outside, Same}
use Rattle.vm_cli.specs.Steps.{Step}
use Rattle.vm_cli.specs.Words.{line_fault, served_line}
use Rattle.vm_cli.specs.Write.{KeepsFull}
use Rattle.vm_cli.specs.declared.answer.Fault.{Fault}
use Rattle.vm_cli.specs.declared.answer.Fault.TheVariants as faults
use Rattle.vm_cli.specs.declared.words.Caller.{Caller}
use Rattle.vm_cli.specs.Served.{Assembly, CheckFile, Join, Layer, LazyRestore, Peek, Record, Replay, Restore, Save, Served, Workload}

-- ---- How far a job came

-- its work came to its end
abbrev pub IsWorkDone : Option Fault → Type 0
IsWorkDone None = Unit {0}
IsWorkDone (Some faults.ConsoleFault) = Unit {0}
IsWorkDone _ = ⊥

-- it ended at its words
abbrev pub IsUsage : Option Fault → Type 0
IsUsage (Some (faults.Usage index kind)) = Unit {0}
IsUsage _ = ⊥

-- it ended before its first call on the output
abbrev pub IsBeforeOutput : Option Fault → Type 0
IsBeforeOutput (Some (faults.Usage index kind)) = Unit {0}
IsBeforeOutput (Some (faults.ImageRefused refusal)) = Unit {0}
IsBeforeOutput (Some (faults.FileRefused refusal)) = Unit {0}
IsBeforeOutput (Some (faults.AsmRefused line kind)) = Unit {0}
IsBeforeOutput (Some (faults.PeekRefused refusal)) = Unit {0}
IsBeforeOutput (Some (faults.LayerRefused refusal)) = Unit {0}
IsBeforeOutput (Some (faults.OrderRefused refusal)) = Unit {0}
IsBeforeOutput (Some faults.ImageFault) = Unit {0}
IsBeforeOutput (Some faults.NoMemory) = Unit {0}
IsBeforeOutput _ = ⊥

-- the output had bytes already
abbrev pub IsNotEmpty : Option Fault → Type 0
IsNotEmpty (Some (faults.NotEmpty len)) = Unit {0}
IsNotEmpty _ = ⊥

-- ---- What a job does, by its kind

-- the step of the words, which are told always
abbrev pub words_step : Caller → List (List ℕ) → Step
words_step caller words = record { calls = None; may_refuse = λ _. true; verdict = Some (line_fault caller words) }

-- the steps behind it
abbrev pub steps_behind : Option Served → Outside → List Step
steps_behind None old = []
steps_behind (Some (Save shape input phases)) old = save_steps shape old.image old.output
steps_behind (Some Assembly) old = assembly_steps old.image old.output
steps_behind (Some CheckFile) old = load_and_print_steps old.input
steps_behind (Some (Restore n)) old = load_and_print_steps old.input
steps_behind (Some (LazyRestore n)) old = lazy_steps old.input
steps_behind (Some (Peek shape at len)) old = peek_steps shape at len old.input
steps_behind (Some (Workload seed)) old = workload_steps old.output
steps_behind (Some (Layer n)) old = layer_steps n old.input old.output
steps_behind (Some Join) old = join_steps old.image old.input old.output
steps_behind (Some (Record shape n serial)) old = record_steps shape old.image old.output
steps_behind (Some (Replay shape serial)) old = replay_steps shape serial old.image old.input

abbrev pub steps_of : Caller → List (List ℕ) → Outside → List Step
steps_of caller words old = words_step caller words ∷ steps_behind (served_line words) old

-- what a job did whose work came to its end, and how what it prints stands on the console
abbrev pub Does : Printing → Option Served → Outside → Outside → End → Type 0
Does prints None old new end = ⊥
Does prints (Some (Save shape input phases)) old new end = Saves prints shape input phases old new end
Does prints (Some Assembly) old new end = Assembles prints old new end
Does prints (Some CheckFile) old new end = Checks prints old new end
Does prints (Some (Restore n)) old new end = Restores prints n old new end
Does prints (Some (LazyRestore n)) old new end = RestoresLazily prints n old new end
Does prints (Some (Peek shape at len)) old new end = PrintsRange prints shape at len old new end
Does prints (Some (Workload seed)) old new end = SavesWorkload prints seed old new end
Does prints (Some (Layer n)) old new end = Layers prints n old new end
Does prints (Some Join) old new end = Joins prints old new end
Does prints (Some (Record shape n serial)) old new end = Records prints shape n serial old new end
Does prints (Some (Replay shape serial)) old new end = Replays prints shape serial old new end

-- What a job did that failed behind its second phase, where it was reported, and how that stands on the console: a report
-- that may be cut, or one behind which the job went on.
abbrev pub Fails : (cut behind : FaultPrinting) → Option Served → Fault → Outside → Outside → End → Type 0
Fails cut behind (Some (Save shape input phases)) fault old new end = FailsToSave cut shape input phases old new end
Fails cut behind (Some (Workload seed)) fault old new end = FailsWorkload cut behind seed fault old.output new.output old.console new.console end
Fails cut behind _ fault old new end = ⊥

-- what a job did that ended with a fault before it printed anything
abbrev pub StopsEarly : Option Served → Outside → Outside → Same → End → Type 0
StopsEarly (Some (Save shape input phases)) old new same end = EndsEarly shape input phases old.image new.image same.output old.output new.output end
StopsEarly (Some (Workload seed)) old new same end = LeavesMachine (workload_machine seed) (workload_phases seed) same.output old.output new.output end
StopsEarly (Some (LazyRestore n)) old new same end = StopsLazily n old.input end.fault end.first
StopsEarly (Some (Layer n)) old new same end = StopsLayer n old.input new.input same.output old.output new.output end
StopsEarly (Some Join) old new same end = StopsJoin old.image new.image old.input new.input same.output old.output new.output end.fault
StopsEarly (Some (Record shape n serial)) old new same end = StopsRecord shape n serial old.image new.image old.output new.output end
StopsEarly _ old new same end = end.first ≡ []

-- which orders no end of a job has: that of a first phase, and that of a second
abbrev pub HasNoFirst : Option Served → Type 0
HasNoFirst (Some (Save shape input phases)) = ⊥
HasNoFirst (Some (Restore n)) = ⊥
HasNoFirst (Some (LazyRestore n)) = ⊥
HasNoFirst (Some (Workload seed)) = ⊥
HasNoFirst (Some (Layer n)) = ⊥
HasNoFirst (Some (Record shape n serial)) = ⊥
HasNoFirst (Some (Replay shape serial)) = ⊥
HasNoFirst _ = Unit {0}

abbrev pub HasNoSecond : Option Served → Type 0
HasNoSecond (Some (Save shape input phases)) = ⊥
HasNoSecond (Some (Workload seed)) = ⊥
HasNoSecond _ = Unit {0}

pub record HasNoOtherOrders (served : Option Served) (end : End) : Type 0 where
  pub first : HasNoFirst served → end.first ≡ []
  pub second : HasNoSecond served → end.second ≡ []

-- ---- What stays

-- the most bytes that a job takes from the image: one past its limit
abbrev pub most_read : Option Served → ℕ
most_read (Some (Save shape input phases)) = MOST_IMAGE + 1
most_read (Some Assembly) = MAX_TEXT + 1
most_read (Some Join) = MOST_IMAGE + 1
most_read (Some (Record shape n serial)) = MOST_IMAGE + 1
most_read (Some (Replay shape serial)) = MOST_IMAGE + 1
most_read _ = 0

-- the input was only looked at, and neither the image nor the output was called
pub record LooksAtInput (old new : Outside) (same : Same) : Type 0 where
  pub input : Leaves old.input new.input
  pub image : same.image
  pub output : same.output

-- the input was only looked at, and the image wasn't called
pub record WritesFromInput (old new : Outside) (same : Same) : Type 0 where
  pub input : Leaves old.input new.input
  pub image : same.image

-- the input was only looked at, and the output wasn't called
pub record ReadsBoth (old new : Outside) (same : Same) : Type 0 where
  pub input : Leaves old.input new.input
  pub output : same.output

-- neither the image nor the input was called
pub record TakesNothing (same : Same) : Type 0 where
  pub image : same.image
  pub input : same.input

-- what a job leaves of the objects that it doesn't change
abbrev pub KeepsOthers : Option Served → Outside → Outside → Same → Type 0
KeepsOthers (Some CheckFile) old new same = LooksAtInput old new same
KeepsOthers (Some (Restore n)) old new same = LooksAtInput old new same
KeepsOthers (Some (LazyRestore n)) old new same = LooksAtInput old new same
KeepsOthers (Some (Peek shape at len)) old new same = LooksAtInput old new same
KeepsOthers (Some (Workload seed)) old new same = TakesNothing same
KeepsOthers (Some (Layer n)) old new same = WritesFromInput old new same
KeepsOthers (Some Join) old new same = Leaves old.input new.input
KeepsOthers (Some (Replay shape serial)) old new same = ReadsBoth old new same
KeepsOthers _ old new same = same.input

-- a job with this fault made no call on the output; what a save makes stands with how it ended
abbrev pub IsBeforeOutputOf : Option Served → Option Fault → Type 0
IsBeforeOutputOf (Some (Save shape input phases)) fault = IsUsage fault
IsBeforeOutputOf (Some (Workload seed)) fault = IsUsage fault
IsBeforeOutputOf (Some Join) fault = IsUsage fault
IsBeforeOutputOf _ fault = IsBeforeOutput fault

pub record Keeps (served : Option Served) (old new : Outside) (same : Same) (fault : Option Fault) : Type 0 where
  pub others : KeepsOthers served old new same
  pub input : IsUsage fault → same.input
  pub image : IsUsage fault → same.image
  pub read : ReadsOn (most_read served) old.image new.image
  pub output : IsBeforeOutputOf served fault → same.output
  pub not_empty : IsNotEmpty fault → Leaves old.output new.output
  -- an output that had bytes keeps them, its syncs and its images, whatever the answer is
  pub full : KeepsFull old.output new.output

-- it wrote nothing; which images a save leaves stands with how it ended
abbrev pub IsUnwritten : Option Served → Option Fault → Type 0
IsUnwritten (Some (Save shape input phases)) fault = IsUsage fault
IsUnwritten (Some (Workload seed)) fault = IsUsage fault
IsUnwritten (Some Join) fault = IsUsage fault
IsUnwritten (Some (Replay shape serial)) fault = Unit {0}
IsUnwritten (Some CheckFile) fault = Unit {0}
IsUnwritten (Some (Restore n)) fault = Unit {0}
IsUnwritten (Some (LazyRestore n)) fault = Unit {0}
IsUnwritten (Some (Peek shape at len)) fault = Unit {0}
IsUnwritten _ fault = IsBeforeOutput fault ⊎ IsNotEmpty fault

-- ---- The work

-- a fault other than the console's
abbrev pub IsNotConsole : Fault → Type 0
IsNotConsole faults.ConsoleFault = ⊥
IsNotConsole _ = Unit {0}

-- what the work did, of which the end speaks already, before the line of its fault
pub record Works (served : Option Served) (old new : Outside) (same : Same) (end : End) : Type 0 where
  pub done : IsWorkDone end.fault → Does Takes served old new end
  pub failed : (fault : Fault) → end.fault ≡ Some fault → IsNotConsole fault → (StopsEarly served old new same end × same.console) ⊎ Fails TakesReport TakesWhole served fault old new end
  pub orders : HasNoOtherOrders served end
  pub kept : Keeps served old new same end.fault
  pub crash : IsUnwritten served end.fault → IsCrashSafe None old.output new.output
  pub count : old.console.faults ≤ new.console.faults
