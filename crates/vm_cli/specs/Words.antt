-- Which lines are served, and the fault of every other (this project's own, docs/COMMAND_LINE.md).
use Rattle.std.specs.Prelude.{◌≡◌, ℕ, ◌+◌, true, false, nat_eq, List, [], ◌∷◌, codes, Option, Some, None, Result, Ok, Err, if◌then◌else◌}
use Rattle.std.specs.List.{starts_with}
use Rattle.vm_words.specs.Job.{job}
use Rattle.vm_words.specs.declared.fault.UsageKind.{UsageKind}
use Rattle.vm_words.specs.declared.fault.UsageKind.TheVariants.{NeedsThreads}
use Rattle.vm_words.specs.declared.job.Job.{Job}
use Rattle.vm_words.specs.declared.job.Job.TheVariants as jobs
use Rattle.vm_words.specs.declared.job.Mode.TheVariants as modes
use Rattle.vm_cli.specs.declared.answer.Fault.{Fault}
use Rattle.vm_cli.specs.declared.answer.Fault.TheVariants.{Usage, NoMemory}
use Rattle.vm_cli.specs.declared.words.Caller.{Caller}
use Rattle.vm_cli.specs.declared.words.Caller.TheVariants.{Still, Threaded}
use Rattle.vm_cli.specs.Served.{Assembly, CheckFile, Join, Layer, LazyRestore, OnThreads, Peek, Record, Replay, Restore, Save, Served, Sliced, Workload}

-- ---- Which jobs are served

-- which job of those that are served it is; a relay changes nothing that is said of a save
abbrev pub served_of : Job → Served
served_of jobs.Assemble = Assembly
served_of jobs.CheckFile = CheckFile
served_of (jobs.Restore n false) = Restore n
served_of (jobs.Restore n true) = LazyRestore n
served_of (jobs.Peek shape at len) = Peek shape at len
served_of (jobs.Save shape stop run modes.Sliced turns input relay) = Save shape input (record { stop = stop; run = run; way = Sliced turns })
served_of (jobs.Save shape stop run modes.Threads turns input relay) = Save shape input (record { stop = stop; run = run; way = OnThreads })
served_of (jobs.Workload seed) = Workload seed
served_of (jobs.Layer run) = Layer run
served_of jobs.Join = Join
served_of (jobs.Record shape run input) = Record shape run input
served_of (jobs.Replay shape input) = Replay shape input

-- the same, of what words give
abbrev pub served_in : Result Job (ℕ × UsageKind) → Option Served
served_in (Err wrong) = None
served_in (Ok job) = Some (served_of job)

-- the job of the words, where they are a line
unfoldable pub served_line : List (List ℕ) → Option Served
served_line words = served_in (job words)

-- ---- Which lines are refused

-- the index of the first word of a mode, where so many words stand before these
abbrev pub mode_word : ℕ → List (List ℕ) → ℕ
mode_word before [] = 0
mode_word before (word ∷ words) = if starts_with nat_eq word (codes "mode=") then before else mode_word (before + 1) words

-- the word that asks for threads: that of the mode in a save, and the command itself in a record
abbrev pub threads_word : List (List ℕ) → Job → Option ℕ
threads_word words (jobs.Save shape stop run modes.Threads turns input relay) = Some (mode_word 0 words)
threads_word words (jobs.Record shape run input) = Some 0
threads_word words job = None

-- the same, where the caller can start none
abbrev pub forbidden_word : Caller → List (List ℕ) → Job → Option ℕ
forbidden_word Still words job = threads_word words job
forbidden_word Threaded words job = None

-- the job needs no threads
abbrev pub IsOnOneThread : Job → Type 0
IsOnOneThread (jobs.Save shape stop run modes.Threads turns input relay) = ⊥
IsOnOneThread (jobs.Record shape run input) = ⊥
IsOnOneThread job = Unit {0}

-- the fault of a line of which this word is forbidden, if one is
abbrev pub fault_of_job : Option ℕ → Option Fault
fault_of_job (Some index) = Some (Usage index NeedsThreads)
fault_of_job None = None

-- why a line isn't served, if it isn't
abbrev pub fault_of_line : Caller → List (List ℕ) → Result Job (ℕ × UsageKind) → Option Fault
fault_of_line caller words (Err wrong) = Some (Usage wrong.0 wrong.1)
fault_of_line caller words (Ok job) = fault_of_job (forbidden_word caller words job)

-- the same, of words
unfoldable pub line_fault : Caller → List (List ℕ) → Option Fault
line_fault caller words = fault_of_line caller words (job words)

-- the fault is that of the words, or want of memory
abbrev pub IsFaultOfLine : Caller → List (List ℕ) → Fault → Type 0
IsFaultOfLine caller words (Usage index kind) = line_fault caller words ≡ Some (Usage index kind)
IsFaultOfLine caller words NoMemory = Unit {0}
IsFaultOfLine caller words _ = ⊥
