-- The job that words give, or the first that is wrong and how (this project's own, docs/COMMAND_LINE.md).
use Rattle.std.specs.Prelude.{◌≡◌, ◌≢◌, ℕ, ◌<◌, List, [], ◌∷◌, codes, Result, Ok, Err, slice_get, unwrap_or, if◌then◌else◌}
use Rattle.std.specs.Option.{option_map_or}
use Rattle.vm_words.specs.declared.turns.TurnOf.{TurnOf}
use Rattle.vm_words.specs.declared.turns.TheConstants.{MAX_TURNS}
use Rattle.vm_words.specs.declared.job.Mode.{Mode}
use Rattle.vm_words.specs.declared.job.Mode.TheVariants.{Sliced, Threads}
use Rattle.vm_words.specs.declared.job.Job.{Job}
use Rattle.vm_words.specs.declared.job.Job.TheVariants as made
use Rattle.vm_words.specs.declared.fault.UsageKind.{UsageKind}
use Rattle.vm_words.specs.declared.fault.UsageKind.TheVariants.{NoCommand, Command, NeedsThreads}
use Rattle.vm_words.specs.declared.fault.WordsFault.{WordsFault}
use Rattle.vm_words.specs.declared.fault.WordsFault.TheVariants.{Usage, NoMemory}
use Rattle.vm_words.specs.declared.command.CommandName.{CommandName}
use Rattle.vm_words.specs.declared.command.CommandName.TheVariants.{Save, Restore, Check, Asm, Workload, Peek, Layer, Join, Record, Replay}
use Rattle.vm_words.specs.declared.key.Quantity.TheVariants.{Vcpus, Stop, Run, Seed, Relay, At, Len}
use Rattle.vm_words.specs.declared.key.KeyName.TheVariants as key
use Rattle.vm_words.specs.Command.{command_named}
use Rattle.vm_words.specs.Generator.{turns_drawn}
use Rattle.vm_words.specs.Line.{given, number_given, shape_given, has_mode, faults}
use Rattle.vm_words.specs.Turns.{turns_named}

-- how a save runs
abbrev pub mode_given : List (List ℕ) → Mode
mode_given rest = if has_mode rest (codes "threads") then Threads else Sliced

-- the turns of a save: none in threads, else those that are named, else those that the seed gives
abbrev pub turns_given : List (List ℕ) → List TurnOf
turns_given rest =
    if has_mode rest (codes "threads") then []
    else option_map_or turns_named (given rest key.Turns) (turns_drawn (number_given rest Seed) (number_given rest Vcpus) MAX_TURNS)

-- the serial input
abbrev pub input_given : List (List ℕ) → List ℕ
input_given rest = unwrap_or (given rest key.Serial) []

-- the job of a command and the rest of its line, where nothing is wrong with them
abbrev pub job_given : CommandName → List (List ℕ) → Job
job_given Save rest = made.Save (shape_given rest (number_given rest Vcpus)) (number_given rest Stop) (number_given rest Run) (mode_given rest) (turns_given rest) (input_given rest) (number_given rest Relay)
job_given Restore rest = made.Restore (number_given rest Run) (has_mode rest (codes "lazy"))
job_given Check rest = made.CheckFile
job_given Asm rest = made.Assemble
job_given Workload rest = made.Workload (number_given rest Seed)
job_given Peek rest = made.Peek (shape_given rest 1) (number_given rest At) (number_given rest Len)
job_given Layer rest = made.Layer (number_given rest Run)
job_given Join rest = made.Join
job_given Record rest = made.Record (shape_given rest (number_given rest Vcpus)) (number_given rest Run) (input_given rest)
job_given Replay rest = made.Replay (shape_given rest (number_given rest Vcpus)) (input_given rest)

-- the first fault of a line of this command, or its job
abbrev pub job_of : List (List ℕ) → CommandName → Result Job (ℕ × UsageKind)
job_of rest command = option_map_or Err (slice_get (faults command rest) 0) (Ok (job_given command rest))

-- the job that words give, or the index and the kind of the first that is wrong
unfoldable pub job : List (List ℕ) → Result Job (ℕ × UsageKind)
job [] = Err (0, NoCommand)
job (name ∷ rest) = option_map_or (job_of rest) (command_named name) (Err (0, Command))

-- the fault is that of the words, where it isn't want of memory
abbrev pub IsUsageOf : List (List ℕ) → WordsFault → Type 0
IsUsageOf words (Usage index kind) = job words ≡ Err (index, kind)
IsUsageOf words NoMemory = Unit {0}

-- the index of a fault is small, however many words there are
abbrev pub HasSmallIndex : WordsFault → Type 0
HasSmallIndex (Usage index kind) = index < 16
HasSmallIndex NoMemory = Unit {0}

-- the fault isn't that of a call that starts no thread
abbrev pub IsOfWords : WordsFault → Type 0
IsOfWords (Usage index kind) = kind ≢ NeedsThreads
IsOfWords NoMemory = Unit {0}
