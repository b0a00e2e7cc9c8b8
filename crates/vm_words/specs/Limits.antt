-- The limits that every job of a line keeps (this project's own, docs/COMMAND_LINE.md).
use Rattle.std.specs.Prelude.{◌≡◌, ℕ, ◌+◌, ◌≤◌, List, [], length, All}
use Rattle.ram_block.specs.Shape.{ShapeData, IsShape, ram_bytes_of}
use Rattle.ram_block.specs.declared.limits.TheConstants.{MAX_INPUT, MAX_PHASE}
use Rattle.vm_words.specs.declared.turns.TurnOf.{TurnOf}
use Rattle.vm_words.specs.declared.turns.TheConstants.{MAX_TURNS}
use Rattle.vm_words.specs.declared.job.Mode.{Mode}
use Rattle.vm_words.specs.declared.job.Mode.TheVariants.{Sliced, Threads}
use Rattle.vm_words.specs.declared.job.Job.{Job}
use Rattle.vm_words.specs.declared.job.Job.TheVariants.{Save, Restore, CheckFile, Assemble, Workload, Peek, Layer, Join, Record, Replay}
use Rattle.vm_words.specs.declared.key.Quantity.TheVariants.{Relay, Len}
use Rattle.vm_words.specs.Key.{most_of}
use Rattle.vm_words.specs.Turns.{IsTurn}

-- those of a save: no turn is there for threads, and no relay without them
pub record IsSave (shape : ShapeData) (stop run : ℕ) (mode : Mode) (turns : List TurnOf) (input : List ℕ) (relay : ℕ) : Type 0 where
  pub is_shape : IsShape shape
  pub stop_most : stop ≤ MAX_PHASE
  pub run_most : run ≤ MAX_PHASE
  pub turns_most : length turns ≤ MAX_TURNS
  pub turns_there : All (IsTurn shape.vcpus) turns
  pub turns_unused : mode ≡ Threads → turns ≡ []
  pub input_most : length input ≤ MAX_INPUT
  pub relay_most : relay ≤ most_of Relay
  pub relay_unused : mode ≡ Sliced → relay ≡ 0

-- those of a peek: the bytes are in RAM
pub record IsPeek (shape : ShapeData) (at len : ℕ) : Type 0 where
  pub is_shape : IsShape shape
  pub len_least : 1 ≤ len
  pub len_most : len ≤ most_of Len
  pub in_ram : at + len ≤ ram_bytes_of shape

-- those of a run with serial input
pub record IsRun (shape : ShapeData) (run : ℕ) (input : List ℕ) : Type 0 where
  pub is_shape : IsShape shape
  pub run_most : run ≤ MAX_PHASE
  pub input_most : length input ≤ MAX_INPUT

-- those of a job
abbrev pub IsWithinLimits : Job → Type 0
IsWithinLimits (Save shape stop run mode turns input relay) = IsSave shape stop run mode turns input relay
IsWithinLimits (Restore run lazy) = run ≤ MAX_PHASE
IsWithinLimits CheckFile = Unit {0}
IsWithinLimits Assemble = Unit {0}
IsWithinLimits (Workload seed) = Unit {0}
IsWithinLimits (Peek shape at len) = IsPeek shape at len
IsWithinLimits (Layer run) = run ≤ MAX_PHASE
IsWithinLimits Join = Unit {0}
IsWithinLimits (Record shape run input) = IsRun shape run input
IsWithinLimits (Replay shape input) = IsRun shape 0 input
