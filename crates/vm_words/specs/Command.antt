-- The commands of a line, each with its keys (this project's own, docs/COMMAND_LINE.md).
use Rattle.std.specs.Prelude.{ℕ, List, [], ◌∷◌, ◌++◌, codes, Option, find}
use Rattle.std.specs.Str.{bytes_eq}
use Rattle.vm_words.specs.declared.command.CommandName.{CommandName}
use Rattle.vm_words.specs.declared.command.CommandName.TheVariants.{Save, Restore, Check, Asm, Workload, Peek, Layer, Join, Record, Replay}
use Rattle.vm_words.specs.declared.key.Quantity.TheVariants.{Vcpus, Blocks, Pages, Stop, Run, Seed, Relay, At, Len}
use Rattle.vm_words.specs.declared.key.KeyName.{KeyName}
use Rattle.vm_words.specs.declared.key.KeyName.TheVariants.{Image, Out, In, Mode, Turns, Serial, Number}
use Rattle.vm_words.specs.Key.{key_text}

-- how a command is written
abbrev pub command_text : CommandName → List ℕ
command_text Save = codes "save"
command_text Restore = codes "restore"
command_text Check = codes "check"
command_text Asm = codes "asm"
command_text Workload = codes "workload"
command_text Peek = codes "peek"
command_text Layer = codes "layer"
command_text Join = codes "join"
command_text Record = codes "record"
command_text Replay = codes "replay"

-- all of them
abbrev pub commands : List CommandName
commands = Save ∷ Restore ∷ Check ∷ Asm ∷ Workload ∷ Peek ∷ Layer ∷ Join ∷ Record ∷ Replay ∷ []

-- the keys that have to be given
abbrev pub required_of : CommandName → List KeyName
required_of Save = Image ∷ Out ∷ []
required_of Restore = In ∷ []
required_of Check = In ∷ []
required_of Asm = Image ∷ Out ∷ []
required_of Workload = Out ∷ []
required_of Peek = In ∷ Number At ∷ Number Len ∷ []
required_of Layer = In ∷ Out ∷ []
required_of Join = In ∷ Image ∷ Out ∷ []
required_of Record = Image ∷ Out ∷ []
required_of Replay = Image ∷ In ∷ []

-- the keys that may be given
abbrev pub optional_of : CommandName → List KeyName
optional_of Save = Number Vcpus ∷ Number Blocks ∷ Number Pages ∷ Number Stop ∷ Number Run ∷ Mode ∷ Number Seed ∷ Turns ∷ Serial ∷ Number Relay ∷ []
optional_of Restore = Number Run ∷ Mode ∷ []
optional_of Check = []
optional_of Asm = []
optional_of Workload = Number Seed ∷ []
optional_of Peek = Number Blocks ∷ Number Pages ∷ []
optional_of Layer = Number Run ∷ []
optional_of Join = []
optional_of Record = Number Vcpus ∷ Number Blocks ∷ Number Pages ∷ Number Run ∷ Serial ∷ []
optional_of Replay = Number Vcpus ∷ Number Blocks ∷ Number Pages ∷ Serial ∷ []

-- the command that is written so
abbrev pub command_named : List ℕ → Option CommandName
command_named text = find (λ command. bytes_eq (command_text command) text) commands

-- the key of a command that is written so
abbrev pub key_named : CommandName → List ℕ → Option KeyName
key_named command text = find (λ key. bytes_eq (key_text key) text) (required_of command ++ optional_of command)
