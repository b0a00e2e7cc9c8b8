-- The turns that a line names (this project's own, docs/COMMAND_LINE.md).
use Rattle.std.specs.Prelude.{ℕ, ◌-◌, ◌<◌, Bool, false, ◌&&◌, ◌==◌, nat_le, List, filter_map, is_some, Option, Some, None, if◌then◌else◌}
use Rattle.std.specs.List.{list_all, list_any}
use Rattle.vm_words.specs.declared.turns.TurnOf.{TurnOf}
use Rattle.vm_words.specs.declared.turns.TurnOf.TheVariants.{Cpu, Saver}

-- the turn of a character: `s` for the saver, a digit from 0 to 7 for that vCPU
abbrev pub turn_named : ℕ → Option TurnOf
turn_named c =
    if c == 115 then Some Saver
    else if nat_le 48 c && nat_le c 55 then Some (Cpu (c - 48))
    else None

-- every character is a turn
abbrev pub are_turns : List ℕ → Bool
are_turns text = list_all (λ c. is_some (turn_named c)) text

-- the turns of all characters
abbrev pub turns_named : List ℕ → List TurnOf
turns_named text = filter_map turn_named text

-- the turn is that of a vCPU which isn't among so many
abbrev pub is_absent : ℕ → TurnOf → Bool
is_absent vcpus (Cpu k) = nat_le vcpus k
is_absent vcpus Saver = false

-- some turn is
abbrev pub names_absent : ℕ → List ℕ → Bool
names_absent vcpus text = list_any (is_absent vcpus) (turns_named text)

-- the turn is the saver's, or that of a vCPU among so many
abbrev pub IsTurn : ℕ → TurnOf → Type 0
IsTurn vcpus (Cpu k) = k < vcpus
IsTurn vcpus Saver = Unit {0}
