-- The forms of values (this project's own, docs/COMMAND_LINE.md).
use Rattle.std.specs.Prelude.{ℕ, Bool, ◌&&◌, ◌||◌, nat_le, List, length, codes, is_some}
use Rattle.std.specs.Str.{bytes_eq}
use Rattle.vm_words.specs.declared.turns.TheConstants.{MAX_TURNS}
use Rattle.ram_block.specs.declared.limits.TheConstants.{MAX_INPUT}
use Rattle.vm_words.specs.declared.command.CommandName.{CommandName}
use Rattle.vm_words.specs.declared.command.CommandName.TheVariants.{Restore}
use Rattle.vm_words.specs.declared.key.KeyName.{KeyName}
use Rattle.vm_words.specs.declared.key.KeyName.TheVariants.{Image, Out, In, Mode, Turns, Serial, Number}
use Rattle.vm_words.specs.Key.{least_of, most_of}
use Rattle.vm_words.specs.Number.{number_within}
use Rattle.vm_words.specs.Turns.{are_turns}

-- the value is one of two words
abbrev pub is_one_of : List ℕ → List ℕ → List ℕ → Bool
is_one_of one other value = bytes_eq value one || bytes_eq value other

-- the modes of a restore, and those of a save
abbrev pub is_mode : CommandName → List ℕ → Bool
is_mode Restore value = is_one_of (codes "eager") (codes "lazy") value
is_mode _ value = is_one_of (codes "sliced") (codes "threads") value

-- the value is of the form that the command's key has
abbrev pub is_of_form : CommandName → KeyName → List ℕ → Bool
is_of_form command Image value = nat_le 1 (length value)
is_of_form command Out value = nat_le 1 (length value)
is_of_form command In value = nat_le 1 (length value)
is_of_form command Mode value = is_mode command value
is_of_form command Turns value = nat_le (length value) MAX_TURNS && are_turns value
is_of_form command Serial value = nat_le (length value) MAX_INPUT
is_of_form command (Number quantity) value = is_some (number_within (least_of quantity) (most_of quantity) value)
