-- What is wrong with a line, in the order in which it is looked at (this project's own, docs/COMMAND_LINE.md). A word
-- of the rest of a line, behind the command, is told by its place there, and a fault by its index in the whole line.
use Rattle.std.specs.Prelude.{ℕ, ◌+◌, Bool, false, not, ◌&&◌, ◌||◌, ◌==◌, nat_lt, List, [], ◌∷◌, ◌++◌, length, take, codes, slice_index_or, filter_map, unwrap_or, Option, Some, None, is_some, is_none, if◌then◌else◌}
use Rattle.std.specs.List.{list_any, range_with_len}
use Rattle.std.specs.Option.{option_and_then, option_map, option_map_or}
use Rattle.std.specs.Str.{bytes_eq}
use Rattle.ram_block.specs.Shape.{ShapeData, ram_bytes_of}
use Rattle.vm_words.specs.declared.fault.UsageKind.{UsageKind}
use Rattle.vm_words.specs.declared.fault.UsageKind.TheVariants.{NoEquals, Key, Twice, Value, Missing}
use Rattle.vm_words.specs.declared.command.CommandName.{CommandName}
use Rattle.vm_words.specs.declared.command.CommandName.TheVariants.{Save, Peek}
use Rattle.vm_words.specs.declared.key.Quantity.{Quantity}
use Rattle.vm_words.specs.declared.key.Quantity.TheVariants.{Vcpus, Blocks, Pages, Relay, At, Len}
use Rattle.vm_words.specs.declared.key.KeyName.{KeyName}
use Rattle.vm_words.specs.declared.key.KeyName.TheVariants.{Mode, Turns, Number}
use Rattle.vm_words.specs.Command.{required_of, key_named}
use Rattle.vm_words.specs.Form.{is_of_form}
use Rattle.vm_words.specs.Key.{key_text, least_of, most_of, default_of}
use Rattle.vm_words.specs.Number.{number_within}
use Rattle.vm_words.specs.Turns.{names_absent}
use Rattle.vm_words.specs.Word.{has_equals, key_part, value_part, value_after, value_in}

-- the value that the rest of a line gives a key
abbrev pub given : List (List ℕ) → KeyName → Option (List ℕ)
given rest key = value_in rest (key_text key)

-- the number that it gives, or its default; the default in place of a value out of form is never seen, since that
-- word is a fault
abbrev pub number_given : List (List ℕ) → Quantity → ℕ
number_given rest quantity =
    unwrap_or (option_and_then (number_within (least_of quantity) (most_of quantity)) (given rest (Number quantity))) (default_of quantity)

-- the shape that it gives, of so many vCPUs
abbrev pub shape_given : List (List ℕ) → ℕ → ShapeData
shape_given rest vcpus = record { vcpus = vcpus; blocks = number_given rest Blocks; pages = number_given rest Pages }

-- it gives this mode
abbrev pub has_mode : List (List ℕ) → List ℕ → Bool
has_mode rest mode = option_map_or (bytes_eq mode) (given rest Mode) false

-- ---- Each word

-- of a key's value, with the words before it: twice before value
abbrev pub value_kind : CommandName → List (List ℕ) → List ℕ → KeyName → Option UsageKind
value_kind command before value key =
    if is_some (given before key) then Some Twice
    else if is_of_form command key value then None
    else Some Value

-- of a word, with the words before it
abbrev pub word_kind : CommandName → List (List ℕ) → List ℕ → Option UsageKind
word_kind command before word =
    if has_equals word then option_map_or (value_kind command before (value_part word)) (key_named command (key_part word)) (Some Key)
    else Some NoEquals

-- of the word at a place
abbrev pub kind_at : CommandName → List (List ℕ) → ℕ → Option UsageKind
kind_at command rest i = word_kind command (take i rest) (slice_index_or rest i [])

-- ---- What is missing

-- the key never came
abbrev pub is_missing : List (List ℕ) → KeyName → Bool
is_missing rest key = is_none (given rest key)

-- some required key never came
abbrev pub lacks_key : CommandName → List (List ℕ) → Bool
lacks_key command rest = list_any (is_missing rest) (required_of command)

-- ---- What doesn't go together

-- the turns that a word names are of an absent vCPU
abbrev pub is_absent_turns : List (List ℕ) → List ℕ → Bool
is_absent_turns rest word = option_map_or (names_absent (number_given rest Vcpus)) (value_after word (key_text Turns)) false

-- a relay, where no thread is there for it
abbrev pub is_idle_relay : List (List ℕ) → List ℕ → Bool
is_idle_relay rest word =
    is_some (value_after word (key_text (Number Relay))) && not (number_given rest Relay == 0) && not (has_mode rest (codes "threads"))

-- a length that leads past RAM
abbrev pub is_len_past_ram : List (List ℕ) → List ℕ → Bool
is_len_past_ram rest word =
    is_some (value_after word (key_text (Number Len)))
    && nat_lt (ram_bytes_of (shape_given rest 1)) (number_given rest At + number_given rest Len)

-- the value of a word doesn't go together with the others
abbrev pub is_clash : CommandName → List (List ℕ) → List ℕ → Bool
is_clash Save rest word = is_absent_turns rest word || is_idle_relay rest word
is_clash Peek rest word = is_len_past_ram rest word
is_clash _ rest word = false

-- the kind of a clash at a place
abbrev pub clash_at : CommandName → List (List ℕ) → ℕ → Option UsageKind
clash_at command rest i = if is_clash command rest (slice_index_or rest i []) then Some Value else None

-- ---- All of it

-- a fault for each word that a test finds wrong, with its index in the line
abbrev pub faults_by : (ℕ → Option UsageKind) → List (List ℕ) → List (ℕ × UsageKind)
faults_by test rest = filter_map (λ i. option_map (λ kind. (i + 1, kind)) (test i)) (range_with_len 0 (length rest))

-- the fault of a line that lacks a key, behind its last word
abbrev pub missing_faults : CommandName → List (List ℕ) → List (ℕ × UsageKind)
missing_faults command rest = if lacks_key command rest then (length rest + 1, Missing) ∷ [] else []

-- all faults: of the words one by one, then of what is missing, then of what doesn't go together
abbrev pub faults : CommandName → List (List ℕ) → List (ℕ × UsageKind)
faults command rest = faults_by (kind_at command rest) rest ++ missing_faults command rest ++ faults_by (clash_at command rest) rest
