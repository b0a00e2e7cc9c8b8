-- How many bytes a line places, and where the labels stand (this project's own, docs/COMMAND_LINE.md, Assembler).
use Rattle.std.specs.Prelude.{ℕ, Bool, true, false, List, take, sum_by, ℤ, pos, Option, Some, None, if◌then◌else◌}
use Rattle.std.specs.List.{position}
use Rattle.std.specs.Option.{option_map, option_map_or}
use Rattle.std.specs.Str.{bytes_eq}
use Rattle.guest_asm.specs.declared.mnemonic.Mnemonic.{Mnemonic}
use Rattle.guest_asm.specs.Bytes.{is_in_range, size_of}
use Rattle.guest_asm.specs.Line.{first_word, line_of, rest_of}
use Rattle.guest_asm.specs.Mnemonic.{form_of, mnemonic_named}
use Rattle.guest_asm.specs.Operand.{Target, label, offset}
use Rattle.guest_asm.specs.Statement.{Operands, operands_of, target_of}

-- the operands of a statement with this mnemonic
abbrev pub operands_in : Mnemonic → List ℕ → Option Operands
operands_in m statement = operands_of (form_of m) (rest_of statement)

-- where a number stands it is in range
abbrev pub number_fits : Mnemonic → Option Target → Bool
number_fits m None = true
number_fits m (Some (offset n)) = is_in_range m n
number_fits m (Some (label name)) = true

-- the number that stands there
abbrev pub number_in : Option Target → ℤ
number_in (Some (offset n)) = n
number_in (Some (label name)) = pos 0
number_in None = pos 0

-- how many bytes a statement with this number or target places: none where the number is wrong
abbrev pub size_by : Mnemonic → Option Target → ℕ
size_by m target = if number_fits m target then size_of m (number_in target) else 0

-- how many bytes these operands place, whatever the registers are
abbrev pub size_with : Mnemonic → Operands → ℕ
size_with m operands = size_by m (target_of operands)

-- how many bytes a statement places: none where it is wrong in its mnemonic or its form
unfoldable pub size_placed : List ℕ → ℕ
size_placed statement =
    option_map_or (λ m. option_map_or (size_with m) (operands_in m statement) 0) (mnemonic_named (first_word statement)) 0

-- how many bytes a line places
abbrev pub line_size : List ℕ → ℕ
line_size text = size_placed (line_of text).statement

-- the place at which a line begins, counted as if every line were right
unfoldable pub place_of : List (List ℕ) → ℕ → ℕ
place_of lines i = sum_by line_size (take i lines)

-- a line has this label
unfoldable pub has_label : List ℕ → List ℕ → Bool
has_label name text = option_map_or (bytes_eq name) (line_of text).label false

-- the first line that has a label
abbrev pub line_with : List (List ℕ) → List ℕ → Option ℕ
line_with lines name = position (has_label name) lines

-- the place of a label
abbrev pub label_place : List (List ℕ) → List ℕ → Option ℕ
label_place lines name = option_map (place_of lines) (line_with lines name)
