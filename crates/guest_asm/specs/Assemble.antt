-- What a text assembles to, or its first wrong line (this project's own, docs/COMMAND_LINE.md, Assembler).
use Rattle.std.specs.Prelude.{◌≡◌, ℕ, ◌+◌, Bool, false, not, ◌==◌, nat_lt, List, [], length, take, ℤ, pos, ◌-ℤ◌, slice_get, slice_index_or, filter_map, Option, Some, None, Result, Ok, Err, if◌then◌else◌}
use Rattle.std.specs.List.{list_any, range_with_len}
use Rattle.std.specs.Option.{option_and_then, option_map, option_map_or, option_or}
use Rattle.guest_asm.specs.declared.assembler.TheConstants.{MAX_ASSEMBLED}
use Rattle.guest_asm.specs.declared.fault.AsmFault.{AsmFault}
use Rattle.guest_asm.specs.declared.fault.AsmFault.TheVariants as fault
use Rattle.guest_asm.specs.declared.fault.AsmKind.{AsmKind}
use Rattle.guest_asm.specs.declared.fault.AsmKind.TheVariants as kind
use Rattle.guest_asm.specs.declared.mnemonic.Mnemonic.{Mnemonic}
use Rattle.guest_asm.specs.Bytes.{ArePieces, Piece, is_in_range, piece_of}
use Rattle.guest_asm.specs.Labels.{has_label, label_place, line_size, number_fits, operands_in, place_of}
use Rattle.guest_asm.specs.Line.{first_word, line_of, lines_of}
use Rattle.guest_asm.specs.Mnemonic.{mnemonic_named}
use Rattle.guest_asm.specs.Operand.{Target, label, offset}
use Rattle.guest_asm.specs.Statement.{Operands, are_registers, registers_of, target_of}

-- ---- A statement at a place, among labels that have places

-- the number that a statement works with: the offset to a label is its place minus the statement's
abbrev pub number_at : (List ℕ → Option ℕ) → ℕ → Option Target → Option ℤ
number_at places place (Some (offset n)) = Some n
number_at places place (Some (label name)) = option_map (λ there. pos there -ℤ pos place) (places name)
number_at places place None = Some (pos 0)

-- what is wrong with the number: number, label, reach
abbrev pub number_kind : (List ℕ → Option ℕ) → ℕ → Mnemonic → Option Target → Option AsmKind
number_kind places place m target =
    if not (number_fits m target) then Some kind.Number
    else option_map_or (λ n. if is_in_range m n then None else Some kind.Reach) (number_at places place target) (Some kind.Label)

-- what is wrong with the operands: register, then the number
abbrev pub operands_kind : (List ℕ → Option ℕ) → ℕ → Mnemonic → Operands → Option AsmKind
operands_kind places place m operands =
    if not (are_registers operands) then Some kind.Register
    else number_kind places place m (target_of operands)

-- what is wrong with a statement: mnemonic, syntax, then the operands
abbrev pub kind_with : (List ℕ → Option ℕ) → ℕ → List ℕ → Mnemonic → Option AsmKind
kind_with places place statement m = option_map_or (operands_kind places place m) (operands_in m statement) (Some kind.Syntax)

unfoldable pub statement_kind : (List ℕ → Option ℕ) → ℕ → List ℕ → Option AsmKind
statement_kind places place statement =
    if length statement == 0 then None
    else option_map_or (kind_with places place statement) (mnemonic_named (first_word statement)) (Some kind.Mnemonic)

-- what a statement with nothing wrong places
abbrev pub piece_with : (List ℕ → Option ℕ) → ℕ → List ℕ → Mnemonic → Option Piece
piece_with places place statement m =
    option_and_then (λ operands. option_map (piece_of m (registers_of operands)) (number_at places place (target_of operands)))
    (operands_in m statement)

unfoldable pub statement_piece : (List ℕ → Option ℕ) → ℕ → List ℕ → Option Piece
statement_piece places place statement =
    option_and_then (piece_with places place statement) (mnemonic_named (first_word statement))

-- ---- A line among the lines of its text, told by its place in them

abbrev pub line_at : List (List ℕ) → ℕ → List ℕ
line_at lines i = slice_index_or lines i []

-- the label of the line stands on an earlier one
abbrev pub is_twice : List (List ℕ) → ℕ → Bool
is_twice lines i = option_map_or (λ name. list_any (has_label name) (take i lines)) (line_of (line_at lines i)).label false

-- the bytes up to the end of the line are too many
abbrev pub is_too_large : ℕ → List ℕ → Bool
is_too_large place text = nat_lt MAX_ASSEMBLED (place + line_size text)

-- what is wrong with a line that begins at a place and whose label is no earlier one's
abbrev pub line_kind : (List ℕ → Option ℕ) → ℕ → List ℕ → Option AsmKind
line_kind places place text =
    option_or (statement_kind places place (line_of text).statement) (if is_too_large place text then Some kind.TooLarge else None)

-- what is wrong with the line
unfoldable pub kind_at : List (List ℕ) → ℕ → Option AsmKind
kind_at lines i =
    if is_twice lines i then Some kind.Twice
    else line_kind (label_place lines) (place_of lines i) (line_at lines i)

-- what the line places
unfoldable pub piece_at : List (List ℕ) → ℕ → Option Piece
piece_at lines i = statement_piece (label_place lines) (place_of lines i) (line_of (line_at lines i)).statement

-- ---- The whole text

-- all wrong lines, counted from 1, with their kinds
abbrev pub faults : List (List ℕ) → List (ℕ × AsmKind)
faults lines = filter_map (λ i. option_map (λ k. (i + 1, k)) (kind_at lines i)) (range_with_len 0 (length lines))

-- what the lines place, one after the other
abbrev pub pieces : List (List ℕ) → List Piece
pieces lines = filter_map (piece_at lines) (range_with_len 0 (length lines))

-- the pieces of a text, or its first wrong line and what is wrong with it
unfoldable pub asm_of : List ℕ → Result (List Piece) (ℕ × AsmKind)
asm_of text = option_map_or Err (slice_get (faults (lines_of text)) 0) (Ok (pieces (lines_of text)))

-- the bytes are those that the text assembles to
pub record IsAssembled (text bytes : List ℕ) : Type 0 where
  pub placed : List Piece
  pub answer : asm_of text ≡ Ok placed
  pub joined : ArePieces placed bytes

-- the fault is that of the text, where it isn't want of memory
abbrev pub IsFaultOf : List ℕ → AsmFault → Type 0
IsFaultOf text (fault.Line line kind) = asm_of text ≡ Err (line, kind)
IsFaultOf text fault.NoMemory = Unit {0}
