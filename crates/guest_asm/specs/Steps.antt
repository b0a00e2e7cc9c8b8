-- What the parts of the assembler promise one another (this project's own).
use Rattle.std.specs.Prelude.{◌≡◌, ℕ, ◌+◌, ◌<◌, ◌++◌, nat_lt, Bool, true, List, IfSome, IsTrue, Option, Some, None, false, if◌then◌else◌}
use Rattle.std.specs.Borrow.{Bor}
use Rattle.std.specs.BTreeMap.{BTreeMap, get_by}
use Rattle.std.specs.Cmp.Lexicographic.{slice_cmp}
use Rattle.std.specs.Option.{option_map, option_map_or}
use Rattle.std.specs.Ordering.{nat_cmp}
use Rattle.guest_asm.specs.declared.mnemonic.Form.{Form}
use Rattle.guest_asm.specs.declared.mnemonic.Form.TheVariants.{RegistersTarget, RegisterTarget}
use Rattle.guest_asm.specs.Operand.{Target, label}
use Rattle.guest_asm.specs.declared.placed.Placed.{Placed}
use Rattle.guest_asm.specs.declared.fault.AsmFault.{AsmFault}
use Rattle.guest_asm.specs.declared.fault.AsmFault.TheVariants as fault
use Rattle.guest_asm.specs.declared.fault.AsmKind.{AsmKind}
use Rattle.guest_asm.specs.declared.fault.AsmKind.TheVariants as kind
use Rattle.guest_asm.specs.declared.labels.Spot.{Spot}
use Rattle.guest_asm.specs.declared.mnemonic.Mnemonic.{Mnemonic}
use Rattle.guest_asm.specs.declared.mnemonic.Mnemonic.TheVariants.{Data, Zero}
use Rattle.guest_asm.specs.Bytes.{IsPiece, Piece, piece_of, size_of}
use Rattle.guest_asm.specs.Assemble.{line_kind, statement_piece}
use Rattle.guest_asm.specs.Line.{line_of}
use Rattle.guest_asm.specs.Labels.{line_with, place_of}
use Rattle.guest_asm.specs.Statement.{Operands, bare, registers, registers_number, registers_target, register_number, register_target, number}

-- a register, where there is one
abbrev pub IsSmall : Option ℕ → Type 0
IsSmall r = IfSome r (λ n. n < 32)

-- the registers of operands
abbrev pub HasSmallRegisters : Operands → Type 0
HasSmallRegisters bare = Unit {0}
HasSmallRegisters (registers a b c) = IsSmall a × IsSmall b × IsSmall c
HasSmallRegisters (registers_number a b n) = IsSmall a × IsSmall b
HasSmallRegisters (registers_target a b t) = IsSmall a × IsSmall b
HasSmallRegisters (register_number a n) = IsSmall a
HasSmallRegisters (register_target a t) = IsSmall a
HasSmallRegisters (number n) = Unit {0}

-- the statement gives bytes, and is no instruction
abbrev pub GivesBytes : Mnemonic → Type 0
GivesBytes (Data directive) = Unit {0}
GivesBytes Zero = Unit {0}
GivesBytes _ = ⊥

-- a piece was put behind the bytes
pub record PutsPiece (piece : Piece) (old new : List ℕ) : Type 0 where
  pub added : List ℕ
  pub is_piece : IsPiece piece added
  pub joined : new ≡ old ++ added

-- the first line that has a label, and its place
abbrev pub first_spot : List (List ℕ) → List ℕ → Option Spot
first_spot lines name = option_map (λ i. record { line = i; place = place_of lines i }) (line_with lines name)

-- what a map of labels has at a name, and the place of it
abbrev pub spot_in : BTreeMap (Bor (List ℕ)) Spot → List ℕ → Option Spot
spot_in labels name = get_by (λ k. slice_cmp nat_cmp name k.now) labels

abbrev pub place_in : BTreeMap (Bor (List ℕ)) Spot → List ℕ → Option ℕ
place_in labels name = option_map (λ spot. spot.place) (spot_in labels name)

-- a map has the labels of these lines
abbrev pub HasLabelsOf : List (List ℕ) → BTreeMap (Bor (List ℕ)) Spot → Type 0
HasLabelsOf lines labels = (name : List ℕ) → spot_in labels name ≡ first_spot lines name

-- the label of a line stands on a line before number i
abbrev pub stood_earlier : BTreeMap (Bor (List ℕ)) Spot → ℕ → List ℕ → Bool
stood_earlier labels i name = option_map_or (λ spot. nat_lt spot.line i) (spot_in labels name) false

-- what is wrong with line i, which begins at a place
abbrev pub kind_by : BTreeMap (Bor (List ℕ)) Spot → ℕ → ℕ → List ℕ → Option AsmKind
kind_by labels i place text =
    if option_map_or (stood_earlier labels i) (line_of text).label false then Some kind.Twice
    else line_kind (place_in labels) place text

-- what a line places, which begins at a place
abbrev pub piece_by : BTreeMap (Bor (List ℕ)) Spot → ℕ → List ℕ → Option Piece
piece_by labels place text = statement_piece (place_in labels) place (line_of text).statement

-- what a statement with nothing wrong in it places, and how many bytes
abbrev pub piece_placed : Placed → Piece
piece_placed placed = piece_of placed.mnemonic placed.registers placed.number

abbrev pub size_of_placed : Placed → ℕ
size_of_placed placed = size_of placed.mnemonic placed.number

-- a piece was put behind the bytes where there is one, and nothing else was
abbrev pub PutsAny : Option Piece → List ℕ → List ℕ → Type 0
PutsAny (Some piece) old new = PutsPiece piece old new
PutsAny None old new = new ≡ old

-- a fault is of this line and kind, where it isn't want of memory
abbrev pub IsFaultAt : ℕ → Option AsmKind → AsmFault → Type 0
IsFaultAt i found (fault.Line line kind) = (line ≡ i + 1) × (found ≡ Some kind)
IsFaultAt i found fault.NoMemory = Unit {0}

-- the forms that have a target, and a label stands in no other
abbrev pub has_target : Form → Bool
has_target RegistersTarget = true
has_target RegisterTarget = true
has_target _ = false

abbrev pub FitsForm : Form → Option Target → Type 0
FitsForm form (Some (label name)) = IsTrue (has_target form)
FitsForm form _ = Unit {0}
