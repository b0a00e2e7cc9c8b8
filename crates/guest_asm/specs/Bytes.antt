-- What a statement places (this project's own, docs/COMMAND_LINE.md, Assembler): an instruction, whose word is that of
-- rv64i_decode's table, or bytes that are given.
use Rattle.std.specs.Prelude.{◌≡◌, ℕ, ◌+◌, ◌*◌, ◌-◌, ◌^◌, ◌%◌, Bool, true, false, ◌&&◌, ◌==◌, List, [], ◌∷◌, ◌++◌, replicate, ℤ, pos, negsuc, neg_ℤ, int_le, unsigned_abs, if◌then◌else◌}
use Rattle.std.specs.Int.{bytes_low_first, to_le_bytes, w32}
use Rattle.rv64i_decode.specs.declared.instr.Instr.{Instr}
use Rattle.rv64i_decode.specs.declared.instr.Instr.TheVariants as instr
use Rattle.rv64i_decode.specs.Decode.{twos_complement}
use Rattle.rv64i_decode.specs.Row.{Row}
use Rattle.guest_asm.specs.declared.mnemonic.Mnemonic.{Mnemonic}
use Rattle.guest_asm.specs.declared.mnemonic.Mnemonic.TheVariants.{Op, OpW, Imm, ImmW, Shift, ShiftW, Load, Jalr, Store, Branch, Jal, Lui, Auipc, Amo, Fence, Ecall, Ebreak, Data, Zero}
use Rattle.guest_asm.specs.declared.assembler.TheConstants.{MAX_ASSEMBLED}
use Rattle.guest_asm.specs.declared.operand.Registers.{Registers}
use Rattle.guest_asm.specs.Directive.{row_of}

-- a piece of the answer
pub data Piece : Type 0 where
  instruction : Instr → Piece
  given : List ℕ → Piece

-- the two ends of the numbers that a statement takes, both in range
pub record Range : Type 0 where
  pub least : ℤ
  pub most : ℤ

-- the range of each mnemonic that has a number
abbrev pub range_of : Mnemonic → Range
range_of (Imm op) = record { least = negsuc 2047; most = pos 2047 }
range_of ImmW = record { least = negsuc 2047; most = pos 2047 }
range_of (Shift op) = record { least = pos 0; most = pos 63 }
range_of (ShiftW op) = record { least = pos 0; most = pos 31 }
range_of (Load op) = record { least = negsuc 2047; most = pos 2047 }
range_of Jalr = record { least = negsuc 2047; most = pos 2047 }
range_of (Store op) = record { least = negsuc 2047; most = pos 2047 }
range_of (Branch op) = record { least = negsuc 4095; most = pos 4094 }
range_of Jal = record { least = negsuc 1048575; most = pos 1048574 }
range_of Lui = record { least = pos 0; most = pos 1048575 }
range_of Auipc = record { least = pos 0; most = pos 1048575 }
range_of (Data directive) = let bits = 8 * (row_of directive).bytes in record { least = neg_ℤ (pos (2 ^ (bits - 1))); most = pos (2 ^ bits - 1) }
range_of Zero = record { least = pos 0; most = pos MAX_ASSEMBLED }
range_of _ = record { least = pos 0; most = pos 0 }

-- the numbers that have to be even: the targets
abbrev pub is_jump : Mnemonic → Bool
is_jump (Branch op) = true
is_jump Jal = true
is_jump _ = false

-- a number is one that the statement takes
unfoldable pub is_in_range : Mnemonic → ℤ → Bool
is_in_range m n =
    int_le (range_of m).least n && int_le n (range_of m).most
    && (if is_jump m then unsigned_abs n % 2 == 0 else true)

-- how many bytes a statement with this number places
abbrev pub size_of : Mnemonic → ℤ → ℕ
size_of (Data directive) n = (row_of directive).bytes
size_of Zero n = unsigned_abs n
size_of _ n = 4

-- the immediate of lui and auipc: 4096 times the number, sign-extended from 32 bits
abbrev pub upper_immediate : ℤ → ℤ
upper_immediate n = twos_complement (2 ^ 31) (4096 * unsigned_abs n)

-- a number, or a negative one's two's complement to a modulus
abbrev pub wrapped : ℕ → ℤ → ℕ
wrapped modulus (pos n) = n
wrapped modulus (negsuc n) = modulus - (n + 1)

-- the bytes of a statement that gives some, the lowest first
abbrev pub bytes_given : Mnemonic → ℤ → List ℕ
bytes_given (Data directive) n = let count = (row_of directive).bytes in bytes_low_first 0 count (wrapped (2 ^ (8 * count)) n)
bytes_given Zero n = replicate (unsigned_abs n) 0
bytes_given _ n = []

-- what a statement with these registers and this number places
unfoldable pub piece_of : Mnemonic → Registers → ℤ → Piece
piece_of (Op op) r n = instruction (instr.Op op r.first r.second r.third)
piece_of (OpW op) r n = instruction (instr.OpW op r.first r.second r.third)
piece_of (Imm op) r n = instruction (instr.Imm op r.first r.second n)
piece_of ImmW r n = instruction (instr.ImmW r.first r.second n)
piece_of (Shift op) r n = instruction (instr.Shift op r.first r.second (unsigned_abs n))
piece_of (ShiftW op) r n = instruction (instr.ShiftW op r.first r.second (unsigned_abs n))
piece_of (Load op) r n = instruction (instr.Load op r.first r.second n)
piece_of Jalr r n = instruction (instr.Jalr r.first r.second n)
piece_of (Store op) r n = instruction (instr.Store op r.second r.first n)
piece_of (Branch op) r n = instruction (instr.Branch op r.first r.second n)
piece_of Jal r n = instruction (instr.Jal r.first n)
piece_of Lui r n = instruction (instr.Lui r.first (upper_immediate n))
piece_of Auipc r n = instruction (instr.Auipc r.first (upper_immediate n))
piece_of (Amo op wide order) r n = instruction (instr.Amo op wide r.first r.third r.second order)
piece_of Fence r n = instruction (instr.Fence 0 0 0b1111_1111)
piece_of Ecall r n = instruction instr.Ecall
piece_of Ebreak r n = instruction instr.Ebreak
piece_of (Data directive) r n = given (bytes_given (Data directive) n)
piece_of Zero r n = given (bytes_given Zero n)

-- the bytes are those of a piece: of an instruction its word by the table, the lowest byte first
abbrev pub IsPiece : Piece → List ℕ → Type 0
IsPiece (instruction i) bytes = (word : ℕ) × Row word i × (bytes ≡ to_le_bytes w32 word)
IsPiece (given content) bytes = bytes ≡ content

-- the bytes are those of the pieces, joined
abbrev pub ArePieces : List Piece → List ℕ → Type 0
ArePieces [] bytes = bytes ≡ []
ArePieces (piece ∷ pieces) bytes =
    (front : List ℕ) × (rest : List ℕ) × IsPiece piece front × ArePieces pieces rest × (bytes ≡ front ++ rest)
