-- What the integer instructions compute, on registers as numbers below 2^64 (RISC-V Unprivileged ISA, RV32I Base
-- Integer Instruction Set, and RV64I Base Integer Instruction Set). A signed number is that of two's complement.
use Rattle.std.specs.Prelude.{ℕ, ◌+◌, ◌-◌, ◌*◌, ◌/◌, ◌%◌, ◌^◌, ℤ, Bool, not, nat_lt, ◌==◌, int_lt, bit_and, bit_or, bit_xor, if◌then◌else◌}
use Rattle.std.specs.Int.{w32, w64, cast_signed, cast_unsigned, int_shr}
use Rattle.rv64i_decode.specs.declared.op.BranchOp.{BranchOp}
use Rattle.rv64i_decode.specs.declared.op.BranchOp.TheVariants.{Beq, Bne, Blt, Bge, Bltu, Bgeu}
use Rattle.rv64i_decode.specs.declared.op.ImmOp.{ImmOp}
use Rattle.rv64i_decode.specs.declared.op.ImmOp.TheVariants.{Addi, Slti, Sltiu, Xori, Ori, Andi}
use Rattle.rv64i_decode.specs.declared.op.RegOp.{RegOp}
use Rattle.rv64i_decode.specs.declared.op.RegOp.TheVariants.{Add, Sll, Slt, Sltu, Xor, Srl, Or, And, Sub, Sra}
use Rattle.rv64i_decode.specs.declared.op.RegWOp.{RegWOp}
use Rattle.rv64i_decode.specs.declared.op.RegWOp.TheVariants.{Addw, Sllw, Srlw, Subw, Sraw}
use Rattle.rv64i_decode.specs.declared.op.ShiftOp.{ShiftOp}
use Rattle.rv64i_decode.specs.declared.op.ShiftOp.TheVariants.{Left, Right, RightSigned}

-- a number as 64 bits: an immediate, sign-extended
abbrev pub bits64 : ℤ → ℕ
bits64 z = cast_unsigned w64 z

-- sums and differences wrap
abbrev pub sum64 : ℕ → ℕ → ℕ
sum64 a b = (a + b) % 2 ^ 64

abbrev pub difference64 : ℕ → ℕ → ℕ
difference64 a b = (a + (2 ^ 64 - b)) % 2 ^ 64

abbrev pub sum32 : ℕ → ℕ → ℕ
sum32 a b = (a + b) % 2 ^ 32

abbrev pub difference32 : ℕ → ℕ → ℕ
difference32 a b = (a + (2 ^ 32 - b)) % 2 ^ 32

-- the low 32 bits of a register
abbrev pub low_word : ℕ → ℕ
low_word a = a % 2 ^ 32

-- a word in 64 bits, sign-extended
abbrev pub extended_word : ℕ → ℕ
extended_word a = cast_unsigned w64 (cast_signed w32 a)

-- 1 where the test holds, else 0
abbrev pub flag : Bool → ℕ
flag holds = if holds then 1 else 0

-- a is less than b, with sign
abbrev pub is_less_signed : ℕ → ℕ → Bool
is_less_signed a b = int_lt (cast_signed w64 a) (cast_signed w64 b)

-- shifts of 64 and of 32 bits; one to the right with sign is a division by a power of two, rounded down
abbrev pub left64 : ℕ → ℕ → ℕ
left64 a n = (a * 2 ^ n) % 2 ^ 64

abbrev pub left32 : ℕ → ℕ → ℕ
left32 a n = (a * 2 ^ n) % 2 ^ 32

abbrev pub right : ℕ → ℕ → ℕ
right a n = a / 2 ^ n

abbrev pub right64_signed : ℕ → ℕ → ℕ
right64_signed a n = cast_unsigned w64 (int_shr (cast_signed w64 a) n)

abbrev pub right32_signed : ℕ → ℕ → ℕ
right32_signed a n = cast_unsigned w32 (int_shr (cast_signed w32 a) n)

-- Integer Register-Immediate Instructions: b is the sign-extended immediate
unfoldable pub imm_result : ImmOp → ℕ → ℕ → ℕ
imm_result Addi a b = sum64 a b
imm_result Slti a b = flag (is_less_signed a b)
imm_result Sltiu a b = flag (nat_lt a b)
imm_result Xori a b = bit_xor a b
imm_result Ori a b = bit_or a b
imm_result Andi a b = bit_and a b

-- the shifts by an amount in the instruction
unfoldable pub shift_result : ShiftOp → ℕ → ℕ → ℕ
shift_result Left a n = left64 a n
shift_result Right a n = right a n
shift_result RightSigned a n = right64_signed a n

-- the same of a word, before the result is sign-extended
unfoldable pub shift_w_result : ShiftOp → ℕ → ℕ → ℕ
shift_w_result Left a n = left32 a n
shift_w_result Right a n = right a n
shift_w_result RightSigned a n = right32_signed a n

-- Integer Register-Register Operations: a shift goes by the low six bits of b
unfoldable pub reg_result : RegOp → ℕ → ℕ → ℕ
reg_result Add a b = sum64 a b
reg_result Sll a b = left64 a (b % 64)
reg_result Slt a b = flag (is_less_signed a b)
reg_result Sltu a b = flag (nat_lt a b)
reg_result Xor a b = bit_xor a b
reg_result Srl a b = right a (b % 64)
reg_result Or a b = bit_or a b
reg_result And a b = bit_and a b
reg_result Sub a b = difference64 a b
reg_result Sra a b = right64_signed a (b % 64)

-- the operations on two words, before the result is sign-extended: a shift goes by the low five bits of b
unfoldable pub reg_w_result : RegWOp → ℕ → ℕ → ℕ
reg_w_result Addw a b = sum32 a b
reg_w_result Sllw a b = left32 a (b % 32)
reg_w_result Srlw a b = right a (b % 32)
reg_w_result Subw a b = difference32 a b
reg_w_result Sraw a b = right32_signed a (b % 32)

-- Conditional Branches: whether the branch is taken
unfoldable pub is_taken : BranchOp → ℕ → ℕ → Bool
is_taken Beq a b = a == b
is_taken Bne a b = not (a == b)
is_taken Blt a b = is_less_signed a b
is_taken Bge a b = not (is_less_signed a b)
is_taken Bltu a b = nat_lt a b
is_taken Bgeu a b = not (nat_lt a b)
