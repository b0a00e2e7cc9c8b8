-- The instructions that a word can hold: each field within its range.
use Rattle.std.specs.Prelude.{ℕ, ◌<◌}
use Rattle.rv64i_decode.specs.declared.instr.Instr.{Instr}
use Rattle.rv64i_decode.specs.declared.instr.Instr.TheVariants.{Lui, Auipc, Jal, Jalr, Branch, Load, Store, Imm, Shift, ImmW, ShiftW, Op, OpW, Fence, Ecall, Ebreak, Amo}
use Rattle.rv64i_decode.specs.Immediate.{Is12Bit, IsBranchOffset, IsUpperImmediate, IsJumpOffset}

-- a register's number
abbrev pub IsRegister : ℕ → Type 0
IsRegister r = r < 32

-- each field is within its range
abbrev pub IsValid : Instr → Type 0
IsValid (Lui rd imm) = IsRegister rd × IsUpperImmediate imm
IsValid (Auipc rd imm) = IsRegister rd × IsUpperImmediate imm
IsValid (Jal rd off) = IsRegister rd × IsJumpOffset off
IsValid (Jalr rd rs1 off) = IsRegister rd × IsRegister rs1 × Is12Bit off
IsValid (Branch op rs1 rs2 off) = IsRegister rs1 × IsRegister rs2 × IsBranchOffset off
IsValid (Load op rd rs1 off) = IsRegister rd × IsRegister rs1 × Is12Bit off
IsValid (Store op rs1 rs2 off) = IsRegister rs1 × IsRegister rs2 × Is12Bit off
IsValid (Imm op rd rs1 imm) = IsRegister rd × IsRegister rs1 × Is12Bit imm
IsValid (Shift op rd rs1 amount) = IsRegister rd × IsRegister rs1 × amount < 64
IsValid (ImmW rd rs1 imm) = IsRegister rd × IsRegister rs1 × Is12Bit imm
IsValid (ShiftW op rd rs1 amount) = IsRegister rd × IsRegister rs1 × amount < 32
IsValid (Op op rd rs1 rs2) = IsRegister rd × IsRegister rs1 × IsRegister rs2
IsValid (OpW op rd rs1 rs2) = IsRegister rd × IsRegister rs1 × IsRegister rs2
IsValid (Fence rd rs1 bits) = IsRegister rd × IsRegister rs1 × bits < 4096
IsValid Ecall = Unit {0}
IsValid Ebreak = Unit {0}
IsValid (Amo op wide rd rs1 rs2 order) = IsRegister rd × IsRegister rs1 × IsRegister rs2 × order < 4
