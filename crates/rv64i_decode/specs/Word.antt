-- The fields of an instruction word (RISC-V Unprivileged ISA, RV32I, Base Instruction Formats).
use Rattle.std.specs.Prelude.{◌≡◌, ℕ, ◌+◌, ◌*◌, ◌^◌, ◌<◌}

-- the six fields of the R format, into which each 32-bit word falls
pub record WordFields : Type 0 where
  pub opcode : ℕ
  pub rd : ℕ
  pub funct3 : ℕ
  pub rs1 : ℕ
  pub rs2 : ℕ
  pub funct7 : ℕ

-- each field is within its number of bits
pub record IsInRange (f : WordFields) : Type 0 where
  pub opcode : f.opcode < 2 ^ 7
  pub rd : f.rd < 2 ^ 5
  pub funct3 : f.funct3 < 2 ^ 3
  pub rs1 : f.rs1 < 2 ^ 5
  pub rs2 : f.rs2 < 2 ^ 5
  pub funct7 : f.funct7 < 2 ^ 7

-- the word with these fields: opcode is bits 6:0, rd 11:7, funct3 14:12, rs1 19:15, rs2 24:20, funct7 31:25
pub record IsWord (w : ℕ) (f : WordFields) : Type 0 where
  pub in_range : IsInRange f
  pub sum :
      w ≡ f.opcode + 2 ^ 7 * f.rd + 2 ^ 12 * f.funct3 + 2 ^ 15 * f.rs1 + 2 ^ 20 * f.rs2 + 2 ^ 25 * f.funct7
