-- The immediates of the five formats that have one (RISC-V Unprivileged ISA, RV32I, Immediate Encoding Variants).
use Rattle.std.specs.Prelude.{◌≡◌, ℕ, ◌+◌, ◌*◌, ◌^◌, ◌%◌, ◌<◌, ℤ, pos, negsuc, ◌≤ℤ◌}
use Rattle.std.specs.Int.RustNames.{unsigned_abs}
use Rattle.rv64i_decode.specs.Word.{WordFields}

-- the number whose two's complement is n, where the sign bit counts `half`; `negsuc k` is -(k + 1)
abbrev pub IsTwosComplement : ℕ → ℕ → ℤ → Type 0
IsTwosComplement half n (pos k) = (k < half) × (n ≡ k)
IsTwosComplement half n (negsuc k) = (k < half) × (n + (k + 1) ≡ 2 * half)

-- I: imm[11:0] is bits 31:20
pub record IsImmediateI (f : WordFields) (imm : ℤ) : Type 0 where
  pub value : IsTwosComplement (2 ^ 11) (f.rs2 + 2 ^ 5 * f.funct7) imm

-- S: imm[4:0] is bits 11:7, imm[11:5] is bits 31:25
pub record IsImmediateS (f : WordFields) (imm : ℤ) : Type 0 where
  pub value : IsTwosComplement (2 ^ 11) (f.rd + 2 ^ 5 * f.funct7) imm

-- B: imm[0] is 0, imm[11] is bit 7, imm[4:1] is bits 11:8, imm[10:5] is bits 30:25,
-- imm[12] is bit 31
pub record IsImmediateB (f : WordFields) (imm : ℤ) : Type 0 where
  pub imm11 : ℕ
  pub imm4_1 : ℕ
  pub imm10_5 : ℕ
  pub imm12 : ℕ
  pub imm11_bit : imm11 < 2
  pub imm10_5_bits : imm10_5 < 2 ^ 6
  pub bits_11_7 : f.rd ≡ imm11 + 2 * imm4_1
  pub bits_31_25 : f.funct7 ≡ imm10_5 + 2 ^ 6 * imm12
  pub value :
      IsTwosComplement (2 ^ 12)
      (2 * imm4_1 + 2 ^ 5 * imm10_5 + 2 ^ 11 * imm11 + 2 ^ 12 * imm12)
      imm

-- U: imm[11:0] is 0, imm[31:12] is bits 31:12
pub record IsImmediateU (f : WordFields) (imm : ℤ) : Type 0 where
  pub value :
      IsTwosComplement (2 ^ 31)
      (2 ^ 12 * f.funct3 + 2 ^ 15 * f.rs1 + 2 ^ 20 * f.rs2 + 2 ^ 25 * f.funct7)
      imm

-- J: imm[0] is 0, imm[19:12] is bits 19:12 (rs1 and funct3), imm[11] is bit 20, imm[10:1] is bits 30:21,
-- imm[20] is bit 31
pub record IsImmediateJ (f : WordFields) (imm : ℤ) : Type 0 where
  pub imm11 : ℕ
  pub imm4_1 : ℕ
  pub imm10_5 : ℕ
  pub imm20 : ℕ
  pub imm11_bit : imm11 < 2
  pub imm10_5_bits : imm10_5 < 2 ^ 6
  pub bits_24_20 : f.rs2 ≡ imm11 + 2 * imm4_1
  pub bits_31_25 : f.funct7 ≡ imm10_5 + 2 ^ 6 * imm20
  pub value :
      IsTwosComplement (2 ^ 20)
      (2 * imm4_1 + 2 ^ 5 * imm10_5 + 2 ^ 11 * imm11 + 2 ^ 12 * f.funct3 + 2 ^ 15 * f.rs1 + 2 ^ 20 * imm20)
      imm

-- the range of a number between two, both of them in it
abbrev pub IsBetween : ℤ → ℤ → ℤ → Type 0
IsBetween least greatest z = (least ≤ℤ z) × (z ≤ℤ greatest)

-- a multiple of n
abbrev pub IsMultiple : ℕ → ℤ → Type 0
IsMultiple n z = unsigned_abs z % n ≡ 0

-- the range of a 12-bit immediate, I or S: from -2048 to 2047
abbrev pub Is12Bit : ℤ → Type 0
Is12Bit z = IsBetween (negsuc 2047) (pos 2047) z

-- the range of a B immediate: the even numbers from -4096 to 4094
abbrev pub IsBranchOffset : ℤ → Type 0
IsBranchOffset z = IsBetween (negsuc 4095) (pos 4094) z × IsMultiple 2 z

-- the range of a U immediate: the multiples of 4096 from -2^31 to 2^31 - 4096
abbrev pub IsUpperImmediate : ℤ → Type 0
IsUpperImmediate z = IsBetween (negsuc 2147483647) (pos 2147479552) z × IsMultiple 4096 z

-- the range of a J immediate: the even numbers from -1048576 to 1048574
abbrev pub IsJumpOffset : ℤ → Type 0
IsJumpOffset z = IsBetween (negsuc 1048575) (pos 1048574) z × IsMultiple 2 z
