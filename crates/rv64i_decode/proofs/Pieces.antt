-- The immediates whose bits stand apart, taken from their pieces and put into them.
use Rattle.std.proofs.Common.{◌≡◌, ℕ, ◌+◌, ◌*◌, ◌/◌, ◌%◌, ◌^◌, ◌<◌, ℤ, pos, negsuc, subst, arith}
use Rattle.rv64i_decode.specs.Immediate.{IsBranchOffset, IsImmediateB, IsImmediateJ, IsJumpOffset, IsTwosComplement}
use Rattle.rv64i_decode.specs.Word.{WordFields}

-- a B immediate from the pieces of rd and funct7
pub immediate_b : (f : WordFields) (bits : ℕ) (imm : ℤ) →
    bits ≡ 2 * (f.rd / 2) + 2 ^ 5 * (f.funct7 % 2 ^ 6) + 2 ^ 11 * (f.rd % 2) + 2 ^ 12 * (f.funct7 / 2 ^ 6) →
    IsTwosComplement (2 ^ 12) bits imm → IsImmediateB f imm
immediate_b f bits imm pieces complement = record {
  imm11 = f.rd % 2;
  imm4_1 = f.rd / 2;
  imm10_5 = f.funct7 % 2 ^ 6;
  imm12 = f.funct7 / 2 ^ 6;
  imm11_bit = omega arith;
  imm10_5_bits = omega arith;
  bits_11_7 = omega arith;
  bits_31_25 = omega arith;
  value = subst (λ n. IsTwosComplement (2 ^ 12) n imm) pieces complement;
}

-- a J immediate from the pieces of rs2 and funct7
pub immediate_j : (f : WordFields) (bits : ℕ) (imm : ℤ) →
    bits ≡ 2 * (f.rs2 / 2) + 2 ^ 5 * (f.funct7 % 2 ^ 6) + 2 ^ 11 * (f.rs2 % 2) + 2 ^ 12 * f.funct3 + 2 ^ 15 * f.rs1 + 2 ^ 20 * (f.funct7 / 2 ^ 6) →
    IsTwosComplement (2 ^ 20) bits imm → IsImmediateJ f imm
immediate_j f bits imm pieces complement = record {
  imm11 = f.rs2 % 2;
  imm4_1 = f.rs2 / 2;
  imm10_5 = f.funct7 % 2 ^ 6;
  imm20 = f.funct7 / 2 ^ 6;
  imm11_bit = omega arith;
  imm10_5_bits = omega arith;
  bits_24_20 = omega arith;
  bits_31_25 = omega arith;
  value = subst (λ n. IsTwosComplement (2 ^ 20) n imm) pieces complement;
}

-- the bits of a branch's offset
bits_b : (bits : ℕ) (imm : ℤ) → IsBranchOffset imm → IsTwosComplement (2 ^ 12) bits imm →
    (bits < 2 ^ 13) × (bits % 2 ≡ 0)
bits_b bits (pos k) range complement = (omega arith, omega arith)
bits_b bits (negsuc k) range complement = (omega arith, omega arith)

-- a B immediate put into rd and funct7
pub immediate_b_put : (f : WordFields) (bits : ℕ) (imm : ℤ) → IsBranchOffset imm →
    IsTwosComplement (2 ^ 12) bits imm → f.rd ≡ bits / 2 ^ 11 % 2 + bits / 2 % 2 ^ 4 * 2 →
    f.funct7 ≡ bits / 2 ^ 5 % 2 ^ 6 + bits / 2 ^ 12 * 2 ^ 6 → IsImmediateB f imm
immediate_b_put f bits imm range complement rd funct7 =
    let even = bits_b bits imm range complement in
    immediate_b f bits imm (omega (arith, even.0, even.1)) complement

-- the bits of a jump's offset
bits_j : (bits : ℕ) (imm : ℤ) → IsJumpOffset imm → IsTwosComplement (2 ^ 20) bits imm →
    (bits < 2 ^ 21) × (bits % 2 ≡ 0)
bits_j bits (pos k) range complement = (omega arith, omega arith)
bits_j bits (negsuc k) range complement = (omega arith, omega arith)

-- a J immediate put into funct3, rs1, rs2 and funct7
pub immediate_j_put : (f : WordFields) (bits : ℕ) (imm : ℤ) → IsJumpOffset imm →
    IsTwosComplement (2 ^ 20) bits imm → f.funct3 ≡ bits / 2 ^ 12 % 2 ^ 3 →
    f.rs1 ≡ bits / 2 ^ 15 % 2 ^ 5 → f.rs2 ≡ bits / 2 ^ 11 % 2 + bits / 2 % 2 ^ 4 * 2 →
    f.funct7 ≡ bits / 2 ^ 5 % 2 ^ 6 + bits / 2 ^ 20 * 2 ^ 6 → IsImmediateJ f imm
immediate_j_put f bits imm range complement funct3 rs1 rs2 funct7 =
    let even = bits_j bits imm range complement in
    immediate_j f bits imm (omega (arith, even.0, even.1)) complement
