-- The fields of a word and its immediates, as they are computed.
use Rattle.std.proofs.Common.{◌≡◌, ℕ, ◌+◌, ◌-◌, ◌*◌, ◌/◌, ◌%◌, ◌^◌, ◌<◌, nat_lt, Bool, true, false, cond, pos, negsuc, refl, arith}
use Rattle.rv64i_decode.specs.Decode.{fields_of, imm_b, imm_i, imm_j, imm_s, imm_u, twos_complement}
use Rattle.rv64i_decode.specs.Immediate.{IsImmediateB, IsImmediateI, IsImmediateJ, IsImmediateS, IsImmediateU, IsTwosComplement}
use Rattle.rv64i_decode.specs.Word.{IsInRange, IsWord, WordFields}

-- the fields of a word
pub word_of_fields : (w : ℕ) → w < 2 ^ 32 → IsWord w (fields_of w)
word_of_fields w h = record {
  in_range = record {
    opcode = omega arith;
    rd = omega arith;
    funct3 = omega arith;
    rs1 = omega arith;
    rs2 = omega arith;
    funct7 = omega arith;
  };
  sum = omega arith;
}

-- a number from its two's complement
complement_by : (half n : ℕ) (b : Bool) → n < 2 * half → nat_lt n half ≡ b →
    IsTwosComplement half n (cond b (pos n) (negsuc (2 * half - (n + 1))))
complement_by half n true h e = (grind (arith, e), refl)
complement_by half n false h e = (grind (arith, e), grind (arith, e))

complement : (half n : ℕ) → n < 2 * half → IsTwosComplement half n (twos_complement half n)
complement half n h = complement_by half n (nat_lt n half) h refl

-- the immediates of the five formats
pub is_i : (f : WordFields) → IsInRange f → IsImmediateI f (imm_i f)
is_i f r = record { value = complement (2 ^ 11) (f.rs2 + 2 ^ 5 * f.funct7) (omega (arith, r.rs2, r.funct7)) }

pub is_s : (f : WordFields) → IsInRange f → IsImmediateS f (imm_s f)
is_s f r = record { value = complement (2 ^ 11) (f.rd + 2 ^ 5 * f.funct7) (omega (arith, r.rd, r.funct7)) }

pub is_u : (f : WordFields) → IsInRange f → IsImmediateU f (imm_u f)
is_u f r = record {
  value =
      complement (2 ^ 31) (2 ^ 12 * f.funct3 + 2 ^ 15 * f.rs1 + 2 ^ 20 * f.rs2 + 2 ^ 25 * f.funct7)
      (omega (arith, r.funct3, r.rs1, r.rs2, r.funct7));
}

pub is_b : (f : WordFields) → IsInRange f → IsImmediateB f (imm_b f)
is_b f r = record {
  imm11 = f.rd % 2;
  imm4_1 = f.rd / 2;
  imm10_5 = f.funct7 % 2 ^ 6;
  imm12 = f.funct7 / 2 ^ 6;
  imm11_bit = omega arith;
  imm10_5_bits = omega arith;
  bits_11_7 = omega arith;
  bits_31_25 = omega arith;
  value =
      complement (2 ^ 12) (2 * (f.rd / 2) + 2 ^ 5 * (f.funct7 % 2 ^ 6) + 2 ^ 11 * (f.rd % 2) + 2 ^ 12 * (f.funct7 / 2 ^ 6))
      (omega (arith, r.rd, r.funct7));
}

pub is_j : (f : WordFields) → IsInRange f → IsImmediateJ f (imm_j f)
is_j f r = record {
  imm11 = f.rs2 % 2;
  imm4_1 = f.rs2 / 2;
  imm10_5 = f.funct7 % 2 ^ 6;
  imm20 = f.funct7 / 2 ^ 6;
  imm11_bit = omega arith;
  imm10_5_bits = omega arith;
  bits_24_20 = omega arith;
  bits_31_25 = omega arith;
  value =
      complement (2 ^ 20)
      (2 * (f.rs2 / 2) + 2 ^ 5 * (f.funct7 % 2 ^ 6) + 2 ^ 11 * (f.rs2 % 2) + 2 ^ 12 * f.funct3 + 2 ^ 15 * f.rs1 + 2 ^ 20 * (f.funct7 / 2 ^ 6))
      (omega (arith, r.rs2, r.funct7, r.funct3, r.rs1));
}
