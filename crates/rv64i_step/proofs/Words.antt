-- The results of the W forms: a word, sign-extended.
use Rattle.std.proofs.Common.{◌≡◌, ℕ, zero, suc, ◌%◌, ◌^◌, ◌<◌, length, refl, sym, ap, subst, arith}
use Rattle.std.proofs.lemmas.Int.{ints}
use Rattle.rv64i_decode.specs.declared.op.RegWOp.{RegWOp}
use Rattle.rv64i_decode.specs.declared.op.RegWOp.TheVariants.{Addw, Sllw, Srlw, Subw, Sraw}
use Rattle.rv64i_decode.specs.declared.op.ShiftOp.{ShiftOp}
use Rattle.rv64i_decode.specs.declared.op.ShiftOp.TheVariants.{Left, Right, RightSigned}
use Rattle.rv64i_step.specs.Arithmetic.{bits64, sum64, low_word, extended_word, right, right32_signed, shift_w_result, reg_w_result}
use Rattle.rv64i_step.specs.Execute.{executed}
use Rattle.rv64i_step.specs.Laws.{IsWordAt, ResultsAreWords}
use Rattle.rv64i_step.specs.Vcpu.{VcpuData, with_reg, reg_of}
use Rattle.rv64i_step.proofs.Registers.{reg_of-with_reg_same}

-- the low word of a word sign-extended is that word
low_word-extended_word : (x : ℕ) → x < 2 ^ 32 → low_word (extended_word x) ≡ x
low_word-extended_word x below = grind (arith, ints)

-- an unsigned shift to the right makes no number larger
right_below : (a n m : ℕ) → a < m → right a n < m
right_below a n m below = grind arith

-- a signed one stays a word
signed_right_below : (a n : ℕ) → a < 2 ^ 32 → right32_signed a n < 2 ^ 32
signed_right_below a n below = grind (arith, ints)

shift_below : (op : ShiftOp) (a n : ℕ) → a < 2 ^ 32 → shift_w_result op a n < 2 ^ 32
unfolding shift_w_result
shift_below Left a n below = omega arith
shift_below Right a n below = right_below a n (2 ^ 32) below
shift_below RightSigned a n below = signed_right_below a n below

words_below : (op : RegWOp) (a b : ℕ) → a < 2 ^ 32 → b < 2 ^ 32 → reg_w_result op a b < 2 ^ 32
unfolding reg_w_result
words_below Addw a b p q = omega arith
words_below Sllw a b p q = omega arith
words_below Srlw a b p q = right_below a (b % 32) (2 ^ 32) p
words_below Subw a b p q = omega arith
words_below Sraw a b p q = signed_right_below a (b % 32) p

-- a register that got a word, sign-extended
written_word : (v : VcpuData) (rd x : ℕ) → length v.regs ≡ 31 → rd < 32 → x < 2 ^ 32 → IsWordAt (with_reg v rd (extended_word x)) rd
written_word v zero x count below word = refl
written_word v (suc rd) x count below word =
    subst (λ (r : ℕ). r ≡ extended_word (low_word r)) (sym (reg_of-with_reg_same v (suc rd) (extended_word x) count (omega arith) below))
    (sym (ap (λ n. extended_word n) (low_word-extended_word x word)))

low_word_below : (a : ℕ) → low_word a < 2 ^ 32
low_word_below a = omega arith

pub results_are_words : ResultsAreWords
unfolding executed
results_are_words = record {
  imm = λ shape v rd rs1 imm count below. written_word v rd _ count below (low_word_below (sum64 (reg_of v rs1) (bits64 imm)));
  shift = λ shape v op rd rs1 amount count below. written_word v rd _ count below (shift_below op _ amount (low_word_below (reg_of v rs1)));
  registers = λ shape v op rd rs1 rs2 count below.
      written_word v rd _ count below (words_below op _ _ (low_word_below (reg_of v rs1)) (low_word_below (reg_of v rs2)));
}
