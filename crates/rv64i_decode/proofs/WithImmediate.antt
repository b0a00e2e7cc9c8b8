-- The rows of an operation with an immediate, apart from the shifts under the same opcode.
use Rattle.std.proofs.Common.{◌≡◌, ◌≢◌, ℕ, ◌+◌, ◌*◌, ◌^◌, ◌%◌, ℤ, pos, negsuc, Some, refl, subst, ap, arith}
use Rattle.rv64i_decode.specs.declared.instr.Instr.{Instr}
use Rattle.rv64i_decode.specs.declared.instr.Instr.TheVariants.{Imm, Shift, Lui}
use Rattle.rv64i_decode.specs.declared.op.ImmOp.{ImmOp}
use Rattle.rv64i_decode.specs.declared.op.ImmOp.TheVariants.{Addi}
use Rattle.rv64i_decode.specs.declared.op.ShiftOp.{ShiftOp}
use Rattle.rv64i_decode.specs.declared.op.ShiftOp.TheVariants.{Left, Right, RightSigned}
use Rattle.rv64i_decode.specs.Immediate.{IsImmediateI, IsTwosComplement}
use Rattle.rv64i_decode.specs.Op.{imm_funct3, shift_funct3}
use Rattle.rv64i_decode.specs.Row.{HasFields, IsDecoded}
use Rattle.rv64i_decode.specs.Word.{WordFields}

-- the low two bits of a shift's funct3, which no other operation with an immediate has
shift_funct3_low : (op : ShiftOp) → shift_funct3 op % 4 ≡ 1
shift_funct3_low Left = refl
shift_funct3_low Right = refl
shift_funct3_low RightSigned = refl

imm_funct3_low : (op : ImmOp) → imm_funct3 op % 4 ≢ 1
imm_funct3_low Addi e = absurd (omega arith)
imm_funct3_low _ e = absurd (omega arith)

-- a two's complement is of one number
one_number : (half n : ℕ) (a b : ℤ) → IsTwosComplement half n a → IsTwosComplement half n b → a ≡ b
one_number half n (pos j) (pos k) a b = ap pos (omega arith)
one_number half n (pos j) (negsuc k) a b = absurd (omega arith)
one_number half n (negsuc j) (pos k) a b = absurd (omega arith)
one_number half n (negsuc j) (negsuc k) a b = ap negsuc (omega arith)

module _
    (f : WordFields) (op : ImmOp) (imm : ℤ)
    (opcode : f.opcode ≡ 0b0010011)
    (funct3 : f.funct3 ≡ imm_funct3 op)
    (only : (other : ImmOp) → f.funct3 ≡ imm_funct3 other → op ≡ other)
    (value : IsImmediateI f imm) where
  imm_whole : (i : Instr) → HasFields f i → Imm op f.rd f.rs1 imm ≡ i
  imm_whole (Lui _ _) h = absurd (omega arith)
  imm_whole (Imm op' rd rs1 imm') h =
      let same_op : op ≡ op' = only op' h.funct3_is in
      let same_imm : imm ≡ imm' = one_number (2 ^ 11) (f.rs2 + 2 ^ 5 * f.funct7) imm imm' value.value h.imm_is.value in
      let same_rd : f.rd ≡ rd = h.rd_is in
      let same_rs1 : f.rs1 ≡ rs1 = h.rs1_is in
      cc
  imm_whole (Shift op' rd rs1 amount) h =
      let low : imm_funct3 op % 4 ≡ 1 = omega (arith, shift_funct3_low op') in
      absurd (imm_funct3_low op low)
  imm_whole _ h = absurd (omega arith)

  -- what these fields decode to
  pub imm_decoded : IsDecoded f (Some (Imm op f.rd f.rs1 imm))
  imm_decoded = record {
    sound = λ i e.
        let same : Imm op f.rd f.rs1 imm ≡ i = cc in
        subst (λ x. HasFields f x) same (record { opcode_is = opcode; funct3_is = funct3; rd_is = refl; rs1_is = refl; imm_is = value });
    whole = λ i h. ap Some (imm_whole i h);
  }
