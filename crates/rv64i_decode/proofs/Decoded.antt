-- The instruction that is computed of a word is the one of its row.
use Rattle.std.proofs.Common.{◌≡◌, ℕ, ◌+◌, ◌*◌, ◌/◌, ◌%◌, ◌^◌, ◌<◌, ◌==◌, ◌&&◌, Bool, true, false, cond, find, List, [], ◌∷◌, Option, Some, None, option_map, IfSome, refl, sym, subst, arith}
use Rattle.std.specs.Option.{option_or}
use Rattle.rv64i_decode.specs.declared.instr.Instr.{Instr}
use Rattle.rv64i_decode.specs.declared.instr.Instr.TheVariants.{Jalr, Branch, Load, Store, Imm, Shift, ImmW, ShiftW, Op, OpW, Fence, Ecall, Ebreak, Amo}
use Rattle.rv64i_decode.specs.declared.op.BranchOp.TheVariants.{Beq, Bne, Blt, Bge, Bltu, Bgeu}
use Rattle.rv64i_decode.specs.declared.op.LoadOp.TheVariants.{Lb, Lh, Lw, Ld, Lbu, Lhu, Lwu}
use Rattle.rv64i_decode.specs.declared.op.StoreOp.TheVariants.{Sb, Sh, Sw, Sd}
use Rattle.rv64i_decode.specs.declared.op.ImmOp.TheVariants.{Addi, Slti, Sltiu, Xori, Ori, Andi}
use Rattle.rv64i_decode.specs.declared.op.ShiftOp.TheVariants.{Left, Right, RightSigned}
use Rattle.rv64i_decode.specs.declared.op.RegOp.TheVariants as reg
use Rattle.rv64i_decode.specs.declared.op.RegWOp.TheVariants.{Addw, Sllw, Srlw, Subw, Sraw}
use Rattle.rv64i_decode.specs.declared.op.AmoOp.TheVariants as amo
use Rattle.rv64i_decode.specs.AmoOp.{amo_funct3, amo_funct5}
use Rattle.rv64i_decode.specs.Decode.{amo_of, amo_op, amo_with, branch_of, branch_op, fence_of, fields_of, imm_b, imm_i, imm_op, imm_s, instr_in, instr_of, jalr_of, load_of, load_op, op_32_of, op_imm_32_of, op_imm_of, op_of, reg_op, reg_w_op, shift_of, shift_op, shift_w_op, store_of, store_op, system_of}
use Rattle.rv64i_decode.specs.Op.{branch_funct3, imm_funct3, load_funct3, reg_funct3, reg_funct7, reg_w_funct3, reg_w_funct7, shift_funct3, shift_funct6, shift_funct7, store_funct3}
use Rattle.rv64i_decode.specs.Row.{HasFields, Row}
use Rattle.rv64i_decode.specs.Valid.{IsValid}
use Rattle.rv64i_decode.specs.Word.{IsInRange, IsWord, WordFields}
use Rattle.rv64i_decode.proofs.Ranges.{IsValid-HasFields}
use Rattle.rv64i_decode.proofs.Immediates.{is_b, is_i, is_j, is_s, is_u, word_of_fields}

-- an instruction with these fields, where there is one
abbrev IsSound : WordFields → Option Instr → Type 0
IsSound f decoded = IfSome decoded (HasFields f)

-- one of two, by a test
either : (f : WordFields) (b : Bool) (x y : Option Instr) → (b ≡ true → IsSound f x) → IsSound f y → IsSound f (cond b x y)
either f true x y here other = here refl
either f false x y here other = other

-- the first that there is
first_of : (f : WordFields) (x y : Option Instr) → IsSound f x → IsSound f y → IsSound f (option_or x y)
first_of f (Some i) y sound other = sound
first_of f None y sound other = other

-- the operation that a search finds
found_at : {A : Type 0} (f : WordFields) (g : A → Instr) (b : Bool) (x : A) (rest : Option A) →
    (b ≡ true → HasFields f (g x)) → IsSound f (option_map g rest) → IsSound f (option_map g (cond b (Some x) rest))
found_at f g true x rest here other = here refl
found_at f g false x rest here other = other

found : {A : Type 0} (f : WordFields) (g : A → Instr) (p : A → Bool) (ops : List A) →
    ((op : A) → p op ≡ true → HasFields f (g op)) → IsSound f (option_map g (find p ops))
found f g p [] all = tt
found f g p (op ∷ ops) all = found_at f g (p op) op (find p ops) (all op) (found f g p ops all)

-- what a test of fields says
same : (a b : ℕ) → (a == b) ≡ true → a ≡ b
same a b h = grind (arith, h)

both : (a b c d : ℕ) → (a == b && c == d) ≡ true → (a ≡ b) × (c ≡ d)
both a b c d h = (grind (arith, h), grind (arith, h))

four : (a b c d : ℕ) → (a == 0 && b == 0 && c == 0 && d == 0) ≡ true → (a ≡ 0) × (b ≡ 0) × (c ≡ 0) × (d ≡ 0)
four a b c d h = (grind (arith, h), grind (arith, h), grind (arith, h), grind (arith, h))

module _ (f : WordFields) (r : IsInRange f) where
  branch_sound : f.opcode ≡ 0b1100011 → IsSound f (branch_of f)
  unfolding branch_op
  branch_sound o =
      found f (λ op. Branch op f.rs1 f.rs2 (imm_b f))
      (λ op. branch_funct3 op == f.funct3)
      (Beq ∷ Bne ∷ Blt ∷ Bge ∷ Bltu ∷ Bgeu ∷ []) (λ op h. record {
        opcode_is = o;
        funct3_is = sym (same (branch_funct3 op) f.funct3 h);
        rs1_is = refl;
        rs2_is = refl;
        imm_is = is_b f r;
      })

  load_sound : f.opcode ≡ 0b0000011 → IsSound f (load_of f)
  unfolding load_op
  load_sound o =
      found f (λ op. Load op f.rd f.rs1 (imm_i f))
      (λ op. load_funct3 op == f.funct3)
      (Lb ∷ Lh ∷ Lw ∷ Ld ∷ Lbu ∷ Lhu ∷ Lwu ∷ []) (λ op h. record {
        opcode_is = o;
        funct3_is = sym (same (load_funct3 op) f.funct3 h);
        rd_is = refl;
        rs1_is = refl;
        imm_is = is_i f r;
      })

  store_sound : f.opcode ≡ 0b0100011 → IsSound f (store_of f)
  unfolding store_op
  store_sound o =
      found f (λ op. Store op f.rs1 f.rs2 (imm_s f))
      (λ op. store_funct3 op == f.funct3)
      (Sb ∷ Sh ∷ Sw ∷ Sd ∷ []) (λ op h. record {
        opcode_is = o;
        funct3_is = sym (same (store_funct3 op) f.funct3 h);
        rs1_is = refl;
        rs2_is = refl;
        imm_is = is_s f r;
      })

  imm_sound : f.opcode ≡ 0b0010011 → IsSound f (option_map (λ op. Imm op f.rd f.rs1 (imm_i f)) (imm_op f.funct3))
  unfolding imm_op
  imm_sound o =
      found f (λ op. Imm op f.rd f.rs1 (imm_i f))
      (λ op. imm_funct3 op == f.funct3)
      (Addi ∷ Slti ∷ Sltiu ∷ Xori ∷ Ori ∷ Andi ∷ []) (λ op h. record {
        opcode_is = o;
        funct3_is = sym (same (imm_funct3 op) f.funct3 h);
        rd_is = refl;
        rs1_is = refl;
        imm_is = is_i f r;
      })

  shift_sound : f.opcode ≡ 0b0010011 → IsSound f (shift_of f)
  unfolding shift_op
  shift_sound o =
      found f (λ op. Shift op f.rd f.rs1 (f.rs2 + 2 ^ 5 * (f.funct7 % 2)))
      (λ op. shift_funct3 op == f.funct3 && shift_funct6 op == f.funct7 / 2)
      (Left ∷ Right ∷ RightSigned ∷ []) (λ op h. record {
        opcode_is = o;
        funct3_is = sym (both (shift_funct3 op) f.funct3 (shift_funct6 op) (f.funct7 / 2) h).0;
        rd_is = refl;
        rs1_is = refl;
        amount_bits = omega (arith, r.rs2);
        bits_31_20 = omega (arith, (both (shift_funct3 op) f.funct3 (shift_funct6 op) (f.funct7 / 2) h).1);
      })

  op_sound : f.opcode ≡ 0b0110011 → IsSound f (op_of f)
  unfolding reg_op
  op_sound o =
      found f (λ op. Op op f.rd f.rs1 f.rs2)
      (λ op. reg_funct3 op == f.funct3 && reg_funct7 op == f.funct7)
      (reg.Add ∷ reg.Sll ∷ reg.Slt ∷ reg.Sltu ∷ reg.Xor ∷ reg.Srl ∷ reg.Or ∷ reg.And ∷ reg.Sub ∷ reg.Sra ∷ []) (λ op h. record {
        opcode_is = o;
        funct3_is = sym (both (reg_funct3 op) f.funct3 (reg_funct7 op) f.funct7 h).0;
        funct7_is = sym (both (reg_funct3 op) f.funct3 (reg_funct7 op) f.funct7 h).1;
        rd_is = refl;
        rs1_is = refl;
        rs2_is = refl;
      })

  shift_w_sound : f.opcode ≡ 0b0011011 → IsSound f (option_map (λ op. ShiftW op f.rd f.rs1 f.rs2) (shift_w_op f.funct3 f.funct7))
  unfolding shift_w_op
  shift_w_sound o =
      found f (λ op. ShiftW op f.rd f.rs1 f.rs2)
      (λ op. shift_funct3 op == f.funct3 && shift_funct7 op == f.funct7)
      (Left ∷ Right ∷ RightSigned ∷ []) (λ op h. record {
        opcode_is = o;
        funct3_is = sym (both (shift_funct3 op) f.funct3 (shift_funct7 op) f.funct7 h).0;
        funct7_is = sym (both (shift_funct3 op) f.funct3 (shift_funct7 op) f.funct7 h).1;
        rd_is = refl;
        rs1_is = refl;
        rs2_is = refl;
      })

  op_32_sound : f.opcode ≡ 0b0111011 → IsSound f (op_32_of f)
  unfolding reg_w_op
  op_32_sound o =
      found f (λ op. OpW op f.rd f.rs1 f.rs2)
      (λ op. reg_w_funct3 op == f.funct3 && reg_w_funct7 op == f.funct7)
      (Addw ∷ Sllw ∷ Srlw ∷ Subw ∷ Sraw ∷ []) (λ op h. record {
        opcode_is = o;
        funct3_is = sym (both (reg_w_funct3 op) f.funct3 (reg_w_funct7 op) f.funct7 h).0;
        funct7_is = sym (both (reg_w_funct3 op) f.funct3 (reg_w_funct7 op) f.funct7 h).1;
        rd_is = refl;
        rs1_is = refl;
        rs2_is = refl;
      })

  amo_sound : (wide : Bool) → f.opcode ≡ 0b0101111 → f.funct3 ≡ amo_funct3 wide → IsSound f (amo_with f wide)
  unfolding amo_op
  amo_sound wide o funct3 =
      found f (λ op. Amo op wide f.rd f.rs1 f.rs2 (f.funct7 % 2 ^ 2))
      (λ op. amo_funct5 op == f.funct7 / 2 ^ 2)
      (amo.Add ∷ amo.Swap ∷ amo.Xor ∷ amo.Or ∷ amo.And ∷ amo.Min ∷ amo.Max ∷ amo.Minu ∷ amo.Maxu ∷ []) (λ op h. record {
        opcode_is = o;
        funct3_is = funct3;
        rd_is = refl;
        rs1_is = refl;
        rs2_is = refl;
        order_bits = omega arith;
        bits_31_25 = omega (arith, same (amo_funct5 op) (f.funct7 / 2 ^ 2) h);
      })

  jalr_sound : f.opcode ≡ 0b1100111 → IsSound f (jalr_of f)
  jalr_sound o =
      either f (f.funct3 == 0) (Some (Jalr f.rd f.rs1 (imm_i f))) None
      (λ h. record { opcode_is = o; funct3_is = same f.funct3 0 h; rd_is = refl; rs1_is = refl; imm_is = is_i f r })
      tt

  fence_sound : f.opcode ≡ 0b0001111 → IsSound f (fence_of f)
  fence_sound o =
      either f (f.funct3 == 0) (Some (Fence f.rd f.rs1 (f.rs2 + 2 ^ 5 * f.funct7))) None
      (λ h. record { opcode_is = o; funct3_is = same f.funct3 0 h; rd_is = refl; rs1_is = refl; bits_31_20 = refl })
      tt

  op_imm_sound : f.opcode ≡ 0b0010011 → IsSound f (op_imm_of f)
  op_imm_sound o =
      first_of f (option_map (λ op. Imm op f.rd f.rs1 (imm_i f)) (imm_op f.funct3)) (shift_of f) (imm_sound o) (shift_sound o)

  op_imm_32_sound : f.opcode ≡ 0b0011011 → IsSound f (op_imm_32_of f)
  op_imm_32_sound o =
      either f (f.funct3 == 0) (Some (ImmW f.rd f.rs1 (imm_i f))) (option_map (λ op. ShiftW op f.rd f.rs1 f.rs2) (shift_w_op f.funct3 f.funct7))
      (λ h. record { opcode_is = o; funct3_is = same f.funct3 0 h; rd_is = refl; rs1_is = refl; imm_is = is_i f r })
      (shift_w_sound o)

  -- a word of the system's opcode, all of whose other fields but rs2 are 0
  environment : f.opcode ≡ 0b1110011 → (f.funct3 == 0 && f.funct7 == 0 && f.rd == 0 && f.rs1 == 0) ≡ true →
      IsSound f (cond (f.rs2 == 0) (Some Ecall) (cond (f.rs2 == 1) (Some Ebreak) None))
  environment o h =
      let zeros = four f.funct3 f.funct7 f.rd f.rs1 h in
      either f (f.rs2 == 0) (Some Ecall) (cond (f.rs2 == 1) (Some Ebreak) None)
      (λ e. record { opcode_is = o; funct3_is = zeros.0; funct7_is = zeros.1; rd_is = zeros.2; rs1_is = zeros.3; rs2_is = same f.rs2 0 e })
      (either f (f.rs2 == 1) (Some Ebreak) None
      (λ e. record { opcode_is = o; funct3_is = zeros.0; funct7_is = zeros.1; rd_is = zeros.2; rs1_is = zeros.3; rs2_is = same f.rs2 1 e })
      tt)

  system_sound : f.opcode ≡ 0b1110011 → IsSound f (system_of f)
  system_sound o =
      either f (f.funct3 == 0 && f.funct7 == 0 && f.rd == 0 && f.rs1 == 0)
      (cond (f.rs2 == 0) (Some Ecall) (cond (f.rs2 == 1) (Some Ebreak) None)) None
      (environment o) tt

  amo_of_sound : f.opcode ≡ 0b0101111 → IsSound f (amo_of f)
  amo_of_sound o =
      either f (f.funct3 == 0b010) (amo_with f false) (cond (f.funct3 == 0b011) (amo_with f true) None)
      (λ h. amo_sound false o (same f.funct3 0b010 h))
      (either f (f.funct3 == 0b011) (amo_with f true) None (λ h. amo_sound true o (same f.funct3 0b011 h)) tt)

  -- one more opcode
  by_opcode : (opcode : ℕ) (x y : Option Instr) → (f.opcode ≡ opcode → IsSound f x) → IsSound f y → IsSound f (cond (f.opcode == opcode) x y)
  by_opcode opcode x y here other = either f (f.opcode == opcode) x y (λ h. here (same f.opcode opcode h)) other

  -- the instruction of these fields has them
  sound : IsSound f (instr_in f)
  unfolding instr_in
  sound =
      by_opcode 0b0110111 _ _ (λ o. record { opcode_is = o; rd_is = refl; imm_is = is_u f r })
      (by_opcode 0b0010111 _ _ (λ o. record { opcode_is = o; rd_is = refl; imm_is = is_u f r })
      (by_opcode 0b1101111 _ _ (λ o. record { opcode_is = o; rd_is = refl; imm_is = is_j f r })
      (by_opcode 0b1100111 _ _ jalr_sound
      (by_opcode 0b1100011 _ _ branch_sound
      (by_opcode 0b0000011 _ _ load_sound
      (by_opcode 0b0100011 _ _ store_sound
      (by_opcode 0b0010011 _ _ op_imm_sound
      (by_opcode 0b0110011 _ _ op_sound
      (by_opcode 0b0011011 _ _ op_imm_32_sound
      (by_opcode 0b0111011 _ _ op_32_sound
      (by_opcode 0b0001111 _ _ fence_sound
      (by_opcode 0b1110011 _ _ system_sound
      (by_opcode 0b0101111 _ _ amo_of_sound tt)))))))))))))

-- the instruction that is computed of a word is of its row, and valid
row_of : (w : ℕ) (f : WordFields) (decoded : Option Instr) (i : Instr) → IsWord w f → IsSound f decoded → decoded ≡ Some i → Row w i × IsValid i
row_of w f decoded i word sound e =
    let fields : HasFields f i = subst (λ d. IfSome d (HasFields f)) e sound in
    (record { fields = f; word = word; row = fields }, IsValid-HasFields f i word.in_range fields)

pub decoded_row : (w : ℕ) → w < 2 ^ 32 → (i : Instr) → instr_of w ≡ Some i → Row w i × IsValid i
unfolding instr_of
decoded_row w h i e =
    let word = word_of_fields w h in
    row_of w (fields_of w) (instr_in (fields_of w)) i word (sound (fields_of w) word.in_range) e
