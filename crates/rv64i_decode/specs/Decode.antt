-- The instruction that a word is, computed: the same table as in Row, read from the word to the instruction
-- (RISC-V Unprivileged ISA, RV32/64G Instruction Set Listings).
use Rattle.std.specs.Prelude.{ℕ, ◌+◌, ◌-◌, ◌*◌, ◌/◌, ◌%◌, ◌^◌, ℤ, pos, negsuc, nat_lt, ◌==◌, ◌&&◌, Bool, true, false, if◌then◌else◌, [], ◌∷◌, Option, Some, None, find, option_map}
use Rattle.std.specs.Option.{option_or}
use Rattle.rv64i_decode.specs.declared.instr.Instr.{Instr}
use Rattle.rv64i_decode.specs.declared.instr.Instr.TheVariants.{Lui, Auipc, Jal, Jalr, Branch, Load, Store, Imm, Shift, ImmW, ShiftW, Op, OpW, Fence, Ecall, Ebreak, Amo}
use Rattle.rv64i_decode.specs.declared.opcode.TheConstants.{LOAD, MISC_MEM, OP_IMM, AUIPC, OP_IMM_32, STORE, AMO, OP, LUI, OP_32, BRANCH, JALR, JAL, SYSTEM}
use Rattle.rv64i_decode.specs.declared.op.BranchOp.{BranchOp}
use Rattle.rv64i_decode.specs.declared.op.BranchOp.TheVariants.{Beq, Bne, Blt, Bge, Bltu, Bgeu}
use Rattle.rv64i_decode.specs.declared.op.LoadOp.{LoadOp}
use Rattle.rv64i_decode.specs.declared.op.LoadOp.TheVariants.{Lb, Lh, Lw, Ld, Lbu, Lhu, Lwu}
use Rattle.rv64i_decode.specs.declared.op.StoreOp.{StoreOp}
use Rattle.rv64i_decode.specs.declared.op.StoreOp.TheVariants.{Sb, Sh, Sw, Sd}
use Rattle.rv64i_decode.specs.declared.op.ImmOp.{ImmOp}
use Rattle.rv64i_decode.specs.declared.op.ImmOp.TheVariants.{Addi, Slti, Sltiu, Xori, Ori, Andi}
use Rattle.rv64i_decode.specs.declared.op.ShiftOp.{ShiftOp}
use Rattle.rv64i_decode.specs.declared.op.ShiftOp.TheVariants.{Left, Right, RightSigned}
use Rattle.rv64i_decode.specs.declared.op.RegOp.{RegOp}
use Rattle.rv64i_decode.specs.declared.op.RegOp.TheVariants as reg
use Rattle.rv64i_decode.specs.declared.op.RegWOp.{RegWOp}
use Rattle.rv64i_decode.specs.declared.op.RegWOp.TheVariants.{Addw, Sllw, Srlw, Subw, Sraw}
use Rattle.rv64i_decode.specs.declared.op.AmoOp.{AmoOp}
use Rattle.rv64i_decode.specs.declared.op.AmoOp.TheVariants as amo
use Rattle.rv64i_decode.specs.AmoOp.{amo_funct5}
use Rattle.rv64i_decode.specs.Op.{branch_funct3, load_funct3, store_funct3, imm_funct3, shift_funct3, shift_funct6, shift_funct7, reg_funct3, reg_funct7, reg_w_funct3, reg_w_funct7}
use Rattle.rv64i_decode.specs.Word.{WordFields}

-- the fields of a word
abbrev pub fields_of : ℕ → WordFields
fields_of w = record {
  opcode = w % 2 ^ 7;
  rd = w / 2 ^ 7 % 2 ^ 5;
  funct3 = w / 2 ^ 12 % 2 ^ 3;
  rs1 = w / 2 ^ 15 % 2 ^ 5;
  rs2 = w / 2 ^ 20 % 2 ^ 5;
  funct7 = w / 2 ^ 25;
}

-- the number whose two's complement is n, where the sign bit counts `half`
abbrev pub twos_complement : ℕ → ℕ → ℤ
twos_complement half n = if nat_lt n half then pos n else negsuc (2 * half - (n + 1))

-- the immediates of the five formats
abbrev pub imm_i : WordFields → ℤ
imm_i f = twos_complement (2 ^ 11) (f.rs2 + 2 ^ 5 * f.funct7)

abbrev pub imm_s : WordFields → ℤ
imm_s f = twos_complement (2 ^ 11) (f.rd + 2 ^ 5 * f.funct7)

abbrev pub imm_b : WordFields → ℤ
imm_b f = twos_complement (2 ^ 12) (2 * (f.rd / 2) + 2 ^ 5 * (f.funct7 % 2 ^ 6) + 2 ^ 11 * (f.rd % 2) + 2 ^ 12 * (f.funct7 / 2 ^ 6))

abbrev pub imm_u : WordFields → ℤ
imm_u f = twos_complement (2 ^ 31) (2 ^ 12 * f.funct3 + 2 ^ 15 * f.rs1 + 2 ^ 20 * f.rs2 + 2 ^ 25 * f.funct7)

abbrev pub imm_j : WordFields → ℤ
imm_j f = twos_complement (2 ^ 20) (2 * (f.rs2 / 2) + 2 ^ 5 * (f.funct7 % 2 ^ 6) + 2 ^ 11 * (f.rs2 % 2) + 2 ^ 12 * f.funct3 + 2 ^ 15 * f.rs1 + 2 ^ 20 * (f.funct7 / 2 ^ 6))

-- the operation that these bits stand for
unfoldable pub branch_op : ℕ → Option BranchOp
branch_op funct3 = find (λ op. branch_funct3 op == funct3) (Beq ∷ (Bne ∷ (Blt ∷ (Bge ∷ (Bltu ∷ (Bgeu ∷ []))))))

unfoldable pub load_op : ℕ → Option LoadOp
load_op funct3 = find (λ op. load_funct3 op == funct3) (Lb ∷ (Lh ∷ (Lw ∷ (Ld ∷ (Lbu ∷ (Lhu ∷ (Lwu ∷ [])))))))

unfoldable pub store_op : ℕ → Option StoreOp
store_op funct3 = find (λ op. store_funct3 op == funct3) (Sb ∷ (Sh ∷ (Sw ∷ (Sd ∷ []))))

unfoldable pub imm_op : ℕ → Option ImmOp
imm_op funct3 = find (λ op. imm_funct3 op == funct3) (Addi ∷ (Slti ∷ (Sltiu ∷ (Xori ∷ (Ori ∷ (Andi ∷ []))))))

unfoldable pub shift_op : ℕ → ℕ → Option ShiftOp
shift_op funct3 funct6 = find (λ op. shift_funct3 op == funct3 && shift_funct6 op == funct6) (Left ∷ (Right ∷ (RightSigned ∷ [])))

unfoldable pub shift_w_op : ℕ → ℕ → Option ShiftOp
shift_w_op funct3 funct7 = find (λ op. shift_funct3 op == funct3 && shift_funct7 op == funct7) (Left ∷ (Right ∷ (RightSigned ∷ [])))

unfoldable pub reg_op : ℕ → ℕ → Option RegOp
reg_op funct3 funct7 =
    find (λ op. reg_funct3 op == funct3 && reg_funct7 op == funct7)
    (reg.Add ∷ (reg.Sll ∷ (reg.Slt ∷ (reg.Sltu ∷ (reg.Xor ∷ (reg.Srl ∷ (reg.Or ∷ (reg.And ∷ (reg.Sub ∷ (reg.Sra ∷ []))))))))))

unfoldable pub reg_w_op : ℕ → ℕ → Option RegWOp
reg_w_op funct3 funct7 =
    find (λ op. reg_w_funct3 op == funct3 && reg_w_funct7 op == funct7) (Addw ∷ (Sllw ∷ (Srlw ∷ (Subw ∷ (Sraw ∷ [])))))

unfoldable pub amo_op : ℕ → Option AmoOp
amo_op funct5 =
    find (λ op. amo_funct5 op == funct5)
    (amo.Add ∷ (amo.Swap ∷ (amo.Xor ∷ (amo.Or ∷ (amo.And ∷ (amo.Min ∷ (amo.Max ∷ (amo.Minu ∷ (amo.Maxu ∷ [])))))))))

-- the instruction of each opcode that has several
abbrev pub jalr_of : WordFields → Option Instr
jalr_of f = if f.funct3 == 0 then Some (Jalr f.rd f.rs1 (imm_i f)) else None

abbrev pub branch_of : WordFields → Option Instr
branch_of f = option_map (λ op. Branch op f.rs1 f.rs2 (imm_b f)) (branch_op f.funct3)

abbrev pub load_of : WordFields → Option Instr
load_of f = option_map (λ op. Load op f.rd f.rs1 (imm_i f)) (load_op f.funct3)

abbrev pub store_of : WordFields → Option Instr
store_of f = option_map (λ op. Store op f.rs1 f.rs2 (imm_s f)) (store_op f.funct3)

abbrev pub shift_of : WordFields → Option Instr
shift_of f =
    option_map (λ op. Shift op f.rd f.rs1 (f.rs2 + 2 ^ 5 * (f.funct7 % 2))) (shift_op f.funct3 (f.funct7 / 2))

abbrev pub op_imm_of : WordFields → Option Instr
op_imm_of f = option_or (option_map (λ op. Imm op f.rd f.rs1 (imm_i f)) (imm_op f.funct3)) (shift_of f)

abbrev pub op_of : WordFields → Option Instr
op_of f = option_map (λ op. Op op f.rd f.rs1 f.rs2) (reg_op f.funct3 f.funct7)

abbrev pub op_imm_32_of : WordFields → Option Instr
op_imm_32_of f =
    if f.funct3 == 0 then Some (ImmW f.rd f.rs1 (imm_i f))
    else option_map (λ op. ShiftW op f.rd f.rs1 f.rs2) (shift_w_op f.funct3 f.funct7)

abbrev pub op_32_of : WordFields → Option Instr
op_32_of f = option_map (λ op. OpW op f.rd f.rs1 f.rs2) (reg_w_op f.funct3 f.funct7)

abbrev pub fence_of : WordFields → Option Instr
fence_of f = if f.funct3 == 0 then Some (Fence f.rd f.rs1 (f.rs2 + 2 ^ 5 * f.funct7)) else None

abbrev pub system_of : WordFields → Option Instr
system_of f =
    if f.funct3 == 0 && f.funct7 == 0 && f.rd == 0 && f.rs1 == 0
    then (if f.rs2 == 0 then Some Ecall else if f.rs2 == 1 then Some Ebreak else None)
    else None

abbrev pub amo_with : WordFields → Bool → Option Instr
amo_with f wide = option_map (λ op. Amo op wide f.rd f.rs1 f.rs2 (f.funct7 % 2 ^ 2)) (amo_op (f.funct7 / 2 ^ 2))

abbrev pub amo_of : WordFields → Option Instr
amo_of f = if f.funct3 == 0b010 then amo_with f false else if f.funct3 == 0b011 then amo_with f true else None

-- the instruction of these fields
unfoldable pub instr_in : WordFields → Option Instr
instr_in f =
    if f.opcode == LUI then Some (Lui f.rd (imm_u f))
    else if f.opcode == AUIPC then Some (Auipc f.rd (imm_u f))
    else if f.opcode == JAL then Some (Jal f.rd (imm_j f))
    else if f.opcode == JALR then jalr_of f
    else if f.opcode == BRANCH then branch_of f
    else if f.opcode == LOAD then load_of f
    else if f.opcode == STORE then store_of f
    else if f.opcode == OP_IMM then op_imm_of f
    else if f.opcode == OP then op_of f
    else if f.opcode == OP_IMM_32 then op_imm_32_of f
    else if f.opcode == OP_32 then op_32_of f
    else if f.opcode == MISC_MEM then fence_of f
    else if f.opcode == SYSTEM then system_of f
    else if f.opcode == AMO then amo_of f
    else None

-- the instruction that a word is, or none
unfoldable pub instr_of : ℕ → Option Instr
instr_of w = instr_in (fields_of w)
