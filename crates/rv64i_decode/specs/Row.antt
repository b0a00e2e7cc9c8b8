-- The instruction table: RV64I and the AMO instructions (RISC-V Unprivileged ISA, RV32/64G Instruction Set Listings).
use Rattle.std.specs.Prelude.{◌≡◌, ℕ, ◌+◌, ◌*◌, ◌^◌, ◌<◌, ℤ, Option, Some}
use Rattle.rv64i_decode.specs.declared.instr.Instr.{Instr}
use Rattle.rv64i_decode.specs.declared.instr.Instr.TheVariants.{Lui, Auipc, Jal, Jalr, Branch, Load, Store, Imm, Shift, ImmW, ShiftW, Op, OpW, Fence, Ecall, Ebreak, Amo}
use Rattle.rv64i_decode.specs.AmoOp.{amo_funct3, amo_funct5}
use Rattle.rv64i_decode.specs.Immediate.{IsImmediateI, IsImmediateS, IsImmediateB, IsImmediateU, IsImmediateJ}
use Rattle.rv64i_decode.specs.Op.{branch_funct3, load_funct3, store_funct3, imm_funct3, shift_funct3, shift_funct6, shift_funct7, reg_funct3, reg_funct7, reg_w_funct3, reg_w_funct7}
use Rattle.rv64i_decode.specs.Word.{WordFields, IsWord}

-- R format
pub record IsR (f : WordFields) (opcode funct3 funct7 rd rs1 rs2 : ℕ) : Type 0 where
  pub opcode_is : f.opcode ≡ opcode
  pub funct3_is : f.funct3 ≡ funct3
  pub funct7_is : f.funct7 ≡ funct7
  pub rd_is : f.rd ≡ rd
  pub rs1_is : f.rs1 ≡ rs1
  pub rs2_is : f.rs2 ≡ rs2

-- I format
pub record IsI (f : WordFields) (opcode funct3 rd rs1 : ℕ) (imm : ℤ) : Type 0 where
  pub opcode_is : f.opcode ≡ opcode
  pub funct3_is : f.funct3 ≡ funct3
  pub rd_is : f.rd ≡ rd
  pub rs1_is : f.rs1 ≡ rs1
  pub imm_is : IsImmediateI f imm

-- S format
pub record IsS (f : WordFields) (opcode funct3 rs1 rs2 : ℕ) (imm : ℤ) : Type 0 where
  pub opcode_is : f.opcode ≡ opcode
  pub funct3_is : f.funct3 ≡ funct3
  pub rs1_is : f.rs1 ≡ rs1
  pub rs2_is : f.rs2 ≡ rs2
  pub imm_is : IsImmediateS f imm

-- B format
pub record IsB (f : WordFields) (opcode funct3 rs1 rs2 : ℕ) (imm : ℤ) : Type 0 where
  pub opcode_is : f.opcode ≡ opcode
  pub funct3_is : f.funct3 ≡ funct3
  pub rs1_is : f.rs1 ≡ rs1
  pub rs2_is : f.rs2 ≡ rs2
  pub imm_is : IsImmediateB f imm

-- U format
pub record IsU (f : WordFields) (opcode rd : ℕ) (imm : ℤ) : Type 0 where
  pub opcode_is : f.opcode ≡ opcode
  pub rd_is : f.rd ≡ rd
  pub imm_is : IsImmediateU f imm

-- J format
pub record IsJ (f : WordFields) (opcode rd : ℕ) (imm : ℤ) : Type 0 where
  pub opcode_is : f.opcode ≡ opcode
  pub rd_is : f.rd ≡ rd
  pub imm_is : IsImmediateJ f imm

-- a shift by a 6-bit amount in bits 25:20, under a funct6 in bits 31:26
pub record IsShift (f : WordFields) (opcode funct3 funct6 rd rs1 amount : ℕ) : Type 0 where
  pub opcode_is : f.opcode ≡ opcode
  pub funct3_is : f.funct3 ≡ funct3
  pub rd_is : f.rd ≡ rd
  pub rs1_is : f.rs1 ≡ rs1
  pub amount_bits : amount < 2 ^ 6
  pub bits_31_20 : f.rs2 + 2 ^ 5 * f.funct7 ≡ amount + 2 ^ 6 * funct6

-- a fence, with any bits in 31:20
pub record IsFence (f : WordFields) (opcode funct3 rd rs1 bits : ℕ) : Type 0 where
  pub opcode_is : f.opcode ≡ opcode
  pub funct3_is : f.funct3 ≡ funct3
  pub rd_is : f.rd ≡ rd
  pub rs1_is : f.rs1 ≡ rs1
  pub bits_31_20 : f.rs2 + 2 ^ 5 * f.funct7 ≡ bits

-- an AMO: funct5 in bits 31:27, aq in bit 26 and rl in bit 25
pub record IsAmo (f : WordFields) (opcode funct3 funct5 order rd rs1 rs2 : ℕ) : Type 0 where
  pub opcode_is : f.opcode ≡ opcode
  pub funct3_is : f.funct3 ≡ funct3
  pub rd_is : f.rd ≡ rd
  pub rs1_is : f.rs1 ≡ rs1
  pub rs2_is : f.rs2 ≡ rs2
  pub order_bits : order < 2 ^ 2
  pub bits_31_25 : f.funct7 ≡ order + 2 ^ 2 * funct5

-- the fields of an instruction's row
abbrev pub HasFields : WordFields → Instr → Type 0
-- RV32I, Integer Register-Immediate Instructions
HasFields f (Lui rd imm) = IsU f 0b0110111 rd imm
HasFields f (Auipc rd imm) = IsU f 0b0010111 rd imm
HasFields f (Imm op rd rs1 imm) = IsI f 0b0010011 (imm_funct3 op) rd rs1 imm
-- RV32I, Unconditional Jumps
HasFields f (Jal rd off) = IsJ f 0b1101111 rd off
HasFields f (Jalr rd rs1 off) = IsI f 0b1100111 0b000 rd rs1 off
-- RV32I, Conditional Branches
HasFields f (Branch op rs1 rs2 off) = IsB f 0b1100011 (branch_funct3 op) rs1 rs2 off
-- RV32I and RV64I, Load and Store Instructions
HasFields f (Load op rd rs1 off) = IsI f 0b0000011 (load_funct3 op) rd rs1 off
HasFields f (Store op rs1 rs2 off) = IsS f 0b0100011 (store_funct3 op) rs1 rs2 off
-- RV32I, Integer Register-Register Operations
HasFields f (Op op rd rs1 rs2) = IsR f 0b0110011 (reg_funct3 op) (reg_funct7 op) rd rs1 rs2
-- RV64I, Integer Register-Immediate Instructions
HasFields f (Shift op rd rs1 amount) = IsShift f 0b0010011 (shift_funct3 op) (shift_funct6 op) rd rs1 amount
HasFields f (ImmW rd rs1 imm) = IsI f 0b0011011 0b000 rd rs1 imm
HasFields f (ShiftW op rd rs1 amount) = IsR f 0b0011011 (shift_funct3 op) (shift_funct7 op) rd rs1 amount
-- RV64I, Integer Register-Register Operations
HasFields f (OpW op rd rs1 rs2) = IsR f 0b0111011 (reg_w_funct3 op) (reg_w_funct7 op) rd rs1 rs2
-- RV32I, Memory Ordering Instructions
HasFields f (Fence rd rs1 bits) = IsFence f 0b0001111 0b000 rd rs1 bits
-- RV32I, Environment Call and Breakpoints
HasFields f Ecall = IsR f 0b1110011 0 0 0 0 0
HasFields f Ebreak = IsR f 0b1110011 0 0 0 0 1
-- "A" Extension, Atomic Memory Operations
HasFields f (Amo op wide rd rs1 rs2 order) = IsAmo f 0b0101111 (amo_funct3 wide) (amo_funct5 op) order rd rs1 rs2

-- the word w is the instruction
pub record Row (w : ℕ) (instr : Instr) : Type 0 where
  pub fields : WordFields
  pub word : IsWord w fields
  pub row : HasFields fields instr

-- what these fields decode to: the one instruction that has them, or none
pub record IsDecoded (f : WordFields) (decoded : Option Instr) : Type 0 where
  pub sound : (i : Instr) → decoded ≡ Some i → HasFields f i
  pub whole : (i : Instr) → HasFields f i → decoded ≡ Some i
