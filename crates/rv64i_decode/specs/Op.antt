-- What tells the rows of one opcode apart: funct3, and funct7 where it decides (RISC-V Unprivileged ISA, RV32/64G Instruction Set Listings).
use Rattle.std.specs.Prelude.{ℕ}
use Rattle.rv64i_decode.specs.declared.op.BranchOp.{BranchOp}
use Rattle.rv64i_decode.specs.declared.op.BranchOp.TheVariants.{Beq, Bne, Blt, Bge, Bltu, Bgeu}
use Rattle.rv64i_decode.specs.declared.op.LoadOp.{LoadOp}
use Rattle.rv64i_decode.specs.declared.op.LoadOp.TheVariants.{Lb, Lh, Lw, Ld, Lbu, Lhu, Lwu}
use Rattle.rv64i_decode.specs.declared.op.StoreOp.{StoreOp}
use Rattle.rv64i_decode.specs.declared.op.StoreOp.TheVariants.{Sb, Sh, Sw, Sd}
use Rattle.rv64i_decode.specs.declared.op.ImmOp.{ImmOp}
use Rattle.rv64i_decode.specs.declared.op.ImmOp.TheVariants.{Addi, Slti, Sltiu, Xori, Ori, Andi}
use Rattle.rv64i_decode.specs.declared.op.ShiftOp.{ShiftOp}
use Rattle.rv64i_decode.specs.declared.op.ShiftOp.TheVariants.{Left, Right, RightSigned}
use Rattle.rv64i_decode.specs.declared.op.RegOp.{RegOp}
use Rattle.rv64i_decode.specs.declared.op.RegOp.TheVariants.{Add, Sll, Slt, Sltu, Xor, Srl, Or, And, Sub, Sra}
use Rattle.rv64i_decode.specs.declared.op.RegWOp.{RegWOp}
use Rattle.rv64i_decode.specs.declared.op.RegWOp.TheVariants.{Addw, Sllw, Srlw, Subw, Sraw}

-- funct3 of a branch
abbrev pub branch_funct3 : BranchOp → ℕ
branch_funct3 Beq = 0b000
branch_funct3 Bne = 0b001
branch_funct3 Blt = 0b100
branch_funct3 Bge = 0b101
branch_funct3 Bltu = 0b110
branch_funct3 Bgeu = 0b111

-- funct3 of a load
abbrev pub load_funct3 : LoadOp → ℕ
load_funct3 Lb = 0b000
load_funct3 Lh = 0b001
load_funct3 Lw = 0b010
load_funct3 Ld = 0b011
load_funct3 Lbu = 0b100
load_funct3 Lhu = 0b101
load_funct3 Lwu = 0b110

-- funct3 of a store
abbrev pub store_funct3 : StoreOp → ℕ
store_funct3 Sb = 0b000
store_funct3 Sh = 0b001
store_funct3 Sw = 0b010
store_funct3 Sd = 0b011

-- funct3 of an operation with an immediate
abbrev pub imm_funct3 : ImmOp → ℕ
imm_funct3 Addi = 0b000
imm_funct3 Slti = 0b010
imm_funct3 Sltiu = 0b011
imm_funct3 Xori = 0b100
imm_funct3 Ori = 0b110
imm_funct3 Andi = 0b111

-- funct3 of a shift by an amount in the instruction
abbrev pub shift_funct3 : ShiftOp → ℕ
shift_funct3 Left = 0b001
shift_funct3 Right = 0b101
shift_funct3 RightSigned = 0b101

-- bits 31:26 of such a shift, above its 6-bit amount
abbrev pub shift_funct6 : ShiftOp → ℕ
shift_funct6 Left = 0b000000
shift_funct6 Right = 0b000000
shift_funct6 RightSigned = 0b010000

-- funct7 of such a shift of a word, above its 5-bit amount
abbrev pub shift_funct7 : ShiftOp → ℕ
shift_funct7 Left = 0b0000000
shift_funct7 Right = 0b0000000
shift_funct7 RightSigned = 0b0100000

-- funct3 of an operation on two registers
abbrev pub reg_funct3 : RegOp → ℕ
reg_funct3 Add = 0b000
reg_funct3 Sll = 0b001
reg_funct3 Slt = 0b010
reg_funct3 Sltu = 0b011
reg_funct3 Xor = 0b100
reg_funct3 Srl = 0b101
reg_funct3 Or = 0b110
reg_funct3 And = 0b111
reg_funct3 Sub = 0b000
reg_funct3 Sra = 0b101

-- funct7 of an operation on two registers
abbrev pub reg_funct7 : RegOp → ℕ
reg_funct7 Add = 0b0000000
reg_funct7 Sll = 0b0000000
reg_funct7 Slt = 0b0000000
reg_funct7 Sltu = 0b0000000
reg_funct7 Xor = 0b0000000
reg_funct7 Srl = 0b0000000
reg_funct7 Or = 0b0000000
reg_funct7 And = 0b0000000
reg_funct7 Sub = 0b0100000
reg_funct7 Sra = 0b0100000

-- funct3 of an operation on the low words of two registers
abbrev pub reg_w_funct3 : RegWOp → ℕ
reg_w_funct3 Addw = 0b000
reg_w_funct3 Sllw = 0b001
reg_w_funct3 Srlw = 0b101
reg_w_funct3 Subw = 0b000
reg_w_funct3 Sraw = 0b101

-- funct7 of an operation on the low words of two registers
abbrev pub reg_w_funct7 : RegWOp → ℕ
reg_w_funct7 Addw = 0b0000000
reg_w_funct7 Sllw = 0b0000000
reg_w_funct7 Srlw = 0b0000000
reg_w_funct7 Subw = 0b0100000
reg_w_funct7 Sraw = 0b0100000
