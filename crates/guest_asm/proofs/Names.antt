-- The name of each mnemonic reads back as the mnemonic, and is a text of plain bytes.
use Rattle.std.proofs.Common.{◌≡◌, ℕ, nat_lt, length, true, List, codes, Some, refl, arith}
use Rattle.rv64i_decode.specs.declared.op.BranchOp.{BranchOp}
use Rattle.rv64i_decode.specs.declared.op.BranchOp.TheVariants.{Beq, Bne, Blt, Bge, Bltu, Bgeu}
use Rattle.rv64i_decode.specs.declared.op.LoadOp.{LoadOp}
use Rattle.rv64i_decode.specs.declared.op.LoadOp.TheVariants.{Lb, Lh, Lw, Ld, Lbu, Lhu, Lwu}
use Rattle.rv64i_decode.specs.declared.op.StoreOp.{StoreOp}
use Rattle.rv64i_decode.specs.declared.op.StoreOp.TheVariants.{Sb, Sh, Sw, Sd}
use Rattle.rv64i_decode.specs.declared.op.ImmOp.{ImmOp}
use Rattle.rv64i_decode.specs.declared.op.ImmOp.TheVariants.{Addi, Slti, Sltiu, Xori, Ori, Andi}
use Rattle.rv64i_decode.specs.declared.op.ShiftOp.{ShiftOp}
use Rattle.rv64i_decode.specs.declared.op.ShiftOp.TheVariants.{Left, Right, RightSigned}
use Rattle.rv64i_decode.specs.declared.op.RegOp.{RegOp}
use Rattle.rv64i_decode.specs.declared.op.RegOp.TheVariants as reg
use Rattle.rv64i_decode.specs.declared.op.RegWOp.{RegWOp}
use Rattle.rv64i_decode.specs.declared.op.RegWOp.TheVariants.{Addw, Sllw, Srlw, Subw, Sraw}
use Rattle.guest_asm.specs.declared.mnemonic.Mnemonic.{Mnemonic}
use Rattle.guest_asm.specs.declared.directive.Directive.TheVariants.{Byte, Word}
use Rattle.guest_asm.specs.declared.mnemonic.Mnemonic.TheVariants.{Op, OpW, Imm, ImmW, Shift, ShiftW, Load, Jalr, Store, Branch, Jal, Lui, Auipc, Fence, Ecall, Ebreak, Data}
use Rattle.guest_asm.specs.Line.{is_blank}
use Rattle.guest_asm.specs.Mnemonic.{branch_text, imm_text, load_text, mnemonic_named, reg_text, reg_w_text, shift_text, shift_w_text, store_text}
use Rattle.guest_asm.proofs.Cuts.{IsPlain}
use Rattle.guest_asm.proofs.Listed.{are_plain, is_plain}

-- a name of a mnemonic
pub record Names (name : List ℕ) (m : Mnemonic) : Type 0 where
  pub named : mnemonic_named name ≡ Some m
  pub plain : IsPlain name

-- what computes to be a name is one
names : (name : List ℕ) (m : Mnemonic) → mnemonic_named name ≡ Some m → are_plain name ≡ true → nat_lt 0 (length name) ≡ true → Names name m
names name m named plain some = record { named = named; plain = record { plain = plain; some = grind (arith, some) } }

-- the name of each operation: on two registers
pub reg_names : (op : RegOp) → Names (reg_text op) (Op op)
unfolding mnemonic_named is_plain is_blank
reg_names reg.Add = names _ _ refl refl refl
reg_names reg.Sll = names _ _ refl refl refl
reg_names reg.Slt = names _ _ refl refl refl
reg_names reg.Sltu = names _ _ refl refl refl
reg_names reg.Xor = names _ _ refl refl refl
reg_names reg.Srl = names _ _ refl refl refl
reg_names reg.Or = names _ _ refl refl refl
reg_names reg.And = names _ _ refl refl refl
reg_names reg.Sub = names _ _ refl refl refl
reg_names reg.Sra = names _ _ refl refl refl

-- on two registers, 32 bits
pub reg_w_names : (op : RegWOp) → Names (reg_w_text op) (OpW op)
unfolding mnemonic_named is_plain is_blank
reg_w_names Addw = names _ _ refl refl refl
reg_w_names Sllw = names _ _ refl refl refl
reg_w_names Srlw = names _ _ refl refl refl
reg_w_names Subw = names _ _ refl refl refl
reg_w_names Sraw = names _ _ refl refl refl

-- on an immediate
pub imm_names : (op : ImmOp) → Names (imm_text op) (Imm op)
unfolding mnemonic_named is_plain is_blank
imm_names Addi = names _ _ refl refl refl
imm_names Slti = names _ _ refl refl refl
imm_names Sltiu = names _ _ refl refl refl
imm_names Xori = names _ _ refl refl refl
imm_names Ori = names _ _ refl refl refl
imm_names Andi = names _ _ refl refl refl

-- shifts
pub shift_names : (op : ShiftOp) → Names (shift_text op) (Shift op)
unfolding mnemonic_named is_plain is_blank
shift_names Left = names _ _ refl refl refl
shift_names Right = names _ _ refl refl refl
shift_names RightSigned = names _ _ refl refl refl

-- shifts, 32 bits
pub shift_w_names : (op : ShiftOp) → Names (shift_w_text op) (ShiftW op)
unfolding mnemonic_named is_plain is_blank
shift_w_names Left = names _ _ refl refl refl
shift_w_names Right = names _ _ refl refl refl
shift_w_names RightSigned = names _ _ refl refl refl

-- loads
pub load_names : (op : LoadOp) → Names (load_text op) (Load op)
unfolding mnemonic_named is_plain is_blank
load_names Lb = names _ _ refl refl refl
load_names Lh = names _ _ refl refl refl
load_names Lw = names _ _ refl refl refl
load_names Ld = names _ _ refl refl refl
load_names Lbu = names _ _ refl refl refl
load_names Lhu = names _ _ refl refl refl
load_names Lwu = names _ _ refl refl refl

-- stores
pub store_names : (op : StoreOp) → Names (store_text op) (Store op)
unfolding mnemonic_named is_plain is_blank
store_names Sb = names _ _ refl refl refl
store_names Sh = names _ _ refl refl refl
store_names Sw = names _ _ refl refl refl
store_names Sd = names _ _ refl refl refl

-- branches
pub branch_names : (op : BranchOp) → Names (branch_text op) (Branch op)
unfolding mnemonic_named is_plain is_blank
branch_names Beq = names _ _ refl refl refl
branch_names Bne = names _ _ refl refl refl
branch_names Blt = names _ _ refl refl refl
branch_names Bge = names _ _ refl refl refl
branch_names Bltu = names _ _ refl refl refl
branch_names Bgeu = names _ _ refl refl refl

-- of each mnemonic without an operation: addiw
pub imm_w_name : Names (codes "addiw") ImmW
unfolding mnemonic_named is_plain is_blank
imm_w_name = names _ _ refl refl refl

-- jalr
pub jalr_name : Names (codes "jalr") Jalr
unfolding mnemonic_named is_plain is_blank
jalr_name = names _ _ refl refl refl

-- jal
pub jal_name : Names (codes "jal") Jal
unfolding mnemonic_named is_plain is_blank
jal_name = names _ _ refl refl refl

-- lui
pub lui_name : Names (codes "lui") Lui
unfolding mnemonic_named is_plain is_blank
lui_name = names _ _ refl refl refl

-- auipc
pub auipc_name : Names (codes "auipc") Auipc
unfolding mnemonic_named is_plain is_blank
auipc_name = names _ _ refl refl refl

-- fence
pub fence_name : Names (codes "fence") Fence
unfolding mnemonic_named is_plain is_blank
fence_name = names _ _ refl refl refl

-- ecall
pub ecall_name : Names (codes "ecall") Ecall
unfolding mnemonic_named is_plain is_blank
ecall_name = names _ _ refl refl refl

-- ebreak
pub ebreak_name : Names (codes "ebreak") Ebreak
unfolding mnemonic_named is_plain is_blank
ebreak_name = names _ _ refl refl refl

-- .word
pub word_name : Names (codes ".word") (Data Word)
unfolding mnemonic_named is_plain is_blank
word_name = names _ _ refl refl refl

-- .byte
pub byte_name : Names (codes ".byte") (Data Byte)
unfolding mnemonic_named is_plain is_blank
byte_name = names _ _ refl refl refl
