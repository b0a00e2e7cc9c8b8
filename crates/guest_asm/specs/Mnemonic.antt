-- The mnemonics of the assembler, how each is written and the form of its operands (this project's own, docs/COMMAND_LINE.md, Assembler).
use Rattle.std.specs.Prelude.{ℕ, ◌+◌, Bool, true, false, ◌==◌, List, [], ◌∷◌, ◌++◌, codes, Option, find, take, drop, if◌then◌else◌}
use Rattle.std.specs.List.{position}
use Rattle.std.specs.Option.{option_and_then, option_map, option_or}
use Rattle.std.specs.Str.{bytes_eq}
use Rattle.rv64i_decode.specs.declared.op.BranchOp.{BranchOp}
use Rattle.rv64i_decode.specs.declared.op.BranchOp.TheVariants.{Beq, Bne, Blt, Bge, Bltu, Bgeu}
use Rattle.rv64i_decode.specs.declared.op.LoadOp.{LoadOp}
use Rattle.rv64i_decode.specs.declared.op.LoadOp.TheVariants.{Lb, Lh, Lw, Ld, Lbu, Lhu, Lwu}
use Rattle.rv64i_decode.specs.declared.op.StoreOp.{StoreOp}
use Rattle.rv64i_decode.specs.declared.op.StoreOp.TheVariants.{Sb, Sh, Sw, Sd}
use Rattle.rv64i_decode.specs.declared.op.ImmOp.{ImmOp}
use Rattle.rv64i_decode.specs.declared.op.ImmOp.TheVariants.{Addi, Slti, Sltiu, Xori, Ori, Andi}
use Rattle.rv64i_decode.specs.declared.op.ShiftOp.{ShiftOp}
use Rattle.rv64i_decode.specs.declared.op.ShiftOp.TheVariants.{Left, Right, RightSigned}
use Rattle.rv64i_decode.specs.declared.op.RegOp.{RegOp}
use Rattle.rv64i_decode.specs.declared.op.RegOp.TheVariants as reg
use Rattle.rv64i_decode.specs.declared.op.RegWOp.{RegWOp}
use Rattle.rv64i_decode.specs.declared.op.RegWOp.TheVariants.{Addw, Sllw, Srlw, Subw, Sraw}
use Rattle.rv64i_decode.specs.declared.op.AmoOp.{AmoOp}
use Rattle.rv64i_decode.specs.declared.op.AmoOp.TheVariants as amo
use Rattle.guest_asm.specs.declared.directive.Directive.TheVariants.{Byte, Word, Dword}
use Rattle.guest_asm.specs.declared.mnemonic.Mnemonic.{Mnemonic}
use Rattle.guest_asm.specs.declared.mnemonic.Mnemonic.TheVariants.{Op, OpW, Imm, ImmW, Shift, ShiftW, Load, Jalr, Store, Branch, Jal, Lui, Auipc, Amo, Fence, Ecall, Ebreak, Data, Zero}
use Rattle.guest_asm.specs.declared.mnemonic.Form.{Form}
use Rattle.guest_asm.specs.declared.mnemonic.Form.TheVariants as form
use Rattle.guest_asm.specs.Directive.{row_of}

-- how the operations are written
abbrev pub reg_text : RegOp → List ℕ
reg_text reg.Add = codes "add"
reg_text reg.Sll = codes "sll"
reg_text reg.Slt = codes "slt"
reg_text reg.Sltu = codes "sltu"
reg_text reg.Xor = codes "xor"
reg_text reg.Srl = codes "srl"
reg_text reg.Or = codes "or"
reg_text reg.And = codes "and"
reg_text reg.Sub = codes "sub"
reg_text reg.Sra = codes "sra"

abbrev pub reg_w_text : RegWOp → List ℕ
reg_w_text Addw = codes "addw"
reg_w_text Sllw = codes "sllw"
reg_w_text Srlw = codes "srlw"
reg_w_text Subw = codes "subw"
reg_w_text Sraw = codes "sraw"

abbrev pub imm_text : ImmOp → List ℕ
imm_text Addi = codes "addi"
imm_text Slti = codes "slti"
imm_text Sltiu = codes "sltiu"
imm_text Xori = codes "xori"
imm_text Ori = codes "ori"
imm_text Andi = codes "andi"

abbrev pub shift_text : ShiftOp → List ℕ
shift_text Left = codes "slli"
shift_text Right = codes "srli"
shift_text RightSigned = codes "srai"

abbrev pub shift_w_text : ShiftOp → List ℕ
shift_w_text Left = codes "slliw"
shift_w_text Right = codes "srliw"
shift_w_text RightSigned = codes "sraiw"

abbrev pub load_text : LoadOp → List ℕ
load_text Lb = codes "lb"
load_text Lh = codes "lh"
load_text Lw = codes "lw"
load_text Ld = codes "ld"
load_text Lbu = codes "lbu"
load_text Lhu = codes "lhu"
load_text Lwu = codes "lwu"

abbrev pub store_text : StoreOp → List ℕ
store_text Sb = codes "sb"
store_text Sh = codes "sh"
store_text Sw = codes "sw"
store_text Sd = codes "sd"

abbrev pub branch_text : BranchOp → List ℕ
branch_text Beq = codes "beq"
branch_text Bne = codes "bne"
branch_text Blt = codes "blt"
branch_text Bge = codes "bge"
branch_text Bltu = codes "bltu"
branch_text Bgeu = codes "bgeu"

abbrev pub amo_text : AmoOp → List ℕ
amo_text amo.Add = codes "amoadd"
amo_text amo.Swap = codes "amoswap"
amo_text amo.Xor = codes "amoxor"
amo_text amo.Or = codes "amoor"
amo_text amo.And = codes "amoand"
amo_text amo.Min = codes "amomin"
amo_text amo.Max = codes "amomax"
amo_text amo.Minu = codes "amominu"
amo_text amo.Maxu = codes "amomaxu"

-- how the width of an AMO is written, and its order: rl counts 1 and aq counts 2
abbrev pub width_text : Bool → List ℕ
width_text true = codes "d"
width_text false = codes "w"

abbrev pub order_text : ℕ → List ℕ
order_text order =
    if order == 0 then [] else if order == 1 then codes ".rl" else if order == 2 then codes ".aq" else codes ".aqrl"

abbrev pub suffix_text : Bool × ℕ → List ℕ
suffix_text suffix = width_text suffix.0 ++ order_text suffix.1

-- how a mnemonic is written, up to the dot of an AMO instruction
abbrev pub mnemonic_name : Mnemonic → List ℕ
mnemonic_name (Op op) = reg_text op
mnemonic_name (OpW op) = reg_w_text op
mnemonic_name (Imm op) = imm_text op
mnemonic_name ImmW = codes "addiw"
mnemonic_name (Shift op) = shift_text op
mnemonic_name (ShiftW op) = shift_w_text op
mnemonic_name (Load op) = load_text op
mnemonic_name Jalr = codes "jalr"
mnemonic_name (Store op) = store_text op
mnemonic_name (Branch op) = branch_text op
mnemonic_name Jal = codes "jal"
mnemonic_name Lui = codes "lui"
mnemonic_name Auipc = codes "auipc"
mnemonic_name (Amo op wide order) = amo_text op
mnemonic_name Fence = codes "fence"
mnemonic_name Ecall = codes "ecall"
mnemonic_name Ebreak = codes "ebreak"
mnemonic_name (Data directive) = (row_of directive).text
mnemonic_name Zero = codes ".zero"

-- all of them but the AMO instructions
abbrev pub plain_mnemonics : List Mnemonic
plain_mnemonics =
    Op reg.Add ∷ Op reg.Sll ∷ Op reg.Slt ∷ Op reg.Sltu ∷ Op reg.Xor ∷ Op reg.Srl ∷ Op reg.Or ∷ Op reg.And ∷ Op reg.Sub ∷ Op reg.Sra
    ∷ OpW Addw ∷ OpW Sllw ∷ OpW Srlw ∷ OpW Subw ∷ OpW Sraw
    ∷ Imm Addi ∷ Imm Slti ∷ Imm Sltiu ∷ Imm Xori ∷ Imm Ori ∷ Imm Andi ∷ ImmW
    ∷ Shift Left ∷ Shift Right ∷ Shift RightSigned ∷ ShiftW Left ∷ ShiftW Right ∷ ShiftW RightSigned
    ∷ Load Lb ∷ Load Lh ∷ Load Lw ∷ Load Ld ∷ Load Lbu ∷ Load Lhu ∷ Load Lwu ∷ Jalr
    ∷ Store Sb ∷ Store Sh ∷ Store Sw ∷ Store Sd
    ∷ Branch Beq ∷ Branch Bne ∷ Branch Blt ∷ Branch Bge ∷ Branch Bltu ∷ Branch Bgeu
    ∷ Jal ∷ Lui ∷ Auipc ∷ Fence ∷ Ecall ∷ Ebreak ∷ Data Byte ∷ Data Word ∷ Data Dword ∷ Zero ∷ []

-- the AMO operations, and what may follow the dot behind one: the width and the order
abbrev pub amo_ops : List AmoOp
amo_ops = amo.Add ∷ amo.Swap ∷ amo.Xor ∷ amo.Or ∷ amo.And ∷ amo.Min ∷ amo.Max ∷ amo.Minu ∷ amo.Maxu ∷ []

abbrev pub suffixes : List (Bool × ℕ)
suffixes = (false, 0) ∷ (false, 1) ∷ (false, 2) ∷ (false, 3) ∷ (true, 0) ∷ (true, 1) ∷ (true, 2) ∷ (true, 3) ∷ []

-- what is written so
abbrev pub plain_named : List ℕ → Option Mnemonic
plain_named word = find (λ m. bytes_eq (mnemonic_name m) word) plain_mnemonics

abbrev pub amo_op_named : List ℕ → Option AmoOp
amo_op_named word = find (λ op. bytes_eq (amo_text op) word) amo_ops

abbrev pub suffix_named : List ℕ → Option (Bool × ℕ)
suffix_named word = find (λ suffix. bytes_eq (suffix_text suffix) word) suffixes

-- an AMO instruction: an operation, a dot and a suffix
abbrev pub amo_with : List ℕ → List ℕ → Option Mnemonic
amo_with word suffix =
    option_and_then (λ op. option_map (λ s. Amo op s.0 s.1) (suffix_named suffix)) (amo_op_named word)

abbrev pub amo_named : List ℕ → Option Mnemonic
amo_named word = option_and_then (λ i. amo_with (take i word) (drop (i + 1) word)) (position (λ b. b == 46) word)

-- the mnemonic that a word is
unfoldable pub mnemonic_named : List ℕ → Option Mnemonic
mnemonic_named word = option_or (plain_named word) (amo_named word)

-- the form of the operands of each
abbrev pub form_of : Mnemonic → Form
form_of (Op op) = form.Registers
form_of (OpW op) = form.Registers
form_of (Imm op) = form.RegistersNumber
form_of ImmW = form.RegistersNumber
form_of (Shift op) = form.RegistersNumber
form_of (ShiftW op) = form.RegistersNumber
form_of (Load op) = form.Indexed
form_of Jalr = form.Indexed
form_of (Store op) = form.Indexed
form_of (Branch op) = form.RegistersTarget
form_of Jal = form.RegisterTarget
form_of Lui = form.RegisterNumber
form_of Auipc = form.RegisterNumber
form_of (Amo op wide order) = form.RegistersAt
form_of Fence = form.Bare
form_of Ecall = form.Bare
form_of Ebreak = form.Bare
form_of (Data directive) = form.Number
form_of Zero = form.Number
