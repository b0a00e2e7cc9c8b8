-- An instruction has one row of fields, and one word.
use Rattle.std.proofs.Common.{◌≡◌, ℕ, ◌+◌, ◌*◌, ◌^◌, ℤ, pos, negsuc, arith}
use Rattle.rv64i_decode.specs.declared.instr.Instr.{Instr}
use Rattle.rv64i_decode.specs.declared.instr.Instr.TheVariants.{Lui, Auipc, Jal, Jalr, Branch, Load, Store, Imm, Shift, ImmW, ShiftW, Op, OpW, Fence, Ecall, Ebreak, Amo}
use Rattle.rv64i_decode.specs.Immediate.{IsTwosComplement}
use Rattle.rv64i_decode.specs.Row.{HasFields, Row, IsR, IsI, IsS, IsB, IsU, IsJ, IsShift, IsFence, IsAmo}
use Rattle.rv64i_decode.specs.Word.{IsInRange, IsWord, WordFields}

-- fields from their numbers
fields_of : (opcode rd funct3 rs1 rs2 funct7 : ℕ) → WordFields
fields_of opcode rd funct3 rs1 rs2 funct7 =
    record { opcode = opcode; rd = rd; funct3 = funct3; rs1 = rs1; rs2 = rs2; funct7 = funct7 }

-- the same numbers make the same fields
same_numbers : (f g : WordFields) → f.opcode ≡ g.opcode → f.rd ≡ g.rd → f.funct3 ≡ g.funct3 →
    f.rs1 ≡ g.rs1 → f.rs2 ≡ g.rs2 → f.funct7 ≡ g.funct7 →
    fields_of f.opcode f.rd f.funct3 f.rs1 f.rs2 f.funct7 ≡ fields_of g.opcode g.rd g.funct3 g.rs1 g.rs2 g.funct7
same_numbers f g opcode rd funct3 rs1 rs2 funct7 = cc

-- fields with the same numbers are the same
pub same_fields : (f g : WordFields) → f.opcode ≡ g.opcode → f.rd ≡ g.rd → f.funct3 ≡ g.funct3 →
    f.rs1 ≡ g.rs1 → f.rs2 ≡ g.rs2 → f.funct7 ≡ g.funct7 → f ≡ g
unfolding fields_of
same_fields f g = same_numbers f g

-- a number has one two's complement
same_complement : (half m n : ℕ) (z : ℤ) → IsTwosComplement half m z → IsTwosComplement half n z →
    m ≡ n
same_complement half m n (pos k) a b = omega arith
same_complement half m n (negsuc k) a b = omega arith

-- fields in the R format with the same operands are the same
same_r : (f g : WordFields) (opcode funct3 funct7 rd rs1 rs2 : ℕ) →
    IsR f opcode funct3 funct7 rd rs1 rs2 → IsR g opcode funct3 funct7 rd rs1 rs2 → f ≡ g
same_r f g opcode funct3 funct7 rd rs1 rs2 a b =
    same_fields f g (omega arith) (omega arith) (omega arith) (omega arith) (omega arith) (omega arith)

-- fields in the I format with the same operands are the same
same_i : (f g : WordFields) (opcode funct3 rd rs1 : ℕ) (imm : ℤ) → IsInRange f → IsInRange g →
    IsI f opcode funct3 rd rs1 imm → IsI g opcode funct3 rd rs1 imm → f ≡ g
same_i f g opcode funct3 rd rs1 imm p q a b =
    let bits =
    same_complement (2 ^ 11)
    (f.rs2 + 2 ^ 5 * f.funct7)
    (g.rs2 + 2 ^ 5 * g.funct7)
    imm a.imm_is.value b.imm_is.value in
    same_fields f g (omega arith) (omega arith) (omega arith) (omega arith) (omega (arith, bits)) (omega (arith, bits))

-- fields in the S format with the same operands are the same
same_s : (f g : WordFields) (opcode funct3 rs1 rs2 : ℕ) (imm : ℤ) → IsInRange f → IsInRange g →
    IsS f opcode funct3 rs1 rs2 imm → IsS g opcode funct3 rs1 rs2 imm → f ≡ g
same_s f g opcode funct3 rs1 rs2 imm p q a b =
    let bits =
    same_complement (2 ^ 11)
    (f.rd + 2 ^ 5 * f.funct7)
    (g.rd + 2 ^ 5 * g.funct7)
    imm a.imm_is.value b.imm_is.value in
    same_fields f g (omega arith) (omega (arith, bits)) (omega arith) (omega arith) (omega arith) (omega (arith, bits))

-- fields in the B format with the same operands are the same
same_b : (f g : WordFields) (opcode funct3 rs1 rs2 : ℕ) (imm : ℤ) → IsInRange f → IsInRange g →
    IsB f opcode funct3 rs1 rs2 imm → IsB g opcode funct3 rs1 rs2 imm → f ≡ g
same_b f g opcode funct3 rs1 rs2 imm p q a b =
    let x = a.imm_is in
    let y = b.imm_is in
    let bits =
    same_complement (2 ^ 12)
    (2 * x.imm4_1 + 2 ^ 5 * x.imm10_5 + 2 ^ 11 * x.imm11 + 2 ^ 12 * x.imm12)
    (2 * y.imm4_1 + 2 ^ 5 * y.imm10_5 + 2 ^ 11 * y.imm11 + 2 ^ 12 * y.imm12)
    imm x.value y.value in
    let bit12 : x.imm12 ≡ y.imm12 = omega (arith, bits) in
    let bit11 : x.imm11 ≡ y.imm11 = omega (arith, bits) in
    let bits10_5 : x.imm10_5 ≡ y.imm10_5 = omega (arith, bits) in
    let bits4_1 : x.imm4_1 ≡ y.imm4_1 = omega (arith, bits) in
    same_fields f g (omega arith) (omega arith) (omega arith) (omega arith) (omega arith) (omega arith)

-- fields in the U format with the same operands are the same
same_u : (f g : WordFields) (opcode rd : ℕ) (imm : ℤ) → IsInRange f → IsInRange g →
    IsU f opcode rd imm → IsU g opcode rd imm → f ≡ g
same_u f g opcode rd imm p q a b =
    let bits =
    same_complement (2 ^ 31)
    (2 ^ 12 * f.funct3 + 2 ^ 15 * f.rs1 + 2 ^ 20 * f.rs2 + 2 ^ 25 * f.funct7)
    (2 ^ 12 * g.funct3 + 2 ^ 15 * g.rs1 + 2 ^ 20 * g.rs2 + 2 ^ 25 * g.funct7)
    imm a.imm_is.value b.imm_is.value in
    let funct7 : f.funct7 ≡ g.funct7 = omega (arith, bits) in
    let rs2 : f.rs2 ≡ g.rs2 = omega (arith, bits) in
    let rs1 : f.rs1 ≡ g.rs1 = omega (arith, bits) in
    let funct3 : f.funct3 ≡ g.funct3 = omega (arith, bits) in
    same_fields f g (omega arith) (omega arith) funct3 rs1 rs2 funct7

-- fields in the J format with the same operands are the same
same_j : (f g : WordFields) (opcode rd : ℕ) (imm : ℤ) → IsInRange f → IsInRange g →
    IsJ f opcode rd imm → IsJ g opcode rd imm → f ≡ g
same_j f g opcode rd imm p q a b =
    let x = a.imm_is in
    let y = b.imm_is in
    let bits =
    same_complement (2 ^ 20)
    (2 * x.imm4_1 + 2 ^ 5 * x.imm10_5 + 2 ^ 11 * x.imm11 + 2 ^ 12 * f.funct3 + 2 ^ 15 * f.rs1 + 2 ^ 20 * x.imm20)
    (2 * y.imm4_1 + 2 ^ 5 * y.imm10_5 + 2 ^ 11 * y.imm11 + 2 ^ 12 * g.funct3 + 2 ^ 15 * g.rs1 + 2 ^ 20 * y.imm20)
    imm x.value y.value in
    let bit20 : x.imm20 ≡ y.imm20 = omega (arith, bits) in
    let rs1 : f.rs1 ≡ g.rs1 = omega (arith, bits) in
    let funct3 : f.funct3 ≡ g.funct3 = omega (arith, bits) in
    let bit11 : x.imm11 ≡ y.imm11 = omega (arith, bits) in
    let bits10_5 : x.imm10_5 ≡ y.imm10_5 = omega (arith, bits) in
    let bits4_1 : x.imm4_1 ≡ y.imm4_1 = omega (arith, bits) in
    same_fields f g (omega arith) (omega arith) funct3 rs1 (omega arith) (omega arith)

-- so are those of a shift, ..
same_shift : (f g : WordFields) (opcode funct3 funct6 rd rs1 amount : ℕ) → IsInRange f →
    IsInRange g → IsShift f opcode funct3 funct6 rd rs1 amount →
    IsShift g opcode funct3 funct6 rd rs1 amount → f ≡ g
same_shift f g opcode funct3 funct6 rd rs1 amount p q a b =
    same_fields f g (omega arith) (omega arith) (omega arith) (omega arith) (omega arith) (omega arith)

-- of a fence ..
same_fence : (f g : WordFields) (opcode funct3 rd rs1 bits : ℕ) → IsInRange f → IsInRange g →
    IsFence f opcode funct3 rd rs1 bits → IsFence g opcode funct3 rd rs1 bits → f ≡ g
same_fence f g opcode funct3 rd rs1 bits p q a b =
    same_fields f g (omega arith) (omega arith) (omega arith) (omega arith) (omega arith) (omega arith)

-- and of an AMO
same_amo : (f g : WordFields) (opcode funct3 funct5 order rd rs1 rs2 : ℕ) →
    IsAmo f opcode funct3 funct5 order rd rs1 rs2 → IsAmo g opcode funct3 funct5 order rd rs1 rs2 →
    f ≡ g
same_amo f g opcode funct3 funct5 order rd rs1 rs2 a b =
    same_fields f g (omega arith) (omega arith) (omega arith) (omega arith) (omega arith) (omega arith)

-- an instruction has one row of fields
same_row : (i : Instr) (f g : WordFields) → IsInRange f → IsInRange g → HasFields f i →
    HasFields g i → f ≡ g
same_row (Lui rd imm) f g p q a b = same_u f g _ _ _ p q a b
same_row (Auipc rd imm) f g p q a b = same_u f g _ _ _ p q a b
same_row (Jal rd off) f g p q a b = same_j f g _ _ _ p q a b
same_row (Jalr rd rs1 off) f g p q a b = same_i f g _ _ _ _ _ p q a b
same_row (Branch op rs1 rs2 off) f g p q a b = same_b f g _ _ _ _ _ p q a b
same_row (Load op rd rs1 off) f g p q a b = same_i f g _ _ _ _ _ p q a b
same_row (Store op rs1 rs2 off) f g p q a b = same_s f g _ _ _ _ _ p q a b
same_row (Imm op rd rs1 imm) f g p q a b = same_i f g _ _ _ _ _ p q a b
same_row (Shift op rd rs1 amount) f g p q a b = same_shift f g _ _ _ _ _ _ p q a b
same_row (ImmW rd rs1 imm) f g p q a b = same_i f g _ _ _ _ _ p q a b
same_row (ShiftW op rd rs1 amount) f g p q a b = same_r f g _ _ _ _ _ _ a b
same_row (Op op rd rs1 rs2) f g p q a b = same_r f g _ _ _ _ _ _ a b
same_row (OpW op rd rs1 rs2) f g p q a b = same_r f g _ _ _ _ _ _ a b
same_row (Fence rd rs1 bits) f g p q a b = same_fence f g _ _ _ _ _ p q a b
same_row Ecall f g p q a b = same_r f g _ _ _ _ _ _ a b
same_row Ebreak f g p q a b = same_r f g _ _ _ _ _ _ a b
same_row (Amo op wide rd rs1 rs2 order) f g p q a b = same_amo f g _ _ _ _ _ _ _ a b

-- fields have one word
same_word : (v w : ℕ) (f g : WordFields) → IsWord v f → IsWord w g → f ≡ g → v ≡ w
same_word v w f g a b same =
    let opcode : f.opcode ≡ g.opcode = cc in
    let rd : f.rd ≡ g.rd = cc in
    let funct3 : f.funct3 ≡ g.funct3 = cc in
    let rs1 : f.rs1 ≡ g.rs1 = cc in
    let rs2 : f.rs2 ≡ g.rs2 = cc in
    let funct7 : f.funct7 ≡ g.funct7 = cc in
    omega arith

-- an instruction has one word
pub one_encoding : (i : Instr) (v w : ℕ) → Row v i → Row w i → v ≡ w
one_encoding i v w a b =
    same_word v w a.fields b.fields a.word b.word
    (same_row i a.fields b.fields a.word.in_range b.word.in_range a.row b.row)
