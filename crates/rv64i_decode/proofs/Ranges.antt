-- The immediates of fields in their ranges are in theirs.
use Rattle.std.proofs.Common.{ℤ, pos, negsuc, arith}
use Rattle.std.proofs.lemmas.Int.{ints}
use Rattle.rv64i_decode.specs.declared.instr.Instr.{Instr}
use Rattle.rv64i_decode.specs.declared.instr.Instr.TheVariants.{Lui, Auipc, Jal, Jalr, Branch, Load, Store, Imm, Shift, ImmW, ShiftW, Op, OpW, Fence, Ecall, Ebreak, Amo}
use Rattle.rv64i_decode.specs.Immediate.{IsImmediateI, IsImmediateS, IsImmediateB, IsImmediateU, IsImmediateJ, Is12Bit, IsBranchOffset, IsUpperImmediate, IsJumpOffset}
use Rattle.rv64i_decode.specs.Row.{HasFields}
use Rattle.rv64i_decode.specs.Valid.{IsValid}
use Rattle.rv64i_decode.specs.Word.{IsInRange, WordFields}

-- the range of an I immediate
range_i : (f : WordFields) (imm : ℤ) → IsImmediateI f imm → Is12Bit imm
range_i f (pos k) h = (omega (arith, ints), omega (arith, ints))
range_i f (negsuc k) h = (omega (arith, ints), omega (arith, ints))

-- the range of an S immediate
range_s : (f : WordFields) (imm : ℤ) → IsImmediateS f imm → Is12Bit imm
range_s f (pos k) h = (omega (arith, ints), omega (arith, ints))
range_s f (negsuc k) h = (omega (arith, ints), omega (arith, ints))

-- the range of a B immediate
range_b : (f : WordFields) (imm : ℤ) → IsImmediateB f imm → IsBranchOffset imm
range_b f (pos k) h = ((omega (arith, ints), omega (arith, ints)), omega arith)
range_b f (negsuc k) h = ((omega (arith, ints), omega (arith, ints)), omega arith)

-- the range of a U immediate
range_u : (f : WordFields) (imm : ℤ) → IsImmediateU f imm → IsUpperImmediate imm
range_u f (pos k) h = ((omega (arith, ints), omega (arith, ints)), omega arith)
range_u f (negsuc k) h = ((omega (arith, ints), omega (arith, ints)), omega arith)

-- the range of a J immediate
range_j : (f : WordFields) (imm : ℤ) → IsImmediateJ f imm → IsJumpOffset imm
range_j f (pos k) h = ((omega (arith, ints), omega (arith, ints)), omega arith)
range_j f (negsuc k) h = ((omega (arith, ints), omega (arith, ints)), omega arith)

-- an instruction in a word is valid
pub IsValid-HasFields : (f : WordFields) (i : Instr) → IsInRange f → HasFields f i → IsValid i
IsValid-HasFields f (Lui rd imm) r h = (omega arith, range_u f imm h.imm_is)
IsValid-HasFields f (Auipc rd imm) r h = (omega arith, range_u f imm h.imm_is)
IsValid-HasFields f (Jal rd off) r h = (omega arith, range_j f off h.imm_is)
IsValid-HasFields f (Jalr rd rs1 off) r h = (omega arith, omega arith, range_i f off h.imm_is)
IsValid-HasFields f (Branch op rs1 rs2 off) r h = (omega arith, omega arith, range_b f off h.imm_is)
IsValid-HasFields f (Load op rd rs1 off) r h = (omega arith, omega arith, range_i f off h.imm_is)
IsValid-HasFields f (Store op rs1 rs2 off) r h = (omega arith, omega arith, range_s f off h.imm_is)
IsValid-HasFields f (Imm op rd rs1 imm) r h = (omega arith, omega arith, range_i f imm h.imm_is)
IsValid-HasFields f (Shift op rd rs1 amount) r h = (omega arith, omega arith, omega arith)
IsValid-HasFields f (ImmW rd rs1 imm) r h = (omega arith, omega arith, range_i f imm h.imm_is)
IsValid-HasFields f (ShiftW op rd rs1 amount) r h = (omega arith, omega arith, omega arith)
IsValid-HasFields f (Op op rd rs1 rs2) r h = (omega arith, omega arith, omega arith)
IsValid-HasFields f (OpW op rd rs1 rs2) r h = (omega arith, omega arith, omega arith)
IsValid-HasFields f (Fence rd rs1 bits) r h = (omega arith, omega arith, omega arith)
IsValid-HasFields f Ecall r h = tt
IsValid-HasFields f Ebreak r h = tt
IsValid-HasFields f (Amo op wide rd rs1 rs2 order) r h = (omega arith, omega arith, omega arith, omega arith)
