-- What holds of the instructions, class by class (RISC-V Unprivileged ISA, RV32I, RV64I and the "A" Extension; what
-- halts is this project's own, docs/MACHINE.md).
use Rattle.std.specs.Prelude.{◌≡◌, ◌≢◌, ◌⊎◌, ◌<◌, ℕ, ◌+◌, ◌%◌, ◌^◌, ℤ, true, false, not, length, Some, None, IfSome}
use Rattle.ram_block.specs.Shape.{ShapeData}
use Rattle.ram_block.specs.declared.cause.Cause.{Cause}
use Rattle.ram_block.specs.declared.cause.Cause.TheVariants as causes
use Rattle.ram_block.specs.declared.place.Width.{Width}
use Rattle.rv64i_decode.specs.declared.instr.Instr.{Instr}
use Rattle.rv64i_decode.specs.declared.instr.Instr.TheVariants.{Lui, Auipc, Jal, Jalr, Branch, Load, Store, Imm, Shift, ImmW, ShiftW, Op, OpW, Fence, Ecall, Ebreak, Amo}
use Rattle.rv64i_decode.specs.declared.op.AmoOp.{AmoOp}
use Rattle.rv64i_decode.specs.declared.op.AmoOp.TheVariants.{Swap, Min, Max, Minu, Maxu}
use Rattle.rv64i_decode.specs.declared.op.BranchOp.{BranchOp}
use Rattle.rv64i_decode.specs.declared.op.BranchOp.TheVariants.{Beq, Bne, Blt, Bge, Bltu, Bgeu}
use Rattle.rv64i_decode.specs.declared.op.RegWOp.{RegWOp}
use Rattle.rv64i_decode.specs.declared.op.ShiftOp.{ShiftOp}
use Rattle.rv64i_decode.specs.declared.op.StoreOp.{StoreOp}
use Rattle.rv64i_step.specs.Access.{AccessesMemory, low_bytes}
use Rattle.rv64i_step.specs.Amo.{amo_written}
use Rattle.rv64i_step.specs.Arithmetic.{bits64, sum64, low_word, extended_word, is_taken}
use Rattle.rv64i_step.specs.Event.{request_of, fetched_vcpu, accessed_vcpu}
use Rattle.rv64i_step.specs.Execute.{executed, address_of, even}
use Rattle.rv64i_step.specs.Outcome.{HaltsWith, AwaitsAccess, Finishes, FetchOutcome}
use Rattle.rv64i_step.specs.Vcpu.{VcpuData, reg_of, with_reg, next_pc}
use Rattle.rv64i_step.specs.declared.access.Access.{Access}
use Rattle.rv64i_step.specs.declared.request.Request.TheVariants.{Nothing, NoFetch}
use Rattle.rv64i_step.specs.declared.state.State.TheVariants.{Running, Halted}

-- a fetch with no access pending has one of three outcomes, and one with no place halts
pub record FetchesEnd : Type 0 where
  pub word : (shape : ShapeData) (v : VcpuData) (word : ℕ) → v.pending ≡ None →
      FetchOutcome v (fetched_vcpu shape v (Some word))
  pub none : (shape : ShapeData) (v : VcpuData) (cause : Cause) → v.pending ≡ None →
      request_of shape v ≡ NoFetch cause → HaltsWith v (fetched_vcpu shape v None) cause

-- no two of the three outcomes come together
pub record OutcomesDiffer : Type 0 where
  pub halts_or_awaits : (v after : VcpuData) (cause : Cause) (access : Access) → HaltsWith v after cause →
      AwaitsAccess v after access → ⊥
  pub halts_or_finishes : (v after : VcpuData) (cause : Cause) → v.state ≡ Running → HaltsWith v after cause →
      Finishes v after → ⊥
  pub awaits_or_finishes : (v after : VcpuData) (access : Access) → AwaitsAccess v after access → Finishes v after → ⊥

-- an access finishes its instruction
abbrev pub AccessesFinish : Type 0
AccessesFinish = (v : VcpuData) (value : ℕ) (access : Access) → v.pending ≡ Some access → AccessesMemory access.instr →
    Finishes v (accessed_vcpu v value)

-- a vCPU that is halted asks for nothing, and one that runs for something
pub record AsksWhileRunning : Type 0 where
  pub halted : (shape : ShapeData) (v : VcpuData) (cause : Cause) → v.state ≡ Halted cause → request_of shape v ≡ Nothing
  pub running : (shape : ShapeData) (v : VcpuData) → v.state ≡ Running →
      IfSome v.pending (λ access. AccessesMemory access.instr) → request_of shape v ≢ Nothing

-- the vCPU goes on from this target, which is a multiple of 4
pub record LandsAt (after : VcpuData) (target : ℕ) : Type 0 where
  pub pc : after.pc ≡ target
  pub aligned : after.pc % 4 ≡ 0

-- a jump or a taken branch that didn't halt is at its target, of what the registers were before; and a branch that
-- isn't taken goes on with the next instruction
pub record JumpsLand : Type 0 where
  pub jal : (shape : ShapeData) (v : VcpuData) (rd : ℕ) (off : ℤ) →
      (executed shape v (Jal rd off)).state ≡ Running → LandsAt (executed shape v (Jal rd off)) (sum64 v.pc (bits64 off))
  pub jalr : (shape : ShapeData) (v : VcpuData) (rd rs1 : ℕ) (off : ℤ) →
      (executed shape v (Jalr rd rs1 off)).state ≡ Running → LandsAt (executed shape v (Jalr rd rs1 off)) (even (address_of v rs1 off))
  pub taken : (shape : ShapeData) (v : VcpuData) (op : BranchOp) (rs1 rs2 : ℕ) (off : ℤ) →
      is_taken op (reg_of v rs1) (reg_of v rs2) ≡ true → (executed shape v (Branch op rs1 rs2 off)).state ≡ Running →
      LandsAt (executed shape v (Branch op rs1 rs2 off)) (sum64 v.pc (bits64 off))
  pub untaken : (shape : ShapeData) (v : VcpuData) (op : BranchOp) (rs1 rs2 : ℕ) (off : ℤ) →
      is_taken op (reg_of v rs1) (reg_of v rs2) ≡ false →
      executed shape v (Branch op rs1 rs2 off) ≡ record v { pc = next_pc v; steps = v.steps + 1 }

-- a jump that didn't halt leaves the address of the next instruction in rd
pub record JumpsLink : Type 0 where
  pub jal : (shape : ShapeData) (v : VcpuData) (rd : ℕ) (off : ℤ) → length v.regs ≡ 31 → 0 < rd → rd < 32 →
      (executed shape v (Jal rd off)).state ≡ Running → reg_of (executed shape v (Jal rd off)) rd ≡ next_pc v
  pub jalr : (shape : ShapeData) (v : VcpuData) (rd rs1 : ℕ) (off : ℤ) → length v.regs ≡ 31 → 0 < rd → rd < 32 →
      (executed shape v (Jalr rd rs1 off)).state ≡ Running → reg_of (executed shape v (Jalr rd rs1 off)) rd ≡ next_pc v

-- opposite branches are opposite
pub record BranchesOppose : Type 0 where
  pub equal : (a b : ℕ) → is_taken Bne a b ≡ not (is_taken Beq a b)
  pub signed : (a b : ℕ) → is_taken Bge a b ≡ not (is_taken Blt a b)
  pub unsigned : (a b : ℕ) → is_taken Bgeu a b ≡ not (is_taken Bltu a b)

-- a store changes no register, a fence the pc and the steps alone, and a call of the environment and a breakpoint halt
pub record KeepsRegisters : Type 0 where
  pub store_fetched : (shape : ShapeData) (v : VcpuData) (op : StoreOp) (rs1 rs2 : ℕ) (off : ℤ) →
      (executed shape v (Store op rs1 rs2 off)).regs ≡ v.regs
  pub store_accessed : (v : VcpuData) (value : ℕ) (access : Access) (op : StoreOp) (rs1 rs2 : ℕ) (off : ℤ) →
      v.pending ≡ Some access → access.instr ≡ Store op rs1 rs2 off → (accessed_vcpu v value).regs ≡ v.regs
  pub fence : (shape : ShapeData) (v : VcpuData) (rd rs1 bits : ℕ) →
      executed shape v (Fence rd rs1 bits) ≡ record v { pc = next_pc v; steps = v.steps + 1 }
  pub ecall : (shape : ShapeData) (v : VcpuData) → executed shape v Ecall ≡ record v { state = Halted causes.Ecall }
  pub ebreak : (shape : ShapeData) (v : VcpuData) → executed shape v Ebreak ≡ record v { state = Halted causes.Ebreak }

-- x0 is 0, and a register has what was last written to it
pub record RegistersKeep : Type 0 where
  pub zero : (v : VcpuData) → reg_of v 0 ≡ 0
  pub others : (v : VcpuData) (rd value i : ℕ) → i ≢ rd → reg_of (with_reg v rd value) i ≡ reg_of v i
  pub written : (v : VcpuData) (rd value : ℕ) → length v.regs ≡ 31 → 0 < rd → rd < 32 →
      reg_of (with_reg v rd value) rd ≡ value

-- the register that an instruction writes; 0 where it writes none
abbrev pub rd_of : Instr → ℕ
rd_of (Lui rd imm) = rd
rd_of (Auipc rd imm) = rd
rd_of (Jal rd off) = rd
rd_of (Jalr rd rs1 off) = rd
rd_of (Branch op rs1 rs2 off) = 0
rd_of (Load op rd rs1 off) = rd
rd_of (Store op rs1 rs2 off) = 0
rd_of (Imm op rd rs1 imm) = rd
rd_of (Shift op rd rs1 amount) = rd
rd_of (ImmW rd rs1 imm) = rd
rd_of (ShiftW op rd rs1 amount) = rd
rd_of (Op op rd rs1 rs2) = rd
rd_of (OpW op rd rs1 rs2) = rd
rd_of (Fence rd rs1 bits) = 0
rd_of Ecall = 0
rd_of Ebreak = 0
rd_of (Amo op wide rd rs1 rs2 order) = rd

-- an instruction changes no other register
pub record WritesOne : Type 0 where
  pub fetched : (shape : ShapeData) (v : VcpuData) (instr : Instr) (i : ℕ) → i ≢ rd_of instr →
      reg_of (executed shape v instr) i ≡ reg_of v i
  pub accessed : (v : VcpuData) (value : ℕ) (access : Access) (i : ℕ) → v.pending ≡ Some access →
      i ≢ rd_of access.instr → reg_of (accessed_vcpu v value) i ≡ reg_of v i

-- a register holds the sign extension of its own low word
abbrev pub IsWordAt : VcpuData → ℕ → Type 0
IsWordAt v i = reg_of v i ≡ extended_word (low_word (reg_of v i))

-- the result of a W form is the sign extension of its low word
pub record ResultsAreWords : Type 0 where
  pub imm : (shape : ShapeData) (v : VcpuData) (rd rs1 : ℕ) (imm : ℤ) → length v.regs ≡ 31 → rd < 32 →
      IsWordAt (executed shape v (ImmW rd rs1 imm)) rd
  pub shift : (shape : ShapeData) (v : VcpuData) (op : ShiftOp) (rd rs1 amount : ℕ) → length v.regs ≡ 31 → rd < 32 →
      IsWordAt (executed shape v (ShiftW op rd rs1 amount)) rd
  pub registers : (shape : ShapeData) (v : VcpuData) (op : RegWOp) (rd rs1 rs2 : ℕ) → length v.regs ≡ 31 → rd < 32 →
      IsWordAt (executed shape v (OpW op rd rs1 rs2)) rd

-- a value of the width, as a cell gives it or rs2 holds it
abbrev pub FitsIn : Width → ℕ → Type 0
FitsIn width a = (a < 2 ^ 64) × (a ≡ low_bytes width a)

-- what the AMO writes is the value found or the one in rs2
abbrev pub WritesOneOf : AmoOp → Type 0
WritesOneOf op = (width : Width) (found value : ℕ) → FitsIn width found → FitsIn width value →
    (amo_written op width found value ≡ found) ⊎ (amo_written op width found value ≡ value)

-- an AMO that swaps writes rs2, and one that compares one of the two
pub record AmosChoose : Type 0 where
  pub swap : (width : Width) (found value : ℕ) → amo_written Swap width found value ≡ value
  pub min : WritesOneOf Min
  pub max : WritesOneOf Max
  pub minu : WritesOneOf Minu
  pub maxu : WritesOneOf Maxu
