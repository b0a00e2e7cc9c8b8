-- What each instruction makes of a vCPU when it is fetched, class by class (RISC-V Unprivileged ISA, RV32I and
-- RV64I; which of them halt is this project's own, docs/MACHINE.md).
use Rattle.std.specs.Prelude.{ℕ, ◌-◌, ◌%◌, ◌==◌, ℤ, Some, Result, Ok, Err, if◌then◌else◌}
use Rattle.ram_block.specs.AddressMap.{located}
use Rattle.ram_block.specs.Shape.{ShapeData}
use Rattle.ram_block.specs.declared.cause.Cause.{Cause}
use Rattle.ram_block.specs.declared.cause.Cause.TheVariants as causes
use Rattle.ram_block.specs.declared.place.Place.{Place}
use Rattle.ram_block.specs.declared.place.Way.{Way}
use Rattle.ram_block.specs.declared.place.Way.TheVariants as ways
use Rattle.ram_block.specs.declared.place.Width.{Width}
use Rattle.rv64i_decode.specs.declared.instr.Instr.{Instr}
use Rattle.rv64i_decode.specs.declared.instr.Instr.TheVariants.{Lui, Auipc, Jal, Jalr, Branch, Load, Store, Imm, Shift, ImmW, ShiftW, Op, OpW, Fence, Ecall, Ebreak, Amo}
use Rattle.rv64i_step.specs.Access.{load_width, store_width, amo_width}
use Rattle.rv64i_step.specs.Arithmetic.{bits64, sum64, low_word, extended_word, imm_result, shift_result, shift_w_result, reg_result, reg_w_result, is_taken}
use Rattle.rv64i_step.specs.Vcpu.{VcpuData, reg_of, with_reg, next_pc, finished, writes, halted}

-- the vCPU at the target of a jump or of a taken branch, with what the jump writes; a target that isn't a
-- multiple of 4 halts, and then nothing is written
abbrev pub jumps : VcpuData → VcpuData → ℕ → VcpuData
jumps v linked target = if target % 4 == 0 then finished linked target else halted v causes.JumpMisaligned

-- the vCPU when its access has a place and is pending, or halts
abbrev pub aimed : VcpuData → Instr → Result Place Cause → VcpuData
aimed v instr (Ok place) = record v { pending = Some (record { instr = instr; place = place }) }
aimed v instr (Err cause) = halted v cause

-- the same, at an address
abbrev pub aims : ShapeData → VcpuData → Instr → ℕ → Width → Way → VcpuData
aims shape v instr address width way = aimed v instr (located shape address width way)

-- the address of a load or a store
abbrev pub address_of : VcpuData → ℕ → ℤ → ℕ
address_of v rs1 off = sum64 (reg_of v rs1) (bits64 off)

-- a target of JALR, with bit 0 cleared
abbrev pub even : ℕ → ℕ
even target = target - target % 2

-- the vCPU after the fetch of the instruction
unfoldable pub executed : ShapeData → VcpuData → Instr → VcpuData
-- Integer Register-Immediate Instructions
executed shape v (Lui rd imm) = writes v rd (bits64 imm)
executed shape v (Auipc rd imm) = writes v rd (sum64 v.pc (bits64 imm))
executed shape v (Imm op rd rs1 imm) = writes v rd (imm_result op (reg_of v rs1) (bits64 imm))
executed shape v (Shift op rd rs1 amount) = writes v rd (shift_result op (reg_of v rs1) amount)
executed shape v (ImmW rd rs1 imm) = writes v rd (extended_word (low_word (sum64 (reg_of v rs1) (bits64 imm))))
executed shape v (ShiftW op rd rs1 amount) = writes v rd (extended_word (shift_w_result op (low_word (reg_of v rs1)) amount))
-- Integer Register-Register Operations
executed shape v (Op op rd rs1 rs2) = writes v rd (reg_result op (reg_of v rs1) (reg_of v rs2))
executed shape v (OpW op rd rs1 rs2) = writes v rd (extended_word (reg_w_result op (low_word (reg_of v rs1)) (low_word (reg_of v rs2))))
-- Unconditional Jumps: the target is computed before rd is written
executed shape v (Jal rd off) = jumps v (with_reg v rd (next_pc v)) (sum64 v.pc (bits64 off))
executed shape v (Jalr rd rs1 off) = jumps v (with_reg v rd (next_pc v)) (even (sum64 (reg_of v rs1) (bits64 off)))
-- Conditional Branches
executed shape v (Branch op rs1 rs2 off) =
    if is_taken op (reg_of v rs1) (reg_of v rs2) then jumps v v (sum64 v.pc (bits64 off)) else finished v (next_pc v)
-- Load and Store Instructions, and Atomic Memory Operations: the access is still to be made
executed shape v (Load op rd rs1 off) = aims shape v (Load op rd rs1 off) (address_of v rs1 off) (load_width op) ways.Load
executed shape v (Store op rs1 rs2 off) = aims shape v (Store op rs1 rs2 off) (address_of v rs1 off) (store_width op) ways.Store
executed shape v (Amo op wide rd rs1 rs2 order) =
    aims shape v (Amo op wide rd rs1 rs2 order) (reg_of v rs1) (amo_width wide) ways.Amo
-- Memory Ordering Instructions, and Environment Call and Breakpoints
executed shape v (Fence rd rs1 bits) = finished v (next_pc v)
executed shape v Ecall = halted v causes.Ecall
executed shape v Ebreak = halted v causes.Ebreak
