-- A vCPU as plain data (RISC-V Unprivileged ISA, Programmers' Model for Base Integer ISA; the count of steps, the
-- state and the boot values are this project's own, docs/MACHINE.md).
use Rattle.std.specs.Prelude.{◌≡◌, ℕ, ◌+◌, ◌-◌, ◌^◌, ◌<◌, ◌==◌, List, length, replicate, slice_index, slice_set, All, Option, None, IfSome, if◌then◌else◌}
use Rattle.ram_block.specs.declared.cause.Cause.{Cause}
use Rattle.ram_block.specs.declared.shape.TheConstants.{RAM_BASE}
use Rattle.rv64i_decode.specs.Valid.{IsValid}
use Rattle.rv64i_step.specs.Access.{AccessesMemory}
use Rattle.rv64i_step.specs.Arithmetic.{sum64}
use Rattle.rv64i_step.specs.declared.access.Access.{Access}
use Rattle.rv64i_step.specs.declared.state.State.{State}
use Rattle.rv64i_step.specs.declared.state.State.TheVariants.{Running, Halted}

-- x1 to x31, the pc, the count of finished instructions, and an access that is still to be made
pub record VcpuData : Type 0 where
  pub regs : List ℕ
  pub pc : ℕ
  pub steps : ℕ
  pub state : State
  pub pending : Option Access

-- the value of register i; x0 is 0
abbrev pub reg_of : VcpuData → ℕ → ℕ
reg_of v i = if i == 0 then 0 else slice_index v.regs (i - 1)

-- the vCPU with a value in register i; a write to x0 vanishes
abbrev pub with_reg : VcpuData → ℕ → ℕ → VcpuData
with_reg v i value = if i == 0 then v else record v { regs = slice_set v.regs (i - 1) value }

-- where the next instruction stands that follows in memory
abbrev pub next_pc : VcpuData → ℕ
next_pc v = sum64 v.pc 4

-- the vCPU when its instruction is finished, with the pc from which it goes on
abbrev pub finished : VcpuData → ℕ → VcpuData
finished v pc = record v { pc = pc; steps = v.steps + 1 }

-- the vCPU when an instruction has written its result, and goes on with the next one
abbrev pub writes : VcpuData → ℕ → ℕ → VcpuData
writes v rd value = finished (with_reg v rd value) (next_pc v)

-- a halt keeps the registers, the pc and the steps
abbrev pub halted : VcpuData → Cause → VcpuData
halted v cause = record v { state = Halted cause }

-- what each vCPU keeps: its registers are 31 numbers of 64 bits, and only a vCPU that runs has a pending access, of a
-- load, a store or an AMO
pub record IsVcpu (v : VcpuData) : Type 0 where
  pub count : length v.regs ≡ 31
  pub regs : All (λ r. r < 2 ^ 64) v.regs
  pub pc : v.pc < 2 ^ 64
  pub steps : v.steps < 2 ^ 64
  pub valid : IfSome v.pending (λ access. IsValid access.instr)
  pub pending : IfSome v.pending (λ access. AccessesMemory access.instr)
  pub runs : IfSome v.pending (λ access. v.state ≡ Running)

-- a vCPU at boot: its number in x10, and its pc at the start of RAM
abbrev pub boot_vcpu : ℕ → VcpuData
boot_vcpu number = record {
  regs = slice_set (replicate 31 0) 9 number;
  pc = RAM_BASE;
  steps = 0;
  state = Running;
  pending = None;
}

-- a vCPU that makes a fetch next, and whose count of steps has room
pub record IsReady (v : VcpuData) : Type 0 where
  pub runs : v.state ≡ Running
  pub none_pending : v.pending ≡ None
  pub steps : v.steps < 2 ^ 63
