-- What can come of one event of a vCPU, case by case (this project's own events, docs/MACHINE.md).
use Rattle.std.specs.Prelude.{◌≡◌, ◌+◌, Some, None}
use Rattle.ram_block.specs.declared.cause.Cause.{Cause}
use Rattle.rv64i_step.specs.Access.{AccessesMemory}
use Rattle.rv64i_step.specs.Vcpu.{VcpuData}
use Rattle.rv64i_step.specs.declared.access.Access.{Access}
use Rattle.rv64i_step.specs.declared.state.State.TheVariants.{Halted}

-- the vCPU halts with this cause, where it stands
pub record HaltsWith (v after : VcpuData) (cause : Cause) : Type 0 where
  pub state : after.state ≡ Halted cause
  pub pending : after.pending ≡ None
  pub regs : after.regs ≡ v.regs
  pub pc : after.pc ≡ v.pc
  pub steps : after.steps ≡ v.steps

-- this access, of a load, a store or an AMO, is still to be made, and nothing else changes
pub record AwaitsAccess (v after : VcpuData) (access : Access) : Type 0 where
  pub kind : AccessesMemory access.instr
  pub pending : after.pending ≡ Some access
  pub state : after.state ≡ v.state
  pub regs : after.regs ≡ v.regs
  pub pc : after.pc ≡ v.pc
  pub steps : after.steps ≡ v.steps

-- the instruction is finished: one step more, and nothing pending
pub record Finishes (v after : VcpuData) : Type 0 where
  pub pending : after.pending ≡ None
  pub state : after.state ≡ v.state
  pub steps : after.steps ≡ v.steps + 1

-- what comes of a fetch: one of three, which differ in what is pending and in the state
pub data FetchOutcome (v after : VcpuData) : Type 0 where
  Halting : (cause : Cause) → HaltsWith v after cause → FetchOutcome v after
  Awaiting : (access : Access) → AwaitsAccess v after access → FetchOutcome v after
  Finishing : Finishes v after → FetchOutcome v after
