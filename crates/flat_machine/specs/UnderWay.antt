-- A phase that goes on: what each vCPU keeps in it, and how many events it can still make (this project's own events,
-- docs/MACHINE.md).
use Rattle.std.specs.Prelude.{◌≡◌, ℕ, ◌+◌, ◌-◌, ◌*◌, ◌<◌, ◌≤◌, length, slice_get, Option, Some, None}
use Rattle.std.specs.Option.{option_map_or}
use Rattle.rv64i_step.specs.Access.{AccessesMemory}
use Rattle.rv64i_step.specs.Vcpu.{VcpuData}
use Rattle.rv64i_step.specs.declared.access.Access.{Access}
use Rattle.rv64i_step.specs.declared.state.State.{State}
use Rattle.rv64i_step.specs.declared.state.State.TheVariants.{Running, Halted}
use Rattle.flat_machine.specs.Machine.{MachineData}
use Rattle.flat_machine.specs.Run.{run, steps_of, IsInPhase, Progress}

-- a pending access is of a load, a store or an AMO
abbrev pub AwaitsMemory : VcpuData → Type 0
AwaitsMemory v = (access : Access) → v.pending ≡ Some access → AccessesMemory access.instr

-- what a vCPU keeps in a phase that ends at this count of steps
pub record IsOn (until : ℕ) (v : VcpuData) : Type 0 where
  pub kind : AwaitsMemory v
  pub runs : (access : Access) → v.pending ≡ Some access → v.state ≡ Running
  pub below : (access : Access) → v.pending ≡ Some access → v.steps < until
  pub steps : v.steps ≤ until

-- each vCPU of a machine keeps it, in a phase of n instructions from machine i
abbrev pub AreOn : MachineData → ℕ → MachineData → Type 0
AreOn i n m = (k : ℕ) (v : VcpuData) → slice_get m.vcpus k ≡ Some v → IsOn (steps_of i k + n) v

-- an access that is pending is an event already made
abbrev pub made_of : Option Access → ℕ
made_of None = 0
made_of (Some access) = 1

-- one that is halted makes none
abbrev pub left_in : State → ℕ → ℕ
left_in Running n = n
left_in (Halted cause) n = 0

-- the most events that a vCPU can still make in the phase: two for each instruction
abbrev pub left_of : ℕ → VcpuData → ℕ
left_of until v = left_in v.state (2 * (until - v.steps) - made_of v.pending)

-- the same of vCPU k
abbrev pub left_at : MachineData → ℕ → MachineData → ℕ → ℕ
left_at i n m k = option_map_or (left_of (steps_of i k + n)) (slice_get m.vcpus k) 0

-- the order so far is one of a phase that goes on
pub record IsUnderWay (i : MachineData) (n : ℕ) (p : Progress) : Type 0 where
  pub ran : run i p.order ≡ Some p.machine
  pub each : (t : ℕ) → t < length p.order → IsInPhase i n p.order t
  pub on : AreOn i n p.machine
  pub count : length p.machine.vcpus ≡ length i.vcpus
