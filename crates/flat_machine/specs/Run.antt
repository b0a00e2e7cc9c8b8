-- Runs of the machine, phases and rounds (this project's own, docs/MACHINE.md).
use Rattle.std.specs.Prelude.{◌≡◌, ℕ, zero, suc, ◌+◌, ◌*◌, ◌<◌, ◌==◌, ◌||◌, Bool, true, false, List, [], ◌∷◌, ◌++◌, length, map, take, slice_get, slice_index, Option, Some, None, if◌then◌else◌}
use Rattle.std.specs.List.{range_with_len}
use Rattle.std.specs.Option.{option_map_or}
use Rattle.rv64i_step.specs.Vcpu.{VcpuData}
use Rattle.rv64i_step.specs.declared.state.State.{State}
use Rattle.rv64i_step.specs.declared.state.State.TheVariants.{Running, Halted}
use Rattle.flat_machine.specs.Machine.{MachineData}
use Rattle.flat_machine.specs.Next.{next}

-- the machine after an order of events; none where a member names a vCPU that is halted at its turn
unfoldable pub run_on : Option MachineData → List ℕ → Option MachineData
run_on None o = None
run_on (Some m) [] = Some m
run_on (Some m) (k ∷ o) = run_on (next m k) o

abbrev pub run : MachineData → List ℕ → Option MachineData
run m o = run_on (Some m) o

-- whether a vCPU in this state is halted
abbrev pub is_halted : State → Bool
is_halted Running = false
is_halted (Halted cause) = true

-- how many instructions vCPU k has finished
abbrev pub steps_of : MachineData → ℕ → ℕ
steps_of m k = option_map_or (λ v. v.steps) (slice_get m.vcpus k) 0

-- whether vCPU k is halted
abbrev pub halted_at : MachineData → ℕ → Bool
halted_at m k = option_map_or (λ v. is_halted v.state) (slice_get m.vcpus k) true

-- a phase that ends at this count of steps has ended for a vCPU that has them, or is halted
abbrev pub vcpu_ended : ℕ → VcpuData → Bool
vcpu_ended until v = is_halted v.state || (v.steps == until)

-- the same of vCPU k
abbrev pub ended_at : ℕ → MachineData → ℕ → Bool
ended_at until m k = option_map_or (vcpu_ended until) (slice_get m.vcpus k) true

-- vCPU k's phase of n instructions from machine i on has ended in machine m: it is halted, or its steps are those in i
-- plus n
unfoldable pub has_ended : MachineData → ℕ → MachineData → ℕ → Bool
has_ended i n m k = ended_at (steps_of i k + n) m k

-- the counts of steps at which the phases end, by vCPU
unfoldable pub ends_of : MachineData → ℕ → List ℕ
ends_of i n = map (λ v. v.steps + n) i.vcpus

-- how far a run has come: the machine, and the order of the events so far
pub record Progress : Type 0 where
  pub machine : MachineData
  pub order : List ℕ

-- with one event more, where there is one
abbrev pub with_event : Progress → ℕ → Option MachineData → Progress
with_event p k None = p
with_event p k (Some m) = record { machine = m; order = p.order ++ k ∷ [] }

-- vCPU k's turn in a round: one event, unless its phase has ended
unfoldable pub turn : List ℕ → Progress → ℕ → Progress
turn ends p k = if ended_at (slice_index ends k) p.machine k then p else with_event p k (next p.machine k)

-- the turns of the vCPUs of these numbers
unfoldable pub turns : List ℕ → Progress → List ℕ → Progress
turns ends p [] = p
turns ends p (k ∷ ks) = turns ends (turn ends p k) ks

-- one round: each vCPU has its turn, by number
abbrev pub round : List ℕ → Progress → Progress
round ends p = turns ends p (range_with_len 0 (length ends))

-- so many rounds
unfoldable pub rounds_on : List ℕ → ℕ → Progress → Progress
rounds_on ends zero p = p
rounds_on ends (suc r) p = rounds_on ends r (round ends p)

-- a phase of n instructions by rounds: an instruction has at most two events
unfoldable pub rounds_run : MachineData → ℕ → Progress
rounds_run m n = rounds_on (ends_of m n) (2 * n) (record { machine = m; order = [] })

abbrev pub rounds : MachineData → ℕ → List ℕ
rounds m n = (rounds_run m n).order

-- before its event at place t, the phase of the vCPU there had not ended
pub record IsInPhase (m : MachineData) (n : ℕ) (o : List ℕ) (t : ℕ) : Type 0 where
  pub before : MachineData
  pub ran : run m (take t o) ≡ Some before
  pub going_on : has_ended m n before (slice_index o t) ≡ false

-- the order is a phase of n instructions from m: it ends every vCPU's phase, and no event comes after its end
pub record Phase (m : MachineData) (n : ℕ) (o : List ℕ) : Type 0 where
  pub last : MachineData
  pub ran : run m o ≡ Some last
  pub ended : (k : ℕ) → k < m.shape.vcpus → has_ended m n last k ≡ true
  pub each : (t : ℕ) → t < length o → IsInPhase m n o t
