use Rattle.std.proofs.Common.{◌≡◌, ◌+◌, map, take}
use Rattle.rv64i_step.specs.Vcpu.{VcpuData}
use Rattle.flat_machine.proofs.rounds.phase_ends.Given as goal

abbrev pub invariant-loop-vcpu : goal.invariant-loop-vcpu
invariant-loop-vcpu l = l.ends.items ≡ map (λ (v : VcpuData). v.steps + l.n) (take l.vcpu-index l.vcpus)
