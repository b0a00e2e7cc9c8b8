use Rattle.std.proofs.Common.{ℕ, ◌<◌, get_or}
use Rattle.rv64i_step.specs.Vcpu.{VcpuData, IsVcpu}
use Rattle.flat_machine.proofs.machine.know_vcpus.Given as goal

abbrev pub invariant-loop-vcpu : goal.invariant-loop-vcpu
invariant-loop-vcpu l = (k : ℕ) (d : VcpuData) → k < l.vcpu-index → IsVcpu (get_or l.vcpus k d)
