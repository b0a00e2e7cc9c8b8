use Rattle.std.proofs.Common.{◌≡◌, ◌+◌, length, map, take}
use Rattle.rv64i_step.specs.Vcpu.{VcpuData}
use Rattle.vm_cli.proofs.lazy_run.phase_ends.Given as goal

abbrev pub invariant-loop-k : goal.invariant-loop-k
invariant-loop-k g l = record {
  ends : l.ends.items ≡ map (λ (v : VcpuData). v.steps + l.n) (take l.k l.lazy.held.machine.vcpus);
  count : length l.ends.items ≡ l.k;
}
