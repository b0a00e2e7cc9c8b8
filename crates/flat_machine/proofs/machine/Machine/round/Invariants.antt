use Rattle.std.proofs.Common.{◌≡◌, ℕ, ◌+◌, ◌≤◌, length, All}
use Rattle.std.specs.List.{range_with_len}
use Rattle.rv64i_step.specs.Vcpu.{VcpuData}
use Rattle.flat_machine.specs.Run.{turns}
use Rattle.flat_machine.proofs.machine.Machine.round.Given as goal

abbrev pub invariant-loop-k : goal.invariant-loop-k
invariant-loop-k l = record {
  turns : record { machine = l.self; order = l.order.members } ≡ turns l.ends (record { machine = l.initial.self; order = l.initial.order.members }) (range_with_len 0 l.k);
  shape : l.self.shape ≡ l.initial.self.shape;
  clock : l.self.clock ≤ l.initial.self.clock + l.k;
  steps : (most : ℕ) → All (λ (v : VcpuData). v.steps ≤ most) l.initial.self.vcpus → All (λ (v : VcpuData). v.steps ≤ most + l.k) l.self.vcpus;
  count : length l.order.members ≤ length l.initial.order.members + l.k;
  no_fewer : length l.initial.order.members ≤ length l.order.members;
  room : l.order.room ≡ l.initial.order.room;
}
