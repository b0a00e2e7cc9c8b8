use Rattle.std.proofs.Common.{◌≡◌, ◌+◌, ◌*◌, ◌^◌, ◌≤◌, [], length, All}
use Rattle.rv64i_step.specs.Vcpu.{VcpuData}
use Rattle.flat_machine.specs.Run.{rounds_on}
use Rattle.flat_machine.proofs.machine.Machine.make_rounds.Given as goal

abbrev pub invariant-loop-done : goal.invariant-loop-done
invariant-loop-done l = record {
  rounds : record { machine = l.self; order = l.order.members } ≡ rounds_on l.ends l.done (record { machine = l.initial.self; order = [] });
  shape : l.self.shape ≡ l.initial.self.shape;
  clock : l.self.clock ≤ 2 ^ 62 + 8 * l.done;
  steps : All (λ (v : VcpuData). v.steps ≤ 2 ^ 62 + 8 * l.done) l.self.vcpus;
  count : length l.order.members ≤ length l.ends * l.done;
  room : l.order.room ≡ l.initial.order.room;
}
