use Rattle.std.proofs.Common.{◌≡◌, ◌+◌, ◌^◌, ◌≤◌, All, Some, take}
use Rattle.flat_machine.specs.Machine.{IsMachine}
use Rattle.flat_machine.specs.Run.{run}
use Rattle.order_log.proofs.replay_order.run_order.Given as goal

-- the machine is that of the members so far, each of which added one event at most
abbrev pub invariant-loop-place : goal.invariant-loop-place
invariant-loop-place l = record {
  ran : run l.initial.machine (take l.place l.order.members) ≡ Some l.machine;
  shape : l.machine.shape ≡ l.initial.machine.shape;
  clock : l.machine.clock ≤ 2 ^ 62 + l.place;
  steps : All (λ v. v.steps ≤ 2 ^ 62 + l.place) l.machine.vcpus;
  limits : IsMachine l.machine;
}
