-- The pass is that of the same vCPU.
use Rattle.std.proofs.Common.{◌≡◌}
use Rattle.page_bus.specs.Passes.{vcpu_key}
use Rattle.bg_run.proofs.stepping.step.Given as goal

abbrev pub invariant-loop : goal.invariant-loop
invariant-loop g l = record {
  can_next : (goal.iterator-loop g).can_next l.iterator';
  is_finite : (goal.iterator-loop g).is_finite l.iterator';
  key : vcpu_key l.pass ≡ vcpu_key l.fn.pass;
}
