use Rattle.std.specs.Prelude.{◌≡◌}
use Rattle.page_bus.specs.Passes.{vcpu_key}
use Rattle.events_in_threads.proofs.run_vcpu.Given as goal

abbrev pub invariant-loop : goal.invariant-loop
invariant-loop l = record { key : vcpu_key l.pass ≡ vcpu_key l.fn.pass; table : l.pass.table ≡ l.bus.table }
