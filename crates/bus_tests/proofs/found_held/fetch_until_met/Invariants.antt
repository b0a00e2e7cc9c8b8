use Rattle.std.specs.Prelude.{◌≡◌}
use Rattle.page_bus.specs.Passes.{vcpu_key}
use Rattle.bus_tests.proofs.found_held.fetch_until_met.Given as goal

abbrev pub invariant-loop : goal.invariant-loop
invariant-loop l = record { key : vcpu_key l.pass ≡ vcpu_key l.fn.pass; table : l.pass.table ≡ l.bus.table }
