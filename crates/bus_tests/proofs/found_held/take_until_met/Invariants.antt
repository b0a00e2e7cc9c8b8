use Rattle.std.specs.Prelude.{◌≡◌}
use Rattle.page_bus.specs.Passes.{saver_key}
use Rattle.bus_tests.proofs.found_held.take_until_met.Given as goal

abbrev pub invariant-loop : goal.invariant-loop
invariant-loop l = record { key : saver_key l.saver ≡ saver_key l.fn.saver; table : l.saver.table ≡ l.bus.table }
