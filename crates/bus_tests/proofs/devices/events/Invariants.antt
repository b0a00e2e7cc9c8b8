use Rattle.page_bus.specs.Closing.{AreAllOf}
use Rattle.bus_tests.proofs.devices.events.Given as goal

abbrev pub invariant-loop-i : goal.invariant-loop-i
invariant-loop-i l = record { all : AreAllOf l.shared.bus l.shared.passes.items l.shared.saver }
