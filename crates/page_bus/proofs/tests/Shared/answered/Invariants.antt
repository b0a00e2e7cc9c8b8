use Rattle.page_bus.specs.Closing.{AreAllOf}
use Rattle.page_bus.proofs.tests.Shared.answered.Given as goal

abbrev pub invariant-loop-i : goal.invariant-loop-i
invariant-loop-i l = record { all : AreAllOf l.self.bus l.self.passes.items l.self.saver }
