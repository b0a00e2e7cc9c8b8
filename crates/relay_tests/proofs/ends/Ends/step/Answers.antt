use Rattle.relay_tests.proofs.Steps.{stepped}
use Rattle.relay_tests.proofs.ends.Ends.step.Goals as goal

pub invariant_of-self : goal.invariant_of-self
invariant_of-self c = record {
  copies = stepped _ _ _ _ _ c.self.invariant.copies c.try_step.ensures;
  writes = c.self.invariant.writes;
  count = c.self.invariant.count;
  free = c.self.invariant.free;
}
