use Rattle.crossbeam_queue.specs.Passes.{view}
use Rattle.write_pipe.proofs.Openings.{begins, comes_out, goes_first}
use Rattle.write_pipe.proofs.open.opened.Goals as goal

pub ruled-requires-clause-rule : goal.ruled-requires-clause-rule
ruled-requires-clause-rule g c = begins g.P.Plant.total g.P.Plant.stands

pub try_push_as-requires-clause-rule : goal.try_push_as-requires-clause-rule
try_push_as-requires-clause-rule g c = goes_first g.P.Plant.total g.P.Plant.stands _ _ (view c.in_ok-queue.pass) _ c.in_ok-queue.ensures.3

pub try_pop_as-requires-clause-rule : goal.try_pop_as-requires-clause-rule
try_pop_as-requires-clause-rule g c = comes_out g.P.Plant.total g.P.Plant.stands _ (view c.in_ok-queue.pass) (view c.try_push_as.new.pass) _ c.in_ok-queue.ensures.3 c.in-Ok.ensures.rule
