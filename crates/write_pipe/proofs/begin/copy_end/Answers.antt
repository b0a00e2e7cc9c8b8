use Rattle.std.proofs.Common.{ap}
use Rattle.page_sweep.specs.Sweep.{SweepData}
use Rattle.write_pipe.proofs.Beginnings.{begins_copying}
use Rattle.write_pipe.proofs.begin.copy_end.Goals as goal

pub invariant_of-result : goal.invariant_of-result
invariant_of-result g c = record {
  end = begins_copying g.P.Plant.total g.P.Plant.stands c.args.inlet c.args.pages c.requires.sent c.requires.pages c.in_ok-sweep.sweep c.in_ok-faulted.faulted.items c.in_ok-sweep.ensures.all
      c.in_ok-sweep.ensures.kept (c.in_ok-faulted.ensures.items_if_clones_equal (λ y is. is));
  swept = ap (λ (s : SweepData). s.pages) c.in_ok-sweep.ensures.all;
  pages = c.requires.pages;
}
