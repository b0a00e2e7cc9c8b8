-- What no call changes of plant and end is as before, and the plant is that of this end.
use Rattle.std.proofs.Common.{◌≡◌}
use Rattle.bg_saver.specs.Members.{plant_state}
use Rattle.write_pipe.specs.CopyEnd.{IsOfCopy}
use Rattle.write_pipe.proofs.copying.copy_all.Given as goal

abbrev pub invariant-loop : goal.invariant-loop
invariant-loop g l = record {
  can_next : (goal.iterator-loop g).can_next l.iterator';
  is_finite : (goal.iterator-loop g).is_finite l.iterator';
  rest : g.P.Plant.rest l.plant ≡ g.P.Plant.rest l.fn.plant;
  from : l.copier.inlet.from ≡ l.fn.copier.inlet.from;
  of_copy : IsOfCopy g.P.Plant.total g.P.Plant.stands l.copier (plant_state g.P.Plant l.plant);
}
