-- The save goes on, and so far the file was left as by turns of one that does.
use Rattle.std.proofs.Common.{◌≡◌, None}
use Rattle.std.specs.Prelude.{IfSome, IsSome}
use Rattle.medium.specs.Members.{file_state}
use Rattle.flat_machine.specs.Machine.{MachineData}
use Rattle.bg_saver.specs.Save.{IsOfSave, IsUnderWay}
use Rattle.sliced_run.specs.Phase.{LeavesFile}
use Rattle.write_pipe.specs.WriteEnd.{write_state}
use Rattle.write_pipe.proofs.writing.take_turns.Given as goal

abbrev pub invariant-loop : goal.invariant-loop
invariant-loop g l = record {
  can_next : (goal.iterator-loop g).can_next l.iterator';
  is_finite : (goal.iterator-loop g).is_finite l.iterator';
  runs : l.saver.end ≡ None;
  save : IsOfSave l.saver (write_state g.P.Plant.total g.P.Plant.writable g.P.Plant.stands g.P.Plant.fits l.writer);
  telling : IfSome (g.M.Readable.told l.fn.medium) (λ _. IsSome (g.M.Readable.told l.medium));
  file : (i : MachineData) → IsUnderWay l.fn.saver i (write_state g.P.Plant.total g.P.Plant.writable g.P.Plant.stands g.P.Plant.fits l.fn.writer) (file_state g.M.Readable l.fn.medium)
      → IsUnderWay l.saver i (write_state g.P.Plant.total g.P.Plant.writable g.P.Plant.stands g.P.Plant.fits l.writer) (file_state g.M.Readable l.medium)
      × LeavesFile i None (file_state g.M.Readable l.fn.medium) (file_state g.M.Readable l.medium);
}
