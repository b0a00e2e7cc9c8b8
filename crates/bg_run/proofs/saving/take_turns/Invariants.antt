-- The save goes on, and so far the file was left as by turns of one that does.
use Rattle.std.proofs.Common.{None}
use Rattle.std.specs.Prelude.{IfSome, IsSome}
use Rattle.medium.specs.Members.{file_state}
use Rattle.page_bus.specs.Plant.{end_state}
use Rattle.bg_saver.specs.Save.{IsUnderWay}
use Rattle.sliced_run.specs.Phase.{LeavesFile}
use Rattle.bg_run.specs.Workers.{KeepsSaving, instant_of}
use Rattle.bg_run.proofs.saving.take_turns.Given as goal

abbrev pub invariant-loop : goal.invariant-loop
invariant-loop g l = record {
  can_next : (goal.iterator-loop g).can_next l.iterator';
  is_finite : (goal.iterator-loop g).is_finite l.iterator';
  keeps : KeepsSaving l.fn.end.bus.now l.fn.end.pass l.end.bus.now l.end.pass l.saver;
  way : IsUnderWay l.saver (instant_of l.fn.end.pass) (end_state l.end.bus.now l.end.pass) (file_state g.M.Readable l.medium);
  file : LeavesFile (instant_of l.fn.end.pass) None (file_state g.M.Readable l.fn.medium) (file_state g.M.Readable l.medium);
  telling : IfSome (g.M.Readable.told l.fn.medium) (λ _. IsSome (g.M.Readable.told l.medium));
}
