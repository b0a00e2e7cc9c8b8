-- Of the saver only the pages left are others.
use Rattle.std.proofs.Common.{◌≡◌}
use Rattle.page_bus.specs.Plant.{end_state}
use Rattle.bg_saver.specs.Save.{MayRelease}
use Rattle.bg_run.specs.Workers.{KeepsSaving}
use Rattle.bg_run.proofs.saving.release.Given as goal

abbrev pub invariant-loop : goal.invariant-loop
invariant-loop g l = record {
  can_next : (goal.iterator-loop g).can_next l.iterator';
  is_finite : (goal.iterator-loop g).is_finite l.iterator';
  keeps : KeepsSaving l.fn.end.bus.now l.fn.end.pass l.end.bus.now l.end.pass l.saver;
  may : MayRelease l.saver (end_state l.end.bus.now l.end.pass);
  only : record l.saver { left = l.fn.saver.left } ≡ l.fn.saver;
}
