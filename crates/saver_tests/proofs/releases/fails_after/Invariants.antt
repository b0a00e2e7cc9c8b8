use Rattle.std.specs.Prelude.{◌≡◌, None}
use Rattle.bg_saver.specs.Members.{plant_state}
use Rattle.bg_saver.specs.Save.{IsOfSave}
use Rattle.saver_tests.proofs.releases.fails_after.Given as goal

abbrev pub invariant-loop-i : goal.invariant-loop-i
invariant-loop-i g l = record { of_save : IsOfSave l.saver (plant_state g.P.Plant l.plant); runs : l.saver.end ≡ None }
