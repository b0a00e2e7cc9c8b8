use Rattle.bg_saver.specs.Members.{plant_state}
use Rattle.bg_saver.specs.Save.{IsOfSave, MayRelease}
use Rattle.saver_tests.proofs.releases.stays_failed.Given as goal

abbrev pub invariant-loop : goal.invariant-loop
invariant-loop g l = record { of_save : IsOfSave l.saver (plant_state g.P.Plant l.plant); failed : MayRelease l.saver (plant_state g.P.Plant l.plant) }
