use Rattle.saver_tests.proofs.Begun.{begun_of_save}
use Rattle.saver_tests.proofs.turns.is_of_save.Goals as goal

pub returns : goal.returns
returns g c = begun_of_save c.args._saver.now c.args._stopped.now _ _ c.requires.begun c.requires.fits c.requires.total c.requires.protected
