use Rattle.bg_saver.proofs.Begun.{before_all}
use Rattle.bg_saver.proofs.saver.Saver.at_instant.Goals as goal

pub returns-clause-before : goal.returns-clause-before
returns-clause-before c = before_all _ _ c.in_ok-progress.ensures.begun c.in_ok-progress.ensures.machine c.in_ok-progress.ensures.rest
