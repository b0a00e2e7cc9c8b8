-- The page in hand, or what the pick calls for.
use Rattle.bg_saver.proofs.Courses.{next_in_hand, next_picked}
use Rattle.bg_saver.proofs.take.next_page.Goals as goal

pub returns-in-Some-clause-picked : goal.returns-in-Some-clause-picked
returns-in-Some-clause-picked g c = next_in_hand _ _ c.args.first _ c.requires.runs c.requires.first c.requires.of_save.fits c.in-Some.ensures.hand

pub returns-in-Fault-clause-picked : goal.returns-in-Fault-clause-picked
returns-in-Fault-clause-picked g c = next_picked _ _ _ c.args.first _ c.requires.runs c.requires.first c.in-None.ensures.hand c.in-Fault.ensures

pub returns-in-Empty-clause-picked : goal.returns-in-Empty-clause-picked
returns-in-Empty-clause-picked g c = next_picked _ _ _ c.args.first _ c.requires.runs c.requires.first c.in-None.ensures.hand c.in-Empty.ensures

pub returns-in-Busy-clause-picked : goal.returns-in-Busy-clause-picked
returns-in-Busy-clause-picked g c = next_picked _ _ _ c.args.first _ c.requires.runs c.requires.first c.in-None.ensures.hand c.in-Busy.ensures
