use Rattle.loader.proofs.EitherOr.{either, layout_loads, never_both}
use Rattle.loader.proofs.laws.a_file_is_loaded_or_refused.Goals as goal

pub returns-clause-layout : goal.returns-clause-layout
returns-clause-layout c = layout_loads c.a_file_is_a_layout_of_one_machine.ensures

pub returns-clause-either : goal.returns-clause-either
returns-clause-either c = either

pub returns-clause-never_both : goal.returns-clause-never_both
returns-clause-never_both c = never_both c.a_file_is_a_layout_of_one_machine.ensures
