use Rattle.std.proofs.Common.{◌≡◌}
use Rattle.page_sweep.proofs.tests.a_sweep_empties_from_the_middle_outwards.Given as goal

abbrev pub invariant-loop-d : goal.invariant-loop-d
invariant-loop-d g l = l.sweep.pages ≡ 16384
