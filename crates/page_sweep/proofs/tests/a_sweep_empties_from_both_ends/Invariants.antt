use Rattle.std.proofs.Common.{◌≡◌}
use Rattle.page_sweep.proofs.tests.a_sweep_empties_from_both_ends.Given as goal

abbrev pub invariant-loop-p : goal.invariant-loop-p
invariant-loop-p g l = l.sweep.pages ≡ 16384
