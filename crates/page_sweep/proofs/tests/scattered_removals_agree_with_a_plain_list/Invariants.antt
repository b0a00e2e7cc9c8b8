use Rattle.std.proofs.Common.{◌≡◌, ◌<◌}
use Rattle.page_sweep.proofs.tests.scattered_removals_agree_with_a_plain_list.Given as goal

abbrev pub invariant-loop : goal.invariant-loop
invariant-loop g l = (l.x < 8191) × (l.sweep.pages ≡ 97)
