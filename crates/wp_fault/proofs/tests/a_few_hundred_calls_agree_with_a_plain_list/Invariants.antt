use Rattle.std.proofs.Common.{◌≡◌, ◌<◌}
use Rattle.wp_fault.proofs.tests.a_few_hundred_calls_agree_with_a_plain_list.Given as goal

abbrev pub invariant-loop : goal.invariant-loop
invariant-loop g l = (l.x < 8191) × (l.queue.pages ≡ 13)
