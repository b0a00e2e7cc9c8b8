use Rattle.std.proofs.Common.{◌≡◌}
use Rattle.wp_fault.proofs.tests.every_page_waits_and_leaves_in_turn.Given as goal

abbrev pub invariant-loop-k : goal.invariant-loop-k
invariant-loop-k g l = l.queue.pages ≡ 16384

abbrev pub invariant-loop-turn : goal.invariant-loop-turn
invariant-loop-turn g l = l.queue.pages ≡ 16384

abbrev pub invariant-loop-p : goal.invariant-loop-p
invariant-loop-p g l = l.queue.pages ≡ 16384
