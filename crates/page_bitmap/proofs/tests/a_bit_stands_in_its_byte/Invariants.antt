use Rattle.std.proofs.Common.{◌≡◌}
use Rattle.page_bitmap.proofs.tests.a_bit_stands_in_its_byte.Given as goal

abbrev pub invariant-loop-p : goal.invariant-loop-p
invariant-loop-p g l = l.bitmap.pages ≡ 65
