use Rattle.std.proofs.Common.{◌≡◌}
use Rattle.page_bitmap.proofs.tests.the_largest_bitmap_is_read_back.Given as goal

abbrev pub invariant-loop-p : goal.invariant-loop-p
invariant-loop-p g l = l.bitmap.pages ≡ 2048
