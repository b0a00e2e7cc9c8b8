use Rattle.std.proofs.Common.{◌≡◌}
use Rattle.page_bitmap.proofs.Packed.{IsCut}
use Rattle.page_bitmap.proofs.bitmap.Bitmap.get_bytes.Given as goal

abbrev pub invariant-loop-i : goal.invariant-loop-i
invariant-loop-i l = record {
  same_pages : l.self-inside.pages ≡ l.initial.self-inside.pages;
  cut : IsCut l.self-inside.pages l.bytes l.self-inside.bytes.items l.i;
}
