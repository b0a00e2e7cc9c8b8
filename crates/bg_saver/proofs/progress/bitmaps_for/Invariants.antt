use Rattle.std.proofs.Common.{◌≡◌, replicate, false}
use Rattle.bg_saver.proofs.progress.bitmaps_for.Given as goal

abbrev pub invariant-loop : goal.invariant-loop
invariant-loop l = l.bitmaps.items ≡ replicate l.counter (record { pages = l.shape.pages; bits = replicate l.shape.pages false })
