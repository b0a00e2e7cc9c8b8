use Rattle.std.proofs.Common.{◌≡◌, ◌%◌, ◌^◌, take}
use Rattle.std.specs.List.{sum_by}
use Rattle.std.specs.Int.{from_le_bytes, w64}
use Rattle.flat_machine.proofs.sum.sum_words.Given as goal

abbrev pub invariant-loop-word : goal.invariant-loop-word
invariant-loop-word l = l.sum ≡ sum_by (from_le_bytes w64) (take l.word-index l.words) % 2 ^ 64
