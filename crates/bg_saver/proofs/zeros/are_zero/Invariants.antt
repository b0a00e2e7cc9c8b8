use Rattle.std.proofs.Common.{◌≡◌, true, take}
use Rattle.std.specs.List.{list_all}
use Rattle.bg_saver.specs.Writes.{is_zero_word}
use Rattle.bg_saver.proofs.zeros.are_zero.Given as goal

abbrev pub invariant-loop-word : goal.invariant-loop-word
invariant-loop-word l = list_all is_zero_word (take l.word-index l.words) ≡ true
