use Rattle.std.proofs.Common.{◌≡◌, ◌++◌, take}
use Rattle.std.specs.Int.{to_le_bytes, w32}
use Rattle.std.specs.List.{flat_map}
use Rattle.vm_words.proofs.workload.put_words.Given as goal

-- as many words as were gone over
abbrev pub invariant-loop-word : goal.invariant-loop-word
invariant-loop-word l = l.image.items ≡ l.fn.image.items ++ flat_map (to_le_bytes w32) (take l.word-index l.words)
