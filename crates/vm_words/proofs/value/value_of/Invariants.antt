use Rattle.std.proofs.Common.{◌≡◌, drop, map, string_bytes}
use Rattle.vm_words.specs.Word.{value_in}
use Rattle.vm_words.proofs.value.value_of.Given as goal

-- the words that are left give the value
abbrev pub invariant-loop-word : goal.invariant-loop-word
invariant-loop-word l = value_in (map string_bytes (drop l.word-index l.words)) l.key ≡ value_in (map string_bytes l.words) l.key
