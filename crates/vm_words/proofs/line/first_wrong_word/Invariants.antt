use Rattle.std.proofs.Common.{◌≡◌, ℕ, ◌<◌, None, map, string_bytes}
use Rattle.vm_words.specs.Line.{kind_at}
use Rattle.vm_words.proofs.line.first_wrong_word.Given as goal

-- the words so far pass
abbrev pub invariant-loop-i : goal.invariant-loop-i
invariant-loop-i l = (k : ℕ) → k < l.i → kind_at l.command (map string_bytes l.rest) k ≡ None
