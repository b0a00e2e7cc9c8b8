use Rattle.std.proofs.Common.{◌≡◌, ℕ, ◌<◌, None, map, string_bytes}
use Rattle.vm_words.specs.Line.{clash_at}
use Rattle.vm_words.proofs.clash.first_clash.Given as goal

-- the words so far go together with the others
abbrev pub invariant-loop-i : goal.invariant-loop-i
invariant-loop-i l = (k : ℕ) → k < l.i → clash_at l.command (map string_bytes l.rest) k ≡ None
