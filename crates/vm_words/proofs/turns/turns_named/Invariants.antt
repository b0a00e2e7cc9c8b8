use Rattle.std.proofs.Common.{◌≡◌, ◌++◌, drop}
use Rattle.vm_words.specs.Turns.{turns_named}
use Rattle.vm_words.proofs.turns.turns_named.Given as goal

-- the turns so far, and then those of the characters that are left
abbrev pub invariant-loop-c : goal.invariant-loop-c
invariant-loop-c l = l.turns.items ++ turns_named (drop l.c-index l.c-items) ≡ turns_named l.text
