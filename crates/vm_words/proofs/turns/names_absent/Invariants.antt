use Rattle.std.proofs.Common.{◌≡◌, drop}
use Rattle.vm_words.specs.Turns.{names_absent}
use Rattle.vm_words.proofs.turns.names_absent.Given as goal

-- the characters that are left decide
abbrev pub invariant-loop-c : goal.invariant-loop-c
invariant-loop-c l = names_absent l.vcpus (drop l.c-index l.c-items) ≡ names_absent l.vcpus l.text
