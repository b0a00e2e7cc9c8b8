use Rattle.std.proofs.Common.{◌≡◌}
use Rattle.vm_words.specs.Generator.{draw, turns_drawn}
use Rattle.vm_words.proofs.generator.turns_of.Given as goal

-- as many draws as turns
abbrev pub invariant-loop : goal.invariant-loop
invariant-loop l = record {
  drawn : l.draw ≡ draw l.seed l.counter;
  turns : l.turns.items ≡ turns_drawn l.seed l.vcpus l.counter;
}
