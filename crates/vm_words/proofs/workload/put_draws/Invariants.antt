use Rattle.std.proofs.Common.{◌≡◌, ◌++◌}
use Rattle.vm_words.specs.Generator.{draw}
use Rattle.vm_words.specs.Workload.{draw_bytes}
use Rattle.vm_words.proofs.workload.put_draws.Given as goal

-- as many draws as words
abbrev pub invariant-loop : goal.invariant-loop
invariant-loop l = record {
  drawn : l.draw ≡ draw l.seed l.counter;
  bytes : l.image.items ≡ l.fn.image.items ++ draw_bytes l.seed l.counter;
}
