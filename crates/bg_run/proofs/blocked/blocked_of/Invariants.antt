-- What is counted and what is left to count add up.
use Rattle.std.proofs.Common.{◌≡◌, ◌+◌, ◌-◌, ◌^◌, ◌<◌, drop, min}
use Rattle.std.specs.List.{sum_by}
use Rattle.page_bus.specs.Passes.{task_of}
use Rattle.bg_run.proofs.blocked.blocked_of.Given as goal

abbrev pub invariant-loop-pass : goal.invariant-loop-pass
invariant-loop-pass l = record {
  sum : min (l.blocked + sum_by (λ p. (task_of p.view).blocked) (drop l.pass-index l.passes.items)) (2 ^ 64 - 1)
      ≡ min (sum_by (λ p. (task_of p.view).blocked) l.passes.items) (2 ^ 64 - 1);
  fits : l.blocked < 2 ^ 64;
}
