use Rattle.std.proofs.Common.{◌≡◌, ◌≤◌, ◌+◌, ◌*◌}
use Rattle.file_plan.specs.Plan.{record_place}
use Rattle.file_plan.proofs.plan.record_after.Given as goal

-- a block takes less than ten million bytes of the file
abbrev pub invariant-loop : goal.invariant-loop
invariant-loop l = record {
  place : l.at ≡ record_place l.pages l.counter;
  small : l.at ≤ 47 + l.counter * 10_000_000;
}
