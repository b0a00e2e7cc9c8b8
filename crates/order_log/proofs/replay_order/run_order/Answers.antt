use Rattle.std.proofs.Common.{Some, ◌+◌, ◌^◌, refl, ◌∙◌, sym, ap, arith}
use Rattle.flat_machine.specs.Next.{next}
use Rattle.flat_machine.proofs.Turns.{steps_of-le}
use Rattle.order_log.proofs.Runs.{halts_here, run_starts, run_more, run_stops}
use Rattle.order_log.proofs.replay_order.run_order.Goals as goal

pub loop-place-init : goal.loop-place-init
loop-place-init c = record {
  ran = run_starts _;
  shape = refl;
  clock = c.requires.rest.clock;
  steps = c.requires.rest.steps;
  limits = c.clock-limits.ensures.limits;
}

pub step-requires-clause-steps : goal.step-requires-clause-steps
step-requires-clause-steps c =
    let within = steps_of-le c.loop-place.machine c.from.result (2 ^ 62 + c.loop-place.place) c.loop-place.invariant.steps in
    omega (arith, within, c.loop-place-test.true, c.requires.order.most, c.count-place-end.ensures)

pub returns-in-Halted-clause-none : goal.returns-in-Halted-clause-none
returns-in-Halted-clause-none c =
    let o = c.args.order.now.members in
    let none = ap (next c.loop-place.machine) (sym (c.from.ensures ∙ c.member.ensures.value)) ∙ c.in-Halted.ensures.event.0 in
    run_stops c.args.machine.now c.loop-place.machine o c.loop-place.place (omega (arith, c.loop-place-test.true, c.count-place-end.ensures)) c.loop-place.invariant.ran none

pub returns-in-Halted-clause-place : goal.returns-in-Halted-clause-place
returns-in-Halted-clause-place c =
    let o = c.args.order.now.members in
    let none = ap (next c.loop-place.machine) (sym (c.from.ensures ∙ c.member.ensures.value)) ∙ c.in-Halted.ensures.event.0 in
    halts_here 0 (Some c.args.machine.now) o c.loop-place.place c.loop-place.place c.loop-place.machine (omega arith) (omega (arith, c.loop-place-test.true, c.count-place-end.ensures)) c.loop-place.invariant.ran none

pub loop-place-preserved : goal.loop-place-preserved
loop-place-preserved c =
    let so_far = c.loop-place.invariant in
    let o = c.args.order.now.members in
    let more = run_more c.args.machine.now c.loop-place.machine o c.loop-place.place (omega (arith, c.loop-place-test.true, c.count-place-end.ensures)) so_far.ran in
    record {
      ran = more ∙ ap (next c.loop-place.machine) (sym (c.from.ensures ∙ c.member.ensures.value)) ∙ c.in_default.ensures.event;
      shape = c.step.ensures.shape ∙ so_far.shape;
      clock = omega (arith, c.step.ensures.clock, so_far.clock);
      steps = λ k d h. omega (arith, c.step.ensures.steps (2 ^ 62 + c.loop-place.place) so_far.steps k d h);
      limits = c.step.ensures.limits;
    }
