-- A round is a turn after another; each turn has at most one event.
use Rattle.std.proofs.Common.{ℕ, ◌+◌, ◌-◌, ◌^◌, refl, ◌∙◌, arith}
use Rattle.flat_machine.proofs.Turns.{no_turn, steps_of-le, turn_more}
use Rattle.flat_machine.proofs.machine.Machine.round.Goals as goal

pub loop-k-init : goal.loop-k-init
loop-k-init c = record {
  turns = no_turn _ _;
  shape = refl;
  clock = omega arith;
  steps = λ most h k d l. omega (arith, h k d l);
  count = omega arith;
  no_fewer = omega arith;
  room = refl;
}

pub turn-requires-clause-steps : goal.turn-requires-clause-steps
turn-requires-clause-steps c =
    let most : ℕ = 2 ^ 63 - 8 in
    let within = steps_of-le c.loop-k.self c.loop-k.k (most + c.loop-k.k) (c.loop-k.invariant.steps most (λ k d l. omega (arith, c.requires.steps k d l))) in
    omega (arith, within, c.loop-k-test.true, c.vcpus-k-end.ensures.value, c.vcpus-k-end.ensures.limits.vcpus)

pub loop-k-preserved : goal.loop-k-preserved
loop-k-preserved c =
    let so_far = c.loop-k.invariant in
    record {
      turns = turn_more c.args.ends.now _ _ _ c.loop-k.k so_far.turns (c.turn.ensures.turn c.args.ends.now refl);
      shape = c.turn.ensures.shape ∙ so_far.shape;
      clock = omega (arith, c.turn.ensures.clock, so_far.clock);
      steps = λ most h k d l. omega (arith, c.turn.ensures.steps (most + c.loop-k.k) (so_far.steps most h) k d l);
      count = omega (arith, c.turn.ensures.count, so_far.count);
      no_fewer = omega (arith, c.turn.ensures.no_fewer, so_far.no_fewer);
      room = c.turn.ensures.room ∙ so_far.room;
    }

pub returns-clause-steps : goal.returns-clause-steps
returns-clause-steps c = λ most h k d l.
    omega (arith, c.loop-k.invariant.steps most h k d l, c.loop-k.auto.k-end, c.vcpus-k-end.ensures.value, c.vcpus-k-end.ensures.limits.vcpus)
