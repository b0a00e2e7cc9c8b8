-- Rounds one after another; after one with no event all are done.
use Rattle.std.proofs.Common.{ℕ, ◌+◌, ◌*◌, ◌^◌, List, length, refl, ap, ◌∙◌, arith}
use Rattle.flat_machine.specs.Run.{Progress}
use Rattle.flat_machine.proofs.Turns.{no_round, round_more, rounds_done}
use Rattle.flat_machine.proofs.machine.Machine.make_rounds.Goals as goal

pub loop-done-init : goal.loop-done-init
loop-done-init c =
    let start : List ℕ → Progress = λ o. record { machine = c.args.self.now; order = o } in
    record {
      rounds = ap start c.requires.empty ∙ no_round _ _;
      shape = refl;
      clock = c.requires.clock;
      steps = c.requires.steps;
      count = omega (arith, ap length c.requires.empty);
      room = refl;
    }

pub returns-then-count-before : goal.returns-then-count-before
returns-then-count-before c =
    rounds_done c.args.ends.now _ _ _ c.loop-done.done c.args.most c.loop-done-test.true c.loop-done.invariant.rounds c.round.ensures.round
    (omega (arith, c.count.ensures, c.count-before.ensures, c.if-count-before.true))

pub loop-done-preserved : goal.loop-done-preserved
loop-done-preserved c =
    let so_far = c.loop-done.invariant in
    record {
      rounds = round_more c.args.ends.now _ _ _ c.loop-done.done so_far.rounds c.round.ensures.round;
      shape = c.round.ensures.shape ∙ so_far.shape;
      clock = omega (arith, c.round.ensures.clock, so_far.clock);
      steps = λ k d l. omega (arith, c.round.ensures.steps (2 ^ 62 + 8 * c.loop-done.done) so_far.steps k d l);
      count = omega (arith, c.round.ensures.count, so_far.count);
      room = c.round.ensures.room ∙ so_far.room;
    }
