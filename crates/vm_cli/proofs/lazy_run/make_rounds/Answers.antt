-- Rounds one after another.
use Rattle.std.proofs.Common.{◌+◌, ◌*◌, ◌^◌, refl, ap, length, ◌∙◌, arith}
use Rattle.medium.specs.Members.{file_state}
use Rattle.medium.proofs.Leaves.{leaves_on, leaves_same}
use Rattle.vm_cli.proofs.LazyRuns.{no_rounds, rounds_go_on, unread_since}
use Rattle.vm_cli.proofs.lazy_run.make_rounds.Goals as goal

pub loop-done-init : goal.loop-done-init
loop-done-init g c = record {
  rounds = no_rounds (g.M.Readable.told c.args.lazy.now.medium.now) c.args.ends.now c.args.lazy.now.held c.args.order.now.members c.requires.empty;
  shape = refl;
  clock = c.requires.clock;
  steps = c.requires.steps;
  count = omega (arith, ap length c.requires.empty);
  room = refl;
  uncut = c.requires.uncut;
  same_medium = refl;
  leaves = leaves_same _;
}

pub returns-in-Err-clause-unread : goal.returns-in-Err-clause-unread
returns-in-Err-clause-unread g c =
    unread_since (file_state g.M.Readable c.args.lazy.now.medium.now) (file_state g.M.Readable c.loop-done.lazy.medium.now) (file_state g.M.Readable c.round.new.lazy.medium.now) c.in-Err.fault c.loop-done.invariant.leaves c.in-Err.ensures.unread

pub loop-done-preserved : goal.loop-done-preserved
loop-done-preserved g c =
    let so_far = c.loop-done.invariant in
    record {
      rounds = rounds_go_on _ (g.M.Readable.told c.loop-done.lazy.medium.now) c.args.ends.now c.loop-done.done c.args.lazy.now.held c.loop-done.lazy.held c.round.new.lazy.held _ c.loop-done.order.members c.round.new.order.members
          so_far.leaves.told so_far.rounds c.in_default.ensures.round;
      shape = c.in_default.ensures.shape ∙ so_far.shape;
      clock = omega (arith, c.in_default.ensures.clock, so_far.clock);
      steps = λ j. omega (arith, c.in_default.ensures.steps (2 ^ 62 + 8 * c.loop-done.done) so_far.steps j);
      count = omega (arith, c.in_default.ensures.count, so_far.count);
      room = c.in_default.ensures.room ∙ so_far.room;
      uncut = c.in_default.ensures.uncut;
      same_medium = c.in_default.ensures.same_medium ∙ so_far.same_medium;
      leaves = leaves_on so_far.leaves c.in_default.ensures.leaves;
    }
