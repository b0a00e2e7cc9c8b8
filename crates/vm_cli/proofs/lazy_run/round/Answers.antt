-- A round is a turn after another; each turn has at most one event.
use Rattle.std.proofs.Common.{ℕ, ◌+◌, ◌-◌, ◌^◌, refl, ap, ◌∙◌, arith}
use Rattle.ram_block.specs.Shape.{ShapeData}
use Rattle.medium.specs.Members.{file_state}
use Rattle.medium.proofs.Leaves.{leaves_on, leaves_same}
use Rattle.vm_cli.proofs.LazyRuns.{no_turns, turns_on, unread_since, whole_round}
use Rattle.vm_cli.proofs.lazy_run.round.Goals as goal

pub loop-k-init : goal.loop-k-init
loop-k-init g c = record {
  turns = no_turns (g.M.Readable.told c.args.lazy.now.medium.now) c.args.ends.now c.args.lazy.now.held c.args.order.now.members;
  shape = refl;
  clock = omega arith;
  steps = λ most h j. omega (arith, h j);
  count = omega arith;
  room = refl;
  uncut = c.requires.uncut;
  same_medium = refl;
  leaves = leaves_same _;
}

pub turn-requires-clause-steps : goal.turn-requires-clause-steps
turn-requires-clause-steps g c =
    let most : ℕ = 2 ^ 63 - 8 in
    let within = c.loop-k.invariant.steps most (λ j. omega (arith, c.requires.steps j)) c.loop-k.k in
    omega (arith, within, c.loop-k-test.true, c.vcpus-k-end.ensures.value, c.vcpus-k-end.ensures.limits.vcpus)

pub returns-in-Err-clause-unread : goal.returns-in-Err-clause-unread
returns-in-Err-clause-unread g c =
    unread_since (file_state g.M.Readable c.args.lazy.now.medium.now) (file_state g.M.Readable c.loop-k.lazy.medium.now) (file_state g.M.Readable c.turn.new.lazy.medium.now) c.in-Err.fault c.loop-k.invariant.leaves c.in-Err.ensures.unread

pub loop-k-preserved : goal.loop-k-preserved
loop-k-preserved g c =
    let so_far = c.loop-k.invariant in
    record {
      turns = turns_on _ (g.M.Readable.told c.loop-k.lazy.medium.now) c.args.ends.now c.loop-k.k c.args.lazy.now.held c.loop-k.lazy.held c.turn.new.lazy.held c.args.order.now.members c.loop-k.order.members c.turn.new.order.members
          so_far.leaves.told so_far.turns (c.in_default.ensures.turn c.args.ends.now refl);
      shape = c.in_default.ensures.shape ∙ so_far.shape;
      clock = omega (arith, c.in_default.ensures.clock, so_far.clock);
      steps = λ most h j. omega (arith, c.in_default.ensures.steps (most + c.loop-k.k) (so_far.steps most h) j);
      count = omega (arith, c.in_default.ensures.count, so_far.count);
      room = c.in_default.ensures.room ∙ so_far.room;
      uncut = c.in_default.ensures.uncut;
      same_medium = c.in_default.ensures.same_medium ∙ so_far.same_medium;
      leaves = leaves_on so_far.leaves c.in_default.ensures.leaves;
    }

pub returns-clause-round : goal.returns-clause-round
returns-clause-round g c = whole_round (g.M.Readable.told c.args.lazy.now.medium.now) c.args.ends.now c.loop-k.k c.args.lazy.now.held c.loop-k.lazy.held c.args.order.now.members c.loop-k.order.members (omega (arith, c.loop-k-test.false, c.requires.vcpus, c.vcpus-k-end.ensures.value, ap (λ (s : ShapeData). s.vcpus) c.shape.ensures.value)) c.loop-k.invariant.turns

pub returns-in-Err-clause-steps : goal.returns-in-Err-clause-steps
returns-in-Err-clause-steps g c = λ most h j.
    omega (arith, c.in-Err.ensures.steps (most + c.loop-k.k) (c.loop-k.invariant.steps most h) j, c.loop-k-test.true, c.vcpus-k-end.ensures.value, c.vcpus-k-end.ensures.limits.vcpus)

pub returns-clause-steps : goal.returns-clause-steps
returns-clause-steps g c = λ most h j. omega (arith, c.loop-k.invariant.steps most h j, c.loop-k.auto.k-end, c.vcpus-k-end.ensures.value, c.vcpus-k-end.ensures.limits.vcpus)
