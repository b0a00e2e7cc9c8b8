use Rattle.std.proofs.Common.{◌≡◌, ◌*◌, subst, arith}
use Rattle.sliced_run.proofs.Taken.{RoundsTaken, rounds_all, rounds_last, rounds_next, rounds_none}
use Rattle.sliced_run.proofs.sliced.Sliced.end_rounds.Goals as goal

pub loop-init : goal.loop-init
loop-init c = rounds_none c.args.self.now.bus.instant c.args.run c.args.self.now c.requires.phase c.requires.phase.bus.rest

pub loop-preserved : goal.loop-preserved
loop-preserved c =
    rounds_next c.args.self.now.bus.instant c.args.run c.loop.counter c.round.result c.args.self.now c.loop.self c.round.new.self c.loop.invariant c.round.ensures

pub returns-then-round-eq0-clause-rounds : goal.returns-then-round-eq0-clause-rounds
returns-then-round-eq0-clause-rounds c =
    (rounds_last c.args.self.now.bus.instant c.args.run c.loop.counter c.round.result c.args.self.now c.loop.self c.round.new.self c.loop-test.true c.loop.invariant c.round.ensures
    c.if-round-eq0.true).0

pub returns-then-round-eq0-clause-over : goal.returns-then-round-eq0-clause-over
returns-then-round-eq0-clause-over c =
    (rounds_last c.args.self.now.bus.instant c.args.run c.loop.counter c.round.result c.args.self.now c.loop.self c.round.new.self c.loop-test.true c.loop.invariant c.round.ensures
    c.if-round-eq0.true).1

pub returns-clause-over : goal.returns-clause-over
returns-clause-over c =
    let done : c.loop.counter ≡ 2 * c.args.run = omega (arith, c.loop-test.false, c.loop.auto.counter-end) in
    (rounds_all c.args.self.now.bus.instant c.args.run c.args.self.now c.loop.self
    (subst (λ r. RoundsTaken c.args.self.now.bus.instant c.args.run r c.args.self.now c.loop.self) done c.loop.invariant)).1
