-- The phase ended in time, or too late.
use Rattle.std.proofs.Common.{inr}
use Rattle.vm_cli.proofs.LayerEnds.{ends_in_time, ends_late}
use Rattle.vm_cli.proofs.layer.run_copy.Goals as goal

pub returns-then-not-at_rest-clause-ended : goal.returns-then-not-at_rest-clause-ended
returns-then-not-at_rest-clause-ended c =
    inr (ends_late c.args.n c.args.base.now c.in_ok-machine.machine c.rounds.new.self c.in_ok-order.field-0.members c.at_rest.result c.clock-clock.result c.requires.rest c.in_ok-machine.ensures.same
    c.in_ok-order.ensures.order c.in_ok-order.ensures.run c.at_rest.ensures.rest c.if-not-at_rest.true c.clock-clock.ensures.value)

pub returns-clause-ran : goal.returns-clause-ran
returns-clause-ran c =
    let serves = c.an_event_keeps_what_its_laws_need.ensures.machine c.in_ok-machine.machine c.in_ok-machine.ensures.limits in
    ends_in_time c.args.n c.args.base.now c.in_ok-machine.machine c.rounds.new.self c.in_ok-order.field-0.members c.at_rest.result c.requires.rest c.in_ok-machine.ensures.same
    c.in_ok-order.ensures.order c.in_ok-order.ensures.run c.at_rest.ensures.rest c.if-not-at_rest.false (c.an_event_leaves_the_rest.ensures.run _ _ _ serves c.in_ok-order.ensures.run).shape c.at_rest.ensures.limits
