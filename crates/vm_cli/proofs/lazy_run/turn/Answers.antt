-- A vCPU whose phase has ended makes no event, and another one makes one.
use Rattle.std.proofs.Common.{true, false, ap, sym, ◌∙◌}
use Rattle.flat_machine.specs.Order.{OrderData}
use Rattle.vm_cli.proofs.LazyRuns.{ended_is, moves, stays}
use Rattle.vm_cli.proofs.lazy_run.turn.Goals as goal

pub returns-then-phase_has_ended-clause-turn : goal.returns-then-phase_has_ended-clause-turn
returns-then-phase_has_ended-clause-turn g c = λ ends is.
    stays (g.M.Readable.told c.args.lazy.now.medium.now) c.args.lazy.now.held c.args.order.now.members ends c.args.k c.args.until is
    (ended_is c.args.lazy.now.held.machine c.args.k c.args.until c.vcpu.result.now true c.vcpu.ensures.value (sym c.if-phase_has_ended.true ∙ c.phase_has_ended.ensures))

pub returns-in-Event-clause-turn : goal.returns-in-Event-clause-turn
returns-in-Event-clause-turn g c = λ ends is.
    moves (g.M.Readable.told c.args.lazy.now.medium.now) c.args.lazy.now.held c.step.new.self.held c.args.order.now.members ends c.push.new.self.members c.args.k c.args.until (ap (λ (o : OrderData). o.members) c.push.ensures) is
    (ended_is c.args.lazy.now.held.machine c.args.k c.args.until c.vcpu.result.now false c.vcpu.ensures.value (sym c.if-phase_has_ended.false ∙ c.phase_has_ended.ensures))
    c.requires.uncut c.in-Event.ensures.step
