use Rattle.std.proofs.Common.{sym, subst}
use Rattle.rv64i_step.specs.Event.{IsServable}
use Rattle.rv64i_step.proofs.Servable.{executed_servable}
use Rattle.rv64i_step.proofs.vcpu.Vcpu.fetched.Goals as goal

pub returns-in-Some-decode-clause-servable : goal.returns-in-Some-decode-clause-servable
returns-in-Some-decode-clause-servable c =
    subst (IsServable c.args.shape.now) (sym c.execute.ensures.event)
    (executed_servable c.args.shape.now c.args.self.now c.in-Some-decode.instr c.requires.ready.none_pending)
