use Rattle.device_state.proofs.Numbers.{state_fails}
use Rattle.device_state.proofs.Told.{refused}
use Rattle.device_state.proofs.get_vcpu.vcpu_at.Goals as goal

pub returns-in_err-state-clause-answer : goal.returns-in_err-state-clause-answer
returns-in_err-state-clause-answer c = refused _ _ _ _ c.from_residual.ensures.1 (λ r. state_fails c.args.at c.args.body.now _ _ c.be64_at-steps.ensures.number c.if-steps-gt-MOST_AT_REST.false (c.in_err-state.ensures.answer r))
