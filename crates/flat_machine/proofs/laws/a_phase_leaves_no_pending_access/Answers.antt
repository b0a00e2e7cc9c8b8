use Rattle.flat_machine.proofs.PhaseEnds.{phase_own, phase_pending, phase_steps}
use Rattle.flat_machine.proofs.laws.a_phase_leaves_no_pending_access.Goals as goal

pub returns-clause-pending : goal.returns-clause-pending
returns-clause-pending c = phase_pending

pub returns-clause-steps : goal.returns-clause-steps
returns-clause-steps c = phase_steps

pub returns-clause-own_events : goal.returns-clause-own_events
returns-clause-own_events c = phase_own
