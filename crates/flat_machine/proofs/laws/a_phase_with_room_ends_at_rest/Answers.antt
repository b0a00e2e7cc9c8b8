use Rattle.flat_machine.proofs.Rests.{phase_rests}
use Rattle.flat_machine.proofs.laws.a_phase_with_room_ends_at_rest.Goals as goal

pub returns : goal.returns
returns c = phase_rests
