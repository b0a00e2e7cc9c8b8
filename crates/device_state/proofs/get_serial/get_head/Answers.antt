use Rattle.std.proofs.Common.{rules}
use Rattle.device_state.proofs.Chains.{head_cut, head_refused, head_found}
use Rattle.device_state.proofs.Told.{refused, handed_on}
use Rattle.device_state.proofs.get_serial.get_head.Goals as goal

pub returns-in_err-get_piece-clause-answer : goal.returns-in_err-get_piece-clause-answer
returns-in_err-get_piece-clause-answer g c = λ file is. refused _ _ _ _ c.from_residual.ensures.1 (λ r. head_cut file _ _ _ _ (search rules) c.at-at.ensures _ (c.in_err-get_piece.ensures.answer file is r))

pub returns-clause-answer : goal.returns-clause-answer
returns-clause-answer g c = λ file is. handed_on _ _ _ _ _ c.head_at.ensures.answer (λ found ok. head_found file _ _ _ _ (search rules) c.at-at.ensures _ _ (c.in_ok-get_piece.ensures.answer file is) _ ok) (λ fault err. head_refused file _ _ _ _ (search rules) c.at-at.ensures _ _ (c.in_ok-get_piece.ensures.answer file is) _ err)
