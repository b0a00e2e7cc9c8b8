use Rattle.device_state.proofs.Chains.{tagged_cut, tagged_differs, tagged_refused, tagged_found}
use Rattle.device_state.proofs.Told.{refused, handed_on}
use Rattle.device_state.proofs.get_vcpu.get_start.Goals as goal

pub returns-in_err-get_piece-clause-answer : goal.returns-in_err-get_piece-clause-answer
returns-in_err-get_piece-clause-answer g c = λ file is. refused _ _ _ _ c.from_residual.ensures.1 (λ r. tagged_cut file _ _ _ _ (c.in_err-get_piece.ensures.answer file is r))

pub returns-in_err-compare-clause-answer : goal.returns-in_err-compare-clause-answer
returns-in_err-compare-clause-answer g c = λ file is. refused _ _ _ _ c.from_residual-in_err-compare.ensures.1 (λ r. tagged_differs file _ _ _ c.get_piece.new.buf _ _ _ c.at-at.ensures c.part.ensures.text (c.in_ok-get_piece.ensures.answer file is) _ (c.in_err-compare.ensures.answer c.get_piece.new.reader.at r))

pub returns-clause-answer : goal.returns-clause-answer
returns-clause-answer g c = λ file is. handed_on _ _ _ _ _ c.kind_at.ensures.answer (λ found ok. tagged_found file _ _ _ c.get_piece.new.buf _ _ _ c.at-at.ensures c.part.ensures.text (c.in_ok-get_piece.ensures.answer file is) _ (c.in_ok-compare.ensures.answer c.get_piece.new.reader.at) ok) (λ fault err. tagged_refused file _ _ _ c.get_piece.new.buf _ _ _ c.at-at.ensures c.part.ensures.text (c.in_ok-get_piece.ensures.answer file is) _ (c.in_ok-compare.ensures.answer c.get_piece.new.reader.at) err)
