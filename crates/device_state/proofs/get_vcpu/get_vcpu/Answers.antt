use Rattle.std.proofs.Common.{◌∙◌}
use Rattle.device_state.proofs.Chains.{header_fails, body_cut, body_refused, footer_fails, rest_found}
use Rattle.device_state.proofs.Told.{refused}
use Rattle.device_state.proofs.get_vcpu.get_vcpu.Goals as goal

pub returns-in_err-expect_section-clause-answer : goal.returns-in_err-expect_section-clause-answer
returns-in_err-expect_section-clause-answer g c = λ file is. refused _ _ _ _ c.from_residual.ensures.1 (λ r. header_fails file _ _ _ _ _ _ c.cpu_header.ensures _ (c.in_err-expect_section.ensures.answer file is r))

pub returns-in_err-get_piece-clause-answer : goal.returns-in_err-get_piece-clause-answer
returns-in_err-get_piece-clause-answer g c = λ file is. refused _ _ _ _ c.from_residual-in_err-get_piece.ensures.1 (λ r. body_cut file _ _ _ _ _ _ c.cpu_header.ensures _ (c.in_ok-expect_section.ensures.answer file is) _ (c.in_err-get_piece.ensures.answer file (c.expect_section.ensures.leaves.told ∙ is) r))

pub returns-in_err-vcpu-clause-answer : goal.returns-in_err-vcpu-clause-answer
returns-in_err-vcpu-clause-answer g c = λ file is. refused _ _ _ _ c.from_residual-in_err-vcpu.ensures.1 (λ r. body_refused file _ _ _ _ _ _ c.cpu_header.ensures _ (c.in_ok-expect_section.ensures.answer file is) _ _ _ (c.in_ok-get_piece.ensures.answer file (c.expect_section.ensures.leaves.told ∙ is)) c.at-at.ensures _ (c.in_err-vcpu.ensures.answer r))

pub returns-in_err-expect_footer-clause-answer : goal.returns-in_err-expect_footer-clause-answer
returns-in_err-expect_footer-clause-answer g c = λ file is. refused _ _ _ _ c.from_residual-in_err-expect_footer.ensures.1 (λ r. footer_fails file _ _ _ _ _ _ c.cpu_header.ensures _ (c.in_ok-expect_section.ensures.answer file is) _ _ _ (c.in_ok-get_piece.ensures.answer file (c.expect_section.ensures.leaves.told ∙ is)) c.at-at.ensures _ c.in_ok-vcpu.ensures.answer _ (c.in_err-expect_footer.ensures.answer file (c.get_piece.ensures.leaves.told ∙ c.expect_section.ensures.leaves.told ∙ is) r))

pub returns-clause-answer : goal.returns-clause-answer
returns-clause-answer g c = λ file is. rest_found file _ _ _ _ _ _ c.cpu_header.ensures _ (c.in_ok-expect_section.ensures.answer file is) _ _ _ (c.in_ok-get_piece.ensures.answer file (c.expect_section.ensures.leaves.told ∙ is)) c.at-at.ensures _ c.in_ok-vcpu.ensures.answer _ (c.in_ok-expect_footer.ensures.answer file (c.get_piece.ensures.leaves.told ∙ c.expect_section.ensures.leaves.told ∙ is))
