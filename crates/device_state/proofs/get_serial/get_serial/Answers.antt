use Rattle.std.proofs.Common.{◌∙◌}
use Rattle.device_state.proofs.Told.{refused}
use Rattle.device_state.specs.Reading.{serial_in}
use Rattle.device_state.proofs.get_serial.get_serial.Goals as goal

pub returns-in_err-head-clause-answer : goal.returns-in_err-head-clause-answer
unfolding serial_in
returns-in_err-head-clause-answer g c = λ file is. refused _ _ _ _ c.from_residual.ensures.1 (λ r. rw (c.in_err-head.ensures.answer file is r))

pub returns-in_err-bytes-clause-answer : goal.returns-in_err-bytes-clause-answer
unfolding serial_in
returns-in_err-bytes-clause-answer g c = λ file is. refused _ _ _ _ c.from_residual-in_err-bytes.ensures.1 (λ r. rw (c.in_ok-head.ensures.answer file is, c.in_err-bytes.ensures.answer file (c.get_head.ensures.leaves.told ∙ is) r))

pub returns-in_err-input-clause-answer : goal.returns-in_err-input-clause-answer
unfolding serial_in
returns-in_err-input-clause-answer g c = λ file is. refused _ _ _ _ c.from_residual-in_err-input.ensures.1 (λ r. rw (c.in_ok-head.ensures.answer file is, c.in_ok-bytes.ensures.answer file (c.get_head.ensures.leaves.told ∙ is), c.in_err-input.ensures.answer file (c.get_bytes.ensures.leaves.told ∙ c.get_head.ensures.leaves.told ∙ is) r))

pub returns-in_err-expect_footer-clause-answer : goal.returns-in_err-expect_footer-clause-answer
unfolding serial_in
returns-in_err-expect_footer-clause-answer g c = λ file is. refused _ _ _ _ c.from_residual-in_err-expect_footer.ensures.1 (λ r. rw (c.in_ok-head.ensures.answer file is, c.in_ok-bytes.ensures.answer file (c.get_head.ensures.leaves.told ∙ is), c.in_ok-input.ensures.answer file (c.get_bytes.ensures.leaves.told ∙ c.get_head.ensures.leaves.told ∙ is), c.in_err-expect_footer.ensures.answer file (c.get_bytes-2.ensures.leaves.told ∙ c.get_bytes.ensures.leaves.told ∙ c.get_head.ensures.leaves.told ∙ is) r))

pub returns-clause-answer : goal.returns-clause-answer
unfolding serial_in
returns-clause-answer g c = λ file is. rw (c.in_ok-head.ensures.answer file is, c.in_ok-bytes.ensures.answer file (c.get_head.ensures.leaves.told ∙ is), c.in_ok-input.ensures.answer file (c.get_bytes.ensures.leaves.told ∙ c.get_head.ensures.leaves.told ∙ is), c.in_ok-expect_footer.ensures.answer file (c.get_bytes-2.ensures.leaves.told ∙ c.get_bytes.ensures.leaves.told ∙ c.get_head.ensures.leaves.told ∙ is), c.in_ok-serial.ensures, c.deref.ensures.value, c.deref-2.ensures.value)
