use Rattle.std.proofs.Common.{◌∙◌, rules}
use Rattle.device_state.specs.Reader.{version_of_form}
use Rattle.device_state.proofs.Chains.{vcpus_fail, version_fails, serial_fails, timer_fails, end_fails, devices_found}
use Rattle.device_state.proofs.Told.{refused_devices}
use Rattle.device_state.proofs.get.get_all.Goals as goal

pub returns-in_err-vcpus-clause-answer : goal.returns-in_err-vcpus-clause-answer
returns-in_err-vcpus-clause-answer g c = λ file is. refused_devices _ _ _ _ c.from_residual.ensures.1 (λ r. vcpus_fail file _ _ (c.in_err-vcpus.ensures.answer file is r))

pub returns-in_err-form-clause-answer : goal.returns-in_err-form-clause-answer
returns-in_err-form-clause-answer g c = λ file is. refused_devices _ _ _ _ c.from_residual-in_err-form.ensures.1 (λ r. version_fails file _ _ _ (c.in_ok-vcpus.ensures.answer file is) _ (c.in_err-form.ensures.answer file (c.get_vcpus.ensures.leaves.told ∙ is) r))

pub returns-in_err-serial-clause-answer : goal.returns-in_err-serial-clause-answer
returns-in_err-serial-clause-answer g c = λ file is. refused_devices _ _ _ _ c.from_residual-in_err-serial.ensures.1 (λ r. serial_fails file _ _ _ (c.in_ok-vcpus.ensures.answer file is) _ _ _ (search rules) (c.in_ok-form.ensures.answer file (c.get_vcpus.ensures.leaves.told ∙ is)) _ (c.in_err-serial.ensures.answer file (c.get_form.ensures.leaves.told ∙ c.get_vcpus.ensures.leaves.told ∙ is) r))

pub returns-in_err-clock-clause-answer : goal.returns-in_err-clock-clause-answer
returns-in_err-clock-clause-answer g c = λ file is. refused_devices _ _ _ _ c.from_residual-in_err-clock.ensures.1 (λ r. timer_fails file _ _ _ (c.in_ok-vcpus.ensures.answer file is) _ _ _ (search rules) (c.in_ok-form.ensures.answer file (c.get_vcpus.ensures.leaves.told ∙ is)) _ _ (c.in_ok-serial.ensures.answer file (c.get_form.ensures.leaves.told ∙ c.get_vcpus.ensures.leaves.told ∙ is)) _ (c.in_err-clock.ensures.answer file (c.get_serial.ensures.leaves.told ∙ c.get_form.ensures.leaves.told ∙ c.get_vcpus.ensures.leaves.told ∙ is) r))

pub returns-in_err-expect_section-clause-answer : goal.returns-in_err-expect_section-clause-answer
returns-in_err-expect_section-clause-answer g c = λ file is. refused_devices _ _ _ _ c.from_residual-in_err-expect_section.ensures.1 (λ r. end_fails file _ _ _ (c.in_ok-vcpus.ensures.answer file is) _ _ _ (search rules) (c.in_ok-form.ensures.answer file (c.get_vcpus.ensures.leaves.told ∙ is)) _ _ (c.in_ok-serial.ensures.answer file (c.get_form.ensures.leaves.told ∙ c.get_vcpus.ensures.leaves.told ∙ is)) _ _ (c.in_ok-clock.ensures.answer file (c.get_serial.ensures.leaves.told ∙ c.get_form.ensures.leaves.told ∙ c.get_vcpus.ensures.leaves.told ∙ is)) _ (c.in_err-expect_section.ensures.answer file (c.get_timer.ensures.leaves.told ∙ c.get_serial.ensures.leaves.told ∙ c.get_form.ensures.leaves.told ∙ c.get_vcpus.ensures.leaves.told ∙ is) r))

pub returns-clause-answer : goal.returns-clause-answer
returns-clause-answer g c = λ file is. (version_of_form c.in_ok-form.form, devices_found file _ _ _ (c.in_ok-vcpus.ensures.answer file is) _ _ _ (search rules) (c.in_ok-form.ensures.answer file (c.get_vcpus.ensures.leaves.told ∙ is)) _ _ (c.in_ok-serial.ensures.answer file (c.get_form.ensures.leaves.told ∙ c.get_vcpus.ensures.leaves.told ∙ is)) _ _ (c.in_ok-clock.ensures.answer file (c.get_serial.ensures.leaves.told ∙ c.get_form.ensures.leaves.told ∙ c.get_vcpus.ensures.leaves.told ∙ is)) _ (c.in_ok-expect_section.ensures.answer file (c.get_timer.ensures.leaves.told ∙ c.get_serial.ensures.leaves.told ∙ c.get_form.ensures.leaves.told ∙ c.get_vcpus.ensures.leaves.told ∙ is)))
