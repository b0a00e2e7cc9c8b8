use Rattle.std.proofs.Common.{Ok, ◌∙◌, ap, rules}
use Rattle.medium.proofs.Leaves.{leaves_on}
use Rattle.device_state.specs.declared.kind.DeviceKind.{DeviceKind}
use Rattle.device_state.proofs.Found.{bytes_on}
use Rattle.device_state.proofs.Told.{refused}
use Rattle.device_state.proofs.Vcpus.{turn_fails, turn_ends, vcpu_fails, turn_goes_on}
use Rattle.device_state.proofs.get_vcpu.get_vcpus.Goals as goal

pub returns-in_err-get_start-clause-answer : goal.returns-in_err-get_start-clause-answer
returns-in_err-get_start-clause-answer g c =
    let so_far = c.sections.invariant in
    λ file is. refused _ _ _ _ c.from_residual-in_err-get_start.ensures.1 (λ r. turn_fails file _ _ _ c.sections.vcpus.items (search rules) (so_far.answer file is) _ (c.in_err-get_start.ensures.answer file (so_far.leaves.told ∙ is) r))

pub returns-in-Serial-clause-answer : goal.returns-in-Serial-clause-answer
returns-in-Serial-clause-answer g c =
    let so_far = c.sections.invariant in
    λ file is. turn_ends file _ _ _ c.sections.vcpus.items (search rules) (so_far.answer file is) _ (c.in_ok-get_start.ensures.answer file (so_far.leaves.told ∙ is) ∙ ap (λ (kind : DeviceKind). Ok (kind, c.get_start.new.reader.at)) c.in-Serial.is)

pub returns-in_err-get_vcpu-in-Cpu-clause-answer : goal.returns-in_err-get_vcpu-in-Cpu-clause-answer
returns-in_err-get_vcpu-in-Cpu-clause-answer g c =
    let so_far = c.sections.invariant in
    λ file is. refused _ _ _ _ c.from_residual-in_err-get_vcpu-in-Cpu.ensures.1 (λ r. vcpu_fails file _ _ _ c.sections.vcpus.items (search rules) (so_far.answer file is)
    (c.in_ok-get_start.ensures.more (ap (λ (kind : DeviceKind). Ok kind) c.in-Cpu.is)) _ (c.in_ok-get_start.ensures.answer file (so_far.leaves.told ∙ is) ∙ ap (λ (kind : DeviceKind). Ok (kind, c.get_start.new.reader.at)) c.in-Cpu.is)
    _ (c.in_err-get_vcpu-in-Cpu.ensures.answer file (c.get_start.ensures.leaves.told ∙ so_far.leaves.told ∙ is) r))

pub sections-preserved : goal.sections-preserved
sections-preserved g c =
    let so_far = c.sections.invariant in
    let start = c.in_ok-get_start.ensures in
    let vcpu = c.in_ok-get_vcpu-in-Cpu.ensures in
    record {
      count = search rules;
      each = search rules;
      from = search rules;
      near = search rules;
      same_medium = search rules;
      leaves = leaves_on so_far.leaves (leaves_on c.get_start.ensures.leaves c.get_vcpu.ensures.leaves);
      answer = λ file is. turn_goes_on file _ _ _ c.sections.vcpus.items (search rules) (so_far.answer file is)
          (start.more (ap (λ (kind : DeviceKind). Ok kind) c.in-Cpu.is)) _ (start.answer file (so_far.leaves.told ∙ is) ∙ ap (λ (kind : DeviceKind). Ok (kind, c.get_start.new.reader.at)) c.in-Cpu.is)
          _ _ _ (vcpu.answer file (c.get_start.ensures.leaves.told ∙ so_far.leaves.told ∙ is)) (search rules);
      bytes = λ file is. bytes_on file _ _ _ (so_far.bytes file is) (bytes_on file _ _ _ (start.bytes file (so_far.leaves.told ∙ is)) (vcpu.bytes file (c.get_start.ensures.leaves.told ∙ so_far.leaves.told ∙ is)));
    }
