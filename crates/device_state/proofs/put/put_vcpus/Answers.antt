use Rattle.std.proofs.Common.{◌++◌, List, ℕ, take, ap, ◌∙◌, append_assoc}
use Rattle.device_state.specs.DeviceText.{cpu_section, cpu_sections}
use Rattle.device_state.proofs.Sections.{sections_more}
use Rattle.device_state.proofs.put.put_vcpus.Goals as goal

pub loop-k-preserved : goal.loop-k-preserved
loop-k-preserved c =
    let before = c.args.out.now.items in
    let vcpus = c.args.machine.now.vcpus in
    c.in_ok-put_vcpu.ensures
    ∙ ap (λ (l : List ℕ). l ++ cpu_section c.loop-k.k c.vcpu.result.now) c.loop-k.invariant
    ∙ append_assoc before (cpu_sections 0 (take c.loop-k.k vcpus)) (cpu_section c.loop-k.k c.vcpu.result.now)
    ∙ ap (λ (l : List ℕ). before ++ l) (sections_more vcpus c.loop-k.k c.vcpu.result.now c.vcpu.ensures.value)
