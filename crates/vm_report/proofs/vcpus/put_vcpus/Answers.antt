-- Each vCPU behind those before it.
use Rattle.std.proofs.Common.{◌∙◌, ap, arith}
use Rattle.ram_block.specs.Shape.{ShapeData}
use Rattle.vm_report.specs.Report.{vcpu_lines}
use Rattle.vm_report.proofs.Ranges.{if_failed, taken_more, taken_within}
use Rattle.vm_report.proofs.vcpus.put_vcpus.Goals as goal

pub loop-k-preserved : goal.loop-k-preserved
loop-k-preserved g c =
    let written = c.bytes.ensures ∙ c.vcpu_lines.ensures in
    record {
      taken = taken_more (vcpu_lines c.args.machine.now) c.loop-k.k c.bytes.result.now _ _ _ c.loop-k.invariant.taken written c.in_ok-write.ensures.all;
      never_falls = omega (arith, c.loop-k.invariant.never_falls, c.in_ok-write.ensures.cause.never_falls);
    }

pub returns-in_err-write-clause-some : goal.returns-in_err-write-clause-some
returns-in_err-write-clause-some g c =
    let written = c.bytes.ensures ∙ c.vcpu_lines.ensures in
    if_failed c.from_residual.result
    (taken_within (vcpu_lines c.args.machine.now) c.loop-k.k c.args.machine.now.shape.vcpus c.bytes.result.now _ _ _
    (omega (arith, c.vcpus-vcpus.ensures.value, ap (λ (s : ShapeData). s.vcpus) c.shape.ensures.value)) c.loop-k.invariant.taken written c.in_err-write.ensures.some)
