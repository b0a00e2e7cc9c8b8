-- Each register behind those before it.
use Rattle.std.proofs.Common.{◌≡◌, ap, sym, ◌∙◌, ◌-◌, ◌++◌, append-nil, arith}
use Rattle.std.specs.List.{flat_map, range_with_len}
use Rattle.rv64i_step.specs.Vcpu.{reg_of}
use Rattle.vm_report.specs.Report.{register_line, register_lines}
use Rattle.vm_report.proofs.Ranges.{text_more}
use Rattle.vm_report.proofs.vcpus.put_registers.Goals as goal

pub loop-i-preserved : goal.loop-i-preserved
loop-i-preserved c = record {
  text = text_more (λ i. register_line i (reg_of c.args.vcpu.now i)) c.loop-i.i c.args.text.now c.loop-i.text _ c.put_register.new.text
      (omega arith) c.loop-i.invariant.text (ap (register_line c.loop-i.i) c.reg.ensures.value) c.put_register.ensures.text;
  room = omega (arith, c.loop-i.invariant.room, c.put_register.ensures.length, c.loop-i.auto.i);
}

pub loop-i-init : goal.loop-i-init
loop-i-init c = record { text = sym (append-nil c.args.text.now); room = omega arith }

pub returns : goal.returns
unfolding register_lines
returns c =
    let end : c.loop-i.i - 1 ≡ 31 = omega arith in
    c.loop-i.invariant.text ∙ ap (λ n. c.args.text.now ++ flat_map (λ i. register_line i (reg_of c.args.vcpu.now i)) (range_with_len 1 n)) end
