use Rattle.std.proofs.Common.{refl, rules, ◌∙◌}
use Rattle.std.proofs.lemmas.List.{length-set}
use Rattle.device_state.proofs.Numbers.{numbers_none, registers_more, registers_all}
use Rattle.device_state.proofs.get_vcpu.registers.Goals as goal

pub loop-i-init : goal.loop-i-init
loop-i-init c = record { so_far = numbers_none c.args.body.now; count = refl }

pub loop-i-preserved : goal.loop-i-preserved
loop-i-preserved c = record { so_far = registers_more c.loop-i.regs c.args.body.now c.loop-i.i _ (search rules) c.be64_at.ensures.number c.loop-i.invariant.so_far; count = length-set c.loop-i.regs c.loop-i.i c.be64_at.result ∙ c.loop-i.invariant.count }

pub returns : goal.returns
returns c = registers_all c.loop-i.regs c.args.body.now c.loop-i.i c.loop-i.invariant.count (search rules) c.loop-i.invariant.so_far
