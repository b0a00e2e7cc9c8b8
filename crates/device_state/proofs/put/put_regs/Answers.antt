use Rattle.std.proofs.Common.{◌++◌, List, ℕ, ap, ◌∙◌, arith}
use Rattle.std.specs.List.{flat_map}
use Rattle.std.proofs.lemmas.List.{take_all}
use Rattle.mig_stream.specs.Text.{be64}
use Rattle.device_state.proofs.put.put_regs.Goals as goal

pub returns : goal.returns
returns c =
    c.loop-i.invariant
    ∙ ap (λ (regs : List ℕ). c.args.out.now.items ++ flat_map be64 regs) (take_all c.loop-i.i c.args.vcpu.now.regs (omega (arith, c.pc-pc.ensures.limits.count)))
