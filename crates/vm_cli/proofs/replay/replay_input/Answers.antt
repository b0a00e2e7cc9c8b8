-- The order that was read is one of the vCPUs of the machine that boots.
use Rattle.std.proofs.Common.{ℕ, ◌∷◌, [], ap, sym, subst, ◌∙◌}
use Rattle.flat_machine.specs.Machine.{MachineData}
use Rattle.medium.specs.Members.{file_state, source_state}
use Rattle.order_log.specs.Text.{IsOrder}
use Rattle.ram_block.specs.Shape.{ShapeData}
use Rattle.vm_cli.specs.Answer.{fault_in}
use Rattle.vm_cli.specs.Jobs.Common.{print_step}
use Rattle.vm_cli.specs.Jobs.Replay.{read_order_step, replay_step, replay_steps}
use Rattle.vm_cli.proofs.Boots.{boot_shape}
use Rattle.vm_cli.proofs.Causes.{ended_cause}
use Rattle.vm_cli.proofs.Jobs.{failed_with}
use Rattle.vm_cli.proofs.replay.replay_input.Goals as goal

pub returns-in_err-machine-clause-cause : goal.returns-in_err-machine-clause-cause
returns-in_err-machine-clause-cause g c = λ old new.
    let before = record old { image = g.S.Source.faults c.args.image.now; input = g.M.Readable.faults c.args.input.now; console = g.K.Sink.faults c.args.console.now } in
    let after = record new { image = g.S.Source.faults c.boot_image.new.image; input = g.M.Readable.faults c.args.input.now; console = g.K.Sink.faults c.args.console.now } in
    let source = source_state g.S.Source c.args.image.now in
    let file = file_state g.M.Readable c.args.input.now in
    ended_cause before after (replay_steps c.args.shape.now c.args.serial.now source file) (fault_in c.from_residual.result) c.in_err-machine.field-0.0 (failed_with _ _ c.from_residual.ensures)
    (c.in_err-machine.ensures.cause before after (read_order_step c.args.shape.now.vcpus file ∷ replay_step c.args.shape.now c.args.serial.now source file ∷ print_step ∷ []))

pub replay-requires-clause-order : goal.replay-requires-clause-order
replay-requires-clause-order g c =
    let boots = c.in_ok-machine.ensures.booted in
    let shaped = ap (λ (m : MachineData). m.shape.vcpus) boots.2 ∙ ap (λ (s : ShapeData). s.vcpus) (boot_shape c.args.shape.now boots.0 c.bytes.result.now) in
    subst (λ (v : ℕ). IsOrder v c.in_ok-read.read.members) (c.vcpus.ensures.value ∙ sym shaped) c.in_ok-read.ensures.order
