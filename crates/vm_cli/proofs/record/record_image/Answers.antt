-- The order of the phase that the machine of the image ran is one of its vCPUs, and so it has a text.
use Rattle.std.proofs.Common.{◌∷◌, [], Some, refl, sym, subst, ◌∙◌, ℕ}
use Rattle.medium.specs.Members.{file_state, source_state}
use Rattle.order_log.specs.Text.{IsOrder}
use Rattle.vm_cli.specs.Answer.{fault_in, fault_of_write}
use Rattle.vm_cli.specs.Jobs.Boot.{boot_step}
use Rattle.vm_cli.specs.Jobs.Common.{print_step, write_output_step}
use Rattle.vm_cli.specs.Jobs.Record.{record_steps}
use Rattle.vm_cli.proofs.Boots.{boot_has}
use Rattle.vm_cli.proofs.Causes.{ended_cause, passed, unwritten}
use Rattle.vm_cli.proofs.Jobs.{failed_with}
use Rattle.vm_cli.proofs.Records.{boot_order, small_text}
use Rattle.vm_cli.proofs.record.record_image.Goals as goal

pub returns-in_err-machine-clause-cause : goal.returns-in_err-machine-clause-cause
returns-in_err-machine-clause-cause g c = λ old new.
    ended_cause
    (record old { image = g.S.Source.faults c.args.image.now; output = g.M.Readable.faults c.args.output.now; console = g.K.Sink.faults c.args.console.now })
    (record new { image = g.S.Source.faults c.boot_image.new.image; output = g.M.Readable.faults c.args.output.now; console = g.K.Sink.faults c.args.console.now })
    (record_steps c.args.shape.now (source_state g.S.Source c.args.image.now) (file_state g.M.Readable c.args.output.now)) (fault_in c.from_residual.result) c.in_err-machine.field-0.0 (failed_with _ _ c.from_residual.ensures)
    (c.in_err-machine.ensures.cause (record old { output = g.M.Readable.faults c.args.output.now; console = g.K.Sink.faults c.args.console.now })
    (record new { output = g.M.Readable.faults c.args.output.now; console = g.K.Sink.faults c.args.console.now }) (write_output_step (file_state g.M.Readable c.args.output.now) ∷ print_step ∷ []))

pub reach_instant-requires-clause-room : goal.reach_instant-requires-clause-room
reach_instant-requires-clause-room g c κs within =
    boot_has c.args.shape.now c.in_ok-machine.ensures.booted.0 c.bytes.result.now c.in_ok-machine.machine c.args.run c.in_ok-machine.ensures.booted.2 c.requires.limits.is_shape c.requires.limits.run_most

pub put_order-requires-clause-order : goal.put_order-requires-clause-order
put_order-requires-clause-order g c =
    subst (λ (v : ℕ). IsOrder v c.in_ok-machine-2.order.members) (sym c.vcpus.ensures.value)
    (boot_order c.args.shape.now c.in_ok-machine.ensures.booted.0 c.bytes.result.now c.in_ok-machine.machine c.args.run c.in_ok-machine-2.order.members c.in_ok-machine-2.machine c.in_ok-machine.ensures.booted.2
    c.requires.limits.is_shape c.requires.limits.run_most c.in_ok-machine.ensures.rest c.in_ok-machine-2.ensures.instant)

pub write_whole-requires : goal.write_whole-requires
write_whole-requires g c =
    small_text c.in_ok-machine-2.order.members c.args.shape.now.vcpus c.vcpus.result c.deref.result.now (c.deref.ensures.value ∙ c.in_ok-text.ensures)
    (boot_order c.args.shape.now c.in_ok-machine.ensures.booted.0 c.bytes.result.now c.in_ok-machine.machine c.args.run c.in_ok-machine-2.order.members c.in_ok-machine-2.machine c.in_ok-machine.ensures.booted.2
    c.requires.limits.is_shape c.requires.limits.run_most c.in_ok-machine.ensures.rest c.in_ok-machine-2.ensures.instant)

pub returns-in_err-write_whole-clause-cause : goal.returns-in_err-write_whole-clause-cause
returns-in_err-write_whole-clause-cause g c = λ old new.
    let before = record old { image = g.S.Source.faults c.args.image.now; output = g.M.Readable.faults c.args.output.now; console = g.K.Sink.faults c.args.console.now } in
    let after = record new { image = g.S.Source.faults c.boot_image.new.image; output = g.M.Readable.faults c.write_whole.new.output; console = g.K.Sink.faults c.args.console.now } in
    ended_cause before after (record_steps c.args.shape.now (source_state g.S.Source c.args.image.now) (file_state g.M.Readable c.args.output.now)) (fault_in c.from_residual-in_err-write_whole.result)
    (fault_of_write c.in_err-write_whole.field-0.0) (failed_with _ _ c.from_residual-in_err-write_whole.ensures)
    (passed before after (boot_step c.args.shape.now (source_state g.S.Source c.args.image.now)) (write_output_step (file_state g.M.Readable c.args.output.now) ∷ print_step ∷ []) (Some (fault_of_write c.in_err-write_whole.field-0.0)) c.in_ok-machine.ensures.passes
    (unwritten before after (file_state g.M.Readable c.args.output.now) (file_state g.M.Readable c.write_whole.new.output) (print_step ∷ []) c.in_err-write_whole.field-0.0 refl refl c.in_err-write_whole.ensures.unwritten))
