-- The machine that boots with the image is saved.
use Rattle.std.proofs.Common.{List, ℕ, subst}
use Rattle.image_file.specs.Image.{image_of}
use Rattle.medium.specs.Members.{file_state, source_state}
use Rattle.vm_cli.specs.Answer.{fault_in}
use Rattle.vm_cli.specs.Jobs.Common.{read_image_step}
use Rattle.vm_cli.specs.Jobs.Boot.{BootsImage, image_fault}
use Rattle.vm_cli.specs.Jobs.Save.{save_machine_steps, save_steps}
use Rattle.vm_cli.specs.Outside.{end_of}
use Rattle.vm_cli.proofs.Boots.{boot_has, boot_turns}
use Rattle.vm_cli.proofs.Causes.{ended_cause, passed}
use Rattle.vm_cli.proofs.Jobs.{failed_with}
use Rattle.vm_cli.proofs.SaveImages.{image_done}
use Rattle.vm_cli.proofs.save.save_image.Goals as goal

pub returns-in_err-machine-clause-cause : goal.returns-in_err-machine-clause-cause
returns-in_err-machine-clause-cause g c = λ old new.
    ended_cause
    (record old { image = g.S.Source.faults c.args.image.now; output = g.M.Readable.faults c.args.output.now; console = g.K.Sink.faults c.args.console.now })
    (record new { image = g.S.Source.faults c.boot_image.new.image; output = g.M.Readable.faults c.args.output.now; console = g.K.Sink.faults c.args.console.now })
    (save_steps c.args.shape.now (source_state g.S.Source c.args.image.now) (file_state g.M.Readable c.args.output.now)) (fault_in c.from_residual.result) c.in_err-machine.field-0.0 (failed_with _ _ c.from_residual.ensures)
    (c.in_err-machine.ensures.cause (record old { output = g.M.Readable.faults c.args.output.now; console = g.K.Sink.faults c.args.console.now })
    (record new { output = g.M.Readable.faults c.args.output.now; console = g.K.Sink.faults c.args.console.now }) (save_machine_steps (file_state g.M.Readable c.args.output.now)))

pub save_machine-requires-clause-room : goal.save_machine-requires-clause-room
save_machine-requires-clause-room g c =
    boot_has c.args.shape.now c.in_ok-machine.ensures.booted.0 c.bytes.result.now c.in_ok-machine.machine c.args.stop c.in_ok-machine.ensures.booted.2 c.requires.limits.is_shape c.requires.limits.stop_most

pub save_machine-requires-clause-turns : goal.save_machine-requires-clause-turns
save_machine-requires-clause-turns g c =
    boot_turns c.args.shape.now c.in_ok-machine.ensures.booted.0 c.bytes.result.now c.in_ok-machine.machine c.args.turns.now c.in_ok-machine.ensures.booted.2 c.requires.limits.turns_there

pub returns-clause-cause : goal.returns-clause-cause
returns-clause-cause g c = λ old new.
    passed
    (record old { image = g.S.Source.faults c.args.image.now; output = g.M.Readable.faults c.args.output.now; console = g.K.Sink.faults c.args.console.now })
    (record new { image = g.S.Source.faults c.boot_image.new.image; output = g.M.Readable.faults c.save_machine.new.output; console = g.K.Sink.faults c.save_machine.new.console })
    (read_image_step (λ bytes. image_fault (image_of bytes c.args.shape.now)) (source_state g.S.Source c.args.image.now)) (save_machine_steps (file_state g.M.Readable c.args.output.now)) (fault_in c.save_machine.result) c.in_ok-machine.ensures.passes
    (c.save_machine.ensures.cause (record old { image = g.S.Source.faults c.args.image.now }) (record new { image = g.S.Source.faults c.boot_image.new.image }))

pub returns-clause-done : goal.returns-clause-done
returns-clause-done g c = λ done.
    image_done c.args.shape.now c.args.serial.now _ (source_state g.S.Source c.args.image.now) (source_state g.S.Source c.boot_image.new.image) _ _ _ _ (end_of (fault_in c.save_machine.result) c.save_machine.new.orders)
    c.in_ok-machine.machine
    (subst (λ (l : List ℕ). BootsImage c.args.shape.now l (source_state g.S.Source c.args.image.now) (source_state g.S.Source c.boot_image.new.image) c.in_ok-machine.machine) c.bytes.ensures c.in_ok-machine.ensures.booted)
    (c.save_machine.ensures.done done)
