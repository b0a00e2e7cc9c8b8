-- Layer and base joined or not, and the machine was saved, as far as its save came.
use Rattle.std.proofs.Common.{[], ◌∷◌, rules, subst}
use Rattle.medium.specs.Members.{file_state, sink_state, source_state}
use Rattle.ram_block.specs.Shape.{ShapeData}
use Rattle.vm_report.specs.Report.{ok_line}
use Rattle.vm_cli.specs.Answer.{fault_in}
use Rattle.vm_cli.specs.Jobs.Common.{Takes, print_step, write_output_step}
use Rattle.vm_cli.specs.Jobs.Join.{join_steps}
use Rattle.vm_cli.proofs.Causes.{ended_cause}
use Rattle.vm_cli.proofs.Jobs.{failed_with}
use Rattle.vm_cli.proofs.Joins.{full_save}
use Rattle.vm_cli.proofs.join.join_image.Goals as goal

pub returns-in_err-machine-clause-cause : goal.returns-in_err-machine-clause-cause
returns-in_err-machine-clause-cause g c = λ old new.
    let before = record old { image = g.S.Source.faults c.args.image.now; input = g.M.Readable.faults c.args.input.now; output = g.M.Readable.faults c.args.output.now; console = g.K.Sink.faults c.args.console.now } in
    let after = record new { image = g.S.Source.faults c.join_input.new.image; input = g.M.Readable.faults c.join_input.new.input; output = g.M.Readable.faults c.args.output.now; console = g.K.Sink.faults c.args.console.now } in
    ended_cause before after (join_steps (source_state g.S.Source c.args.image.now) (file_state g.M.Readable c.args.input.now) (file_state g.M.Readable c.args.output.now)) (fault_in c.from_residual.result)
    c.in_err-machine.field-0.0 (failed_with _ _ c.from_residual.ensures) (c.in_err-machine.ensures.cause before after (write_output_step (file_state g.M.Readable c.args.output.now) ∷ print_step ∷ []))

pub returns-clause-done : goal.returns-clause-done
returns-clause-done g c = λ done.
    let joins = c.in_ok-machine.ensures.joined in
    let saved = c.in_ok-shape.ensures in (
      c.in_ok-machine.machine,
      joins,
      saved.saved,
      saved.crash,
      full_save _ _ _ c.in_ok-machine.machine joins _ _ saved.saved,
      subst (λ (s : ShapeData). Takes (fault_in c.map_err.result) (ok_line s) (sink_state g.K.Sink c.args.console.now) (sink_state g.K.Sink c.put_ok.new.sink)) saved.shape (search rules),
    )
