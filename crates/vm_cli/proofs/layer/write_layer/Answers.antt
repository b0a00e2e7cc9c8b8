-- The phase ended in time; the layer was written or not, and its line printed or not.
use Rattle.std.proofs.Common.{inr, [], ◌∷◌, refl, rules, subst, sym, ◌∙◌, Some}
use Rattle.medium.specs.Members.{file_state, sink_state}
use Rattle.snap_layer.specs.Layer.{Joined}
use Rattle.vm_cli.specs.Answer.{fault_in, fault_of_write}
use Rattle.vm_cli.specs.Jobs.Common.{Takes, print_step, write_output_step}
use Rattle.vm_cli.specs.Jobs.Layer.{IsBehindPhase, layer_line, layer_steps}
use Rattle.vm_cli.specs.declared.answer.Fault.TheVariants as faults
use Rattle.vm_cli.proofs.Causes.{ended_cause, unwritten}
use Rattle.vm_cli.proofs.Jobs.{failed_with}
use Rattle.vm_cli.proofs.LayerEnds.{behind_phase, layer_front, unwritten_behind, wrote_layer}
use Rattle.vm_cli.proofs.layer.write_layer.Goals as goal

pub returns-in_err-layer-clause-stopped : goal.returns-in_err-layer-clause-stopped
returns-in_err-layer-clause-stopped g c = λ before.
    let copied = c.in_ok-machine.ensures.ran in
    let base = c.in_ok-base.ensures in
    let output = file_state g.M.Readable c.args.output.now in
    inr (record {
      base = c.in_ok-base.base;
      after = c.in_ok-machine.machine;
      phase = record { loaded = record { layout = base.layout; rest = base.rest; limits = base.limits }; by_rounds = copied.by_rounds; ran = copied.ran };
      behind = subst (IsBehindPhase c.in_ok-machine.machine output output) (sym (failed_with _ faults.NoMemory c.from_residual-in_err-layer.ensures)) tt;
    })

pub returns-in_err-write_whole-clause-cause : goal.returns-in_err-write_whole-clause-cause
returns-in_err-write_whole-clause-cause g c = λ old new.
    let before = record old { input = g.M.Readable.faults c.args.input.now; output = g.M.Readable.faults c.args.output.now; console = g.K.Sink.faults c.args.console.now } in
    let after = record new { input = g.M.Readable.faults c.load.new.medium; output = g.M.Readable.faults c.write_whole.new.output; console = g.K.Sink.faults c.args.console.now } in
    let input = file_state g.M.Readable c.args.input.now in
    let output = file_state g.M.Readable c.args.output.now in
    let fault = fault_of_write c.in_err-write_whole.field-0.0 in
    ended_cause before after (layer_steps c.args.n input output) (fault_in c.from_residual-in_err-write_whole.result) fault (failed_with _ _ c.from_residual-in_err-write_whole.ensures)
    (behind_phase before after c.args.n input (write_output_step output ∷ print_step ∷ []) c.in_ok-base.base (Some fault) c.in_ok-base.ensures.answer c.in_ok-machine.ensures.ran.in_time
    (unwritten before after output (file_state g.M.Readable c.write_whole.new.output) (print_step ∷ []) c.in_err-write_whole.field-0.0 refl refl c.in_err-write_whole.ensures.unwritten))

pub returns-in_err-write_whole-clause-stopped : goal.returns-in_err-write_whole-clause-stopped
returns-in_err-write_whole-clause-stopped g c = λ before.
    let copied = c.in_ok-machine.ensures.ran in
    let base = c.in_ok-base.ensures in
    inr (record {
      base = c.in_ok-base.base;
      after = c.in_ok-machine.machine;
      phase = record { loaded = record { layout = base.layout; rest = base.rest; limits = base.limits }; by_rounds = copied.by_rounds; ran = copied.ran };
      behind = unwritten_behind c.in_ok-machine.machine (file_state g.M.Readable c.args.output.now) (file_state g.M.Readable c.write_whole.new.output) (fault_in c.from_residual-in_err-write_whole.result)
          c.in_err-write_whole.field-0.0 (failed_with _ _ c.from_residual-in_err-write_whole.ensures) c.in_err-write_whole.ensures.unwritten;
    })

pub pages_in-requires : goal.pages_in-requires
pages_in-requires g c = layer_front c.in_ok-base.base c.in_ok-machine.machine c.in_ok-layer.layer.items c.deref-2.result.now c.in_ok-machine.ensures.ran.limits c.in_ok-layer.ensures.text c.deref-2.ensures.value

pub returns-clause-done : goal.returns-clause-done
returns-clause-done g c = λ done.
    let copied = c.in_ok-machine.ensures.ran in
    let base = c.in_ok-base.ensures in
    let wrote = c.in_ok-write_whole.ensures in (
      c.in_ok-base.base,
      c.in_ok-machine.machine,
      record { loaded = record { layout = base.layout; rest = base.rest; limits = base.limits }; by_rounds = copied.by_rounds; ran = copied.ran },
      copied.rest,
      wrote_layer c.in_ok-base.base c.in_ok-machine.machine c.deref.result.now (file_state g.M.Readable c.args.output.now) (file_state g.M.Readable c.write_whole.new.output)
          (c.deref.ensures.value ∙ c.in_ok-layer.ensures.text) wrote.written wrote.synced wrote.durable
          (subst (λ l. Joined c.in_ok-base.base l c.in_ok-machine.machine) (sym c.deref.ensures.value) c.in_ok-layer.ensures.joined),
      subst (λ n. Takes (fault_in c.map_err.result) (layer_line n) (sink_state g.K.Sink c.args.console.now) (sink_state g.K.Sink c.put_pages.new.console))
          (c.pages_in.ensures c.in_ok-base.base c.in_ok-machine.machine copied.limits (c.deref-2.ensures.value ∙ c.in_ok-layer.ensures.text)) (search rules),
    )

pub returns-clause-not_empty : goal.returns-clause-not_empty
returns-clause-not_empty g c = search rules
