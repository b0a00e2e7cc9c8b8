-- Layer and base join to none: both were read.
use Rattle.std.proofs.Common.{◌∷◌, Some}
use Rattle.medium.specs.Members.{file_state, source_state}
use Rattle.vm_cli.specs.Answer.{fault_of_layer}
use Rattle.vm_cli.specs.Jobs.Join.{join_step, read_layer_step}
use Rattle.vm_cli.specs.Jobs.Load.{load_step}
use Rattle.vm_cli.proofs.Causes.{passed}
use Rattle.vm_cli.proofs.Joins.{of_fault, read_passes, read_whole, unjoined}
use Rattle.vm_cli.proofs.Loads.{loaded_passes}
use Rattle.vm_cli.proofs.join.join_input.Goals as goal

pub returns-in_err-join_layer-clause-cause : goal.returns-in_err-join_layer-clause-cause
returns-in_err-join_layer-clause-cause g c =
    let fault = fault_of_layer c.in_err-join_layer.field-0.0 in
    let image = source_state g.S.Source c.args.image.now in
    let input = file_state g.M.Readable c.args.input.now in
    of_fault c.from_residual-in_err-join_layer.result fault _ c.from_residual-in_err-join_layer.ensures (λ old new steps.
    (let before = record old { image = g.S.Source.faults c.args.image.now; input = g.M.Readable.faults c.args.input.now } in
    let after = record new { image = g.S.Source.faults c.read_raw.new.source; input = g.M.Readable.faults c.load.new.medium } in
    passed before after (read_layer_step image) (load_step input ∷ join_step image input ∷ steps) (Some fault) (read_passes image c.in_ok-layer.layer.items c.in_ok-layer.ensures.answer)
    (passed before after (load_step input) (join_step image input ∷ steps) (Some fault) (loaded_passes input c.in_ok-base.base c.in_ok-base.ensures.answer)
    (unjoined before after image input steps c.in_ok-base.base c.in_ok-layer.layer.items c.in_err-join_layer.field-0.0 (read_whole image.left _ c.in_ok-layer.layer.items c.in_ok-layer.ensures.answer)
    c.in_ok-base.ensures.answer (c.a_layer_is_joined_or_refused.ensures.never_late c.in_ok-base.base c.in_ok-layer.layer.items) c.in_err-join_layer.ensures.answer))))
