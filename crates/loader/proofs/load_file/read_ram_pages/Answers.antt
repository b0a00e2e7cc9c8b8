use Rattle.std.proofs.Common.{◌≡◌, ◌∙◌, ap, subst, refl, sym, length, slice_get, Some, None, Err, arith}
use Rattle.std.proofs.lemmas.Option.{slice_get_read}
use Rattle.ram_block.specs.Shape.{ShapeData}
use Rattle.mapped_ram_header.specs.declared.block.Places.{Places}
use Rattle.file_plan.specs.Plan.{block_places}
use Rattle.loader.specs.Frame.{cut_page}
use Rattle.loader.specs.declared.refusal.LoadFault.{LoadFault}
use Rattle.loader.specs.declared.refusal.LoadFault.TheVariants.{Refused}
use Rattle.loader.proofs.Whole.{whole_on}
use Rattle.loader.proofs.load_file.read_ram_pages.Goals as goal

pub returns-in-Err-clause-whole : goal.returns-in-Err-clause-whole
returns-in-Err-clause-whole g c = λ file refusal told whole is.
    let b = c.index-bits-block.result in
    let count = c.requires.blocks in
    let found : slice_get c.args.bits.now c.loop-block.block ≡ Some b =
    slice_get_read c.args.bits.now (length c.args.bits.now) c.loop-block.block b refl (omega (arith, count)) c.index-bits-block.is in
    let here = whole_on file c.args.shape.now.pages c.loop-block.block c.args.bits.now b found (c.loop-block.invariant.whole file whole) in
    let places : c.places-first.result ≡ block_places c.args.shape.now.pages c.loop-block.block =
    c.places-first.ensures.places ∙ ap (λ (s : ShapeData). block_places s.pages c.loop-block.block) c.of-plan.ensures in
    let uncut : cut_page (length file) c.places-first.result.pages b.bits ≡ None =
    subst (λ (p : Places). cut_page (length file) p.pages b.bits ≡ None) (sym places) here.0.uncut in
    let same : c.in-Err.fault ≡ Refused refusal = cc in
    c.in-Err.ensures.whole file refusal (c.loop-block.invariant.leaves.told ∙ told) uncut (ap (λ (f : LoadFault). Err f) same)
