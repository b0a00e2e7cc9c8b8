use Rattle.std.proofs.Common.{◌≡◌, ℕ, ◌*◌, ◌∙◌, ap, subst, IfOk}
use Rattle.ram_block.specs.Shape.{ShapeData}
use Rattle.ram_block.specs.declared.page_buf.TheConstants.{PAGE}
use Rattle.file_plan.specs.Plan.{record_place}
use Rattle.loader.specs.Stands.{HasHeader}
use Rattle.loader.proofs.Blocks.{has_block}
use Rattle.loader.proofs.ram.read_later_block.Goals as goal

pub returns-clause-stands : goal.returns-clause-stands
returns-clause-stands g c = λ file told.
    let pages : c.pages-pages.result ≡ c.args.shape.now.pages = c.pages-pages.ensures.value in
    let whole : c.in_ok-v.v ≡ PAGE * c.args.shape.now.pages = c.if-v-from.false ∙ ap (λ n. PAGE * n) (c.from.ensures ∙ pages) in
    let at : c.record_at.result ≡ record_place c.args.shape.now.pages c.args.block =
    c.record_at.ensures.place ∙ ap (λ (s : ShapeData). record_place s.pages c.args.block) c.of-plan.ensures in
    has_block c.read_block.result file c.args.shape.now.pages c.args.block c.record_at.result c.in_ok-v.v at whole (c.in_ok-v.ensures.stands file told)
    (subst (λ (p : ℕ). IfOk c.read_block.result (λ _. HasHeader file p c.args.block)) pages (c.read_block.ensures.stands file (c.in_ok-v.ensures.leaves.told ∙ told)))
