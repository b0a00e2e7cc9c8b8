use Rattle.std.proofs.Common.{◌∙◌, ap, subst, sym}
use Rattle.ram_block.specs.Shape.{ShapeData}
use Rattle.rv64i_step.specs.Event.{IsServable, request_of}
use Rattle.rv64i_step.specs.Request.{CanServe}
use Rattle.lazy_restore.proofs.Asked.{asked_can, page_asked, page_there}
use Rattle.lazy_restore.proofs.pages.next_page.Goals as goal

pub returns-clause-page : goal.returns-clause-page
returns-clause-page c =
    page_asked c.args.machine.now c.args.k c.vcpu.result.now c.request.result c.touched_page.result c.vcpu.ensures.value
    (c.request.ensures.request ∙ ap (λ (s : ShapeData). request_of s c.vcpu.result.now) c.shape.ensures.value) c.touched_page.ensures

pub returns-clause-within : goal.returns-clause-within
returns-clause-within c =
    let serves = asked_can c.args.machine.now c.args.k c.vcpu.result.now c.shape.ensures.limits c.vcpu.ensures.value in
    let can : CanServe c.shape.result c.request.result = c.request.ensures.servable (subst (λ (s : ShapeData). IsServable s c.vcpu.result.now) (sym c.shape.ensures.value) serves) in
    page_there c.args.machine.now.shape c.request.result c.touched_page.result (subst (λ (s : ShapeData). CanServe s c.request.result) c.shape.ensures.value can) c.touched_page.ensures
