use Rattle.std.proofs.Common.{◌≡◌, ◌∙◌, ap, sym, true}
use Rattle.ram_block.specs.Shape.{ShapeData}
use Rattle.file_plan.specs.Plan.{page_place}
use Rattle.page_peek.specs.Peeked.{PeekData, bit_of}
use Rattle.page_peek.proofs.PagesOf.{peeks}
use Rattle.page_peek.proofs.peek.peek_page.Goals as goal

pub returns-clause-answer : goal.returns-clause-answer
returns-clause-answer g c = λ file told.
    let place : c.page_at.result ≡ page_place c.args.peek.now.shape.pages c.args.p =
    c.page_at.ensures.place ∙ ap (λ (s : ShapeData). page_place s.pages c.args.p) (c.of.ensures ∙ ap (λ (d : PeekData). d.shape) c.peek.view_is) in
    let set : bit_of c.args.peek.now c.args.p ≡ true = sym c.has.ensures.bit ∙ c.if-not-has.false in
    peeks file c.args.peek.now c.args.p c.page_at.result c.read_page.new.into c.read_page.result place set (c.read_page.ensures.page file told) (λ at is. c.read_page.ensures.cut file at told is)
