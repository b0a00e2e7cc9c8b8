use Rattle.std.proofs.Common.{◌∙◌}
use Rattle.page_peek.proofs.PagesOf.{peek_is}
use Rattle.page_peek.proofs.peek.open_as.Goals as goal

pub returns-in-Ok-clause-answer : goal.returns-in-Ok-clause-answer
returns-in-Ok-clause-answer g c = λ file told.
    let heads = c.in-Ok.ensures.heads file told in
    (heads.0, c.of.ensures.peek ∙ peek_is file c.args.shape c.in-Ok.bits.items heads.1)
