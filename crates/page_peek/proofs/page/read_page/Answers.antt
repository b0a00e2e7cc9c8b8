use Rattle.std.proofs.Common.{◌∙◌, ap, length}
use Rattle.page_peek.proofs.PagesOf.{page_read}
use Rattle.page_peek.proofs.page.read_page.Goals as goal

pub returns-in-Ok-clause-page : goal.returns-in-Ok-clause-page
returns-in-Ok-clause-page g c = λ file told.
    page_read (g.M.Readable.told c.new.result.medium.now) file c.take.new.buf c.new.result.at c.args.at (length c.bytes_mut.result.now) (cc) c.new.ensures.at
    (ap length c.bytes_mut.ensures.bytes ∙ c.bytes_mut.ensures.length) c.in-Ok.ensures.answer
