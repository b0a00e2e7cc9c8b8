use Rattle.std.proofs.Common.{ℕ, ◌∙◌, ap, drop, length, take}
use Rattle.loader.proofs.PagesRead.{page_read}
use Rattle.loader.proofs.pages.saved_page.Goals as goal

pub returns-in-Ok-clause-page : goal.returns-in-Ok-clause-page
returns-in-Ok-clause-page g c = λ file told.
    (page_read (g.M.Readable.told c.new.result.medium.now) file c.take.new.buf c.new.result.at (length c.bytes_mut.result.now) (cc)
    (ap length c.bytes_mut.ensures.bytes ∙ c.bytes_mut.ensures.length) c.in-Ok.ensures.answer).0
    ∙ ap (λ (k : ℕ). take 4096 (drop k file)) c.new.ensures.at
