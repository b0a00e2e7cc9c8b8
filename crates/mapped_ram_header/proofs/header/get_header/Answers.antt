use Rattle.std.proofs.Common.{rules, ◌∙◌, refl}
use Rattle.mapped_ram_header.proofs.Fields.{right_fields, page_of}
use Rattle.mapped_ram_header.proofs.header.get_header.Goals as goal

pub returns-then-page-clause-read_back : goal.returns-then-page-clause-read_back
returns-then-page-clause-read_back c = (search rules, λ same. search (rules, c.u64_at-page.ensures.number ∙ page_of _ c.args.places.now same))

pub returns-clause-read_back : goal.returns-clause-read_back
returns-clause-read_back c = (
  λ ok. right_fields c.args.bytes.now c.args.places.now _ _ _ _ (search rules) c.u32_at-version.ensures.back c.u64_at-page.ensures.back c.u64_at-bitmap.ensures.back c.u64_at-pages.ensures.back
      (search rules) c.if-page.false c.if-bitmap-places.false c.if-pages-places.false,
  λ same. refl,
)
