use Rattle.std.proofs.Common.{◌≡◌, List, ℕ, length, subst, arith}
use Rattle.std.proofs.lemmas.Grind.{common_steps}
use Rattle.std.proofs.lemmas.List.Elements.{All-more}
use Rattle.ram_block.specs.declared.page_buf.TheConstants.{PAGE}
use Rattle.vm_report.proofs.ram.count_nonzero.Goals as goal

pub loop-page-preserved : goal.loop-page-preserved
loop-page-preserved c =
    let pages = c.args.pages.now in
    let i = c.loop-page.page-index in
    record {
      count = grind (arith, common_steps);
      most = grind (arith, common_steps);
      whole = All-more (λ (page : List ℕ). length page ≡ PAGE) pages i c.page-item.result c.loop-page-test.true c.loop-page.invariant.whole
          (subst (λ (page : List ℕ). length page ≡ PAGE) c.page-item.is c.bytes.ensures.length);
    }
