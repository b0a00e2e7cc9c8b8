use Rattle.std.proofs.Common.{◌∙◌, ap, ◌%◌, ◌^◌}
use Rattle.flat_machine.specs.Sum.{sum_of_words}
use Rattle.flat_machine.proofs.Sums.{length_more, length_none, sum_more, sum_none}
use Rattle.flat_machine.proofs.sum.sum_pages.Goals as goal

pub loop-page-init : goal.loop-page-init
loop-page-init c = record { sum = sum_none; whole = length_none }

pub loop-page-preserved : goal.loop-page-preserved
loop-page-preserved c =
    let pages = c.args.pages.now in
    let i = c.loop-page.page-index in
    let page = c.page-item.result in
    record {
      sum = sum_more pages i page _ _ c.loop-page-test.true c.page-item.is c.loop-page.invariant.whole c.loop-page.invariant.sum
          (c.sum_bytes-sum.ensures ∙ ap (λ bytes. sum_of_words bytes % 2 ^ 64) c.bytes.ensures.bytes);
      whole = length_more pages i page c.loop-page-test.true c.page-item.is c.loop-page.invariant.whole c.bytes.ensures.length;
    }
