use Rattle.std.proofs.Common.{◌≡◌, ◌*◌, ◌%◌, ◌^◌, length, take}
use Rattle.ram_block.specs.declared.page_buf.TheConstants.{PAGE}
use Rattle.flat_machine.specs.Page.{joined}
use Rattle.flat_machine.specs.Sum.{sum_of_words}
use Rattle.flat_machine.proofs.sum.sum_pages.Given as goal

abbrev pub invariant-loop-page : goal.invariant-loop-page
invariant-loop-page l = record {
  sum : l.sum ≡ sum_of_words (joined (take l.page-index l.pages)) % 2 ^ 64;
  whole : length (joined (take l.page-index l.pages)) ≡ PAGE * l.page-index;
}
