use Rattle.std.proofs.Common.{◌≡◌, ◌≤◌, length, take, All}
use Rattle.std.specs.List.{count_by}
use Rattle.ram_block.specs.declared.page_buf.TheConstants.{PAGE}
use Rattle.vm_report.specs.Ram.{is_nonzero}
use Rattle.vm_report.proofs.ram.count_nonzero.Given as goal

abbrev pub invariant-loop-page : goal.invariant-loop-page
invariant-loop-page l = record {
  count : l.count ≡ count_by is_nonzero (take l.page-index l.pages);
  most : l.count ≤ l.page-index;
  whole : All (λ page. length page ≡ PAGE) (take l.page-index l.pages);
}
