use Rattle.std.proofs.Common.{◌≡◌, ◌+◌, ◌*◌, length, drop}
use Rattle.ram_block.specs.declared.page_buf.TheConstants.{PAGE}
use Rattle.loader.specs.Frame.{cut_page}
use Rattle.loader.proofs.block.cut_page.Given as goal

abbrev pub invariant-loop-p : goal.invariant-loop-p
invariant-loop-p l = record {
  rest : cut_page l.len l.first l.bits.bits ≡ cut_page l.len (l.first + PAGE * l.p) (drop l.p l.bits.bits);
  bits : length l.bits.bits ≡ l.pages;
}
