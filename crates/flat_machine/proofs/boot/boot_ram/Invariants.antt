use Rattle.std.proofs.Common.{◌≡◌, ◌-◌, ◌*◌, ◌++◌, length, take, replicate, vec_len}
use Rattle.ram_block.specs.declared.page_buf.TheConstants.{PAGE}
use Rattle.flat_machine.specs.Page.{joined}
use Rattle.flat_machine.proofs.boot.boot_ram.Given as goal

abbrev pub invariant-loop-p : goal.invariant-loop-p
invariant-loop-p l = record {
  bytes : joined l.ram.items ≡ take (PAGE * l.p) (l.image ++ replicate (PAGE * l.pages - length l.image) 0);
  count : vec_len l.ram ≡ l.p;
}
