use Rattle.std.proofs.Common.{◌≡◌, ◌+◌, ◌-◌, ◌*◌, ◌≤◌, length, vec_len, All}
use Rattle.ram_block.specs.declared.page_buf.TheConstants.{PAGE}
use Rattle.flat_machine.specs.Page.{joined}
use Rattle.snap_layer.specs.Reading.{ram_in}
use Rattle.snap_layer.specs.declared.format.TheConstants.{ENTRY_LEN, FRONT_LEN}
use Rattle.snap_layer.proofs.pages.read_pages.Given as goal

-- the pages so far are put, and what is left to read goes on from here
abbrev pub invariant-loop-i : goal.invariant-loop-i
invariant-loop-i l = record {
  rest : ram_in l.layer (vec_len l.fn.ram) l.count 0 FRONT_LEN (joined l.fn.ram.items)
      ≡ ram_in l.layer (vec_len l.fn.ram) (l.count - l.i) l.least (FRONT_LEN + ENTRY_LEN * l.i) (joined l.ram.items);
  least : l.least ≤ vec_len l.fn.ram;
  pages : vec_len l.ram ≡ vec_len l.fn.ram;
  whole : All (λ page. length page ≡ PAGE) l.ram.items;
}
