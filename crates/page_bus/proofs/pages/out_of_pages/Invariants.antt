use Rattle.std.proofs.Common.{◌≡◌, ◌+◌, ◌≤◌, ◌++◌, map, reverse, All, vec_len, vec_capacity}
use Rattle.page_cell.specs.Cell.{IsPage, bytes_in}
use Rattle.page_bus.proofs.pages.out_of_pages.Given as goal

abbrev pub invariant-loop-cell : goal.invariant-loop-cell
invariant-loop-cell l = record {
  moved : l.ram.items ++ map bytes_in (reverse l.cells.items) ≡ map bytes_in l.fn.cells.items;
  count : vec_len l.ram + vec_len l.cells ≡ vec_len l.fn.cells;
  room : vec_len l.fn.cells ≤ vec_capacity l.ram;
  pages : All IsPage l.cells.items;
}

abbrev pub decreases-loop-cell : goal.decreases-loop-cell
decreases-loop-cell l = vec_len l.cells
