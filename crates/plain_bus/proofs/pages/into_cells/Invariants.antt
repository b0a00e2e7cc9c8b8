use Rattle.std.proofs.Common.{◌≡◌, ◌+◌, ◌≤◌, ◌++◌, map, reverse, vec_len, vec_capacity}
use Rattle.plain_bus.proofs.Cells.{cell_in}
use Rattle.plain_bus.proofs.pages.into_cells.Given as goal

abbrev pub invariant-loop-bytes : goal.invariant-loop-bytes
invariant-loop-bytes l = record {
  moved : l.cells.items ++ map (cell_in l.phase) (reverse l.ram.items) ≡ map (cell_in l.phase) l.fn.ram.items;
  count : vec_len l.cells + vec_len l.ram ≡ vec_len l.fn.ram;
  room : vec_len l.fn.ram ≤ vec_capacity l.cells;
  kept : vec_len l.fn.ram ≤ vec_capacity l.ram;
}

abbrev pub decreases-loop-bytes : goal.decreases-loop-bytes
decreases-loop-bytes l = vec_len l.ram
