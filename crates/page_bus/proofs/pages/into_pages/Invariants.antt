use Rattle.std.proofs.Common.{◌≡◌, ◌+◌, ◌≤◌, ◌++◌, map, reverse, vec_len, vec_capacity}
use Rattle.page_bus.specs.Moves.{page_in}
use Rattle.page_bus.proofs.pages.into_pages.Given as goal

abbrev pub invariant-loop-bytes : goal.invariant-loop-bytes
invariant-loop-bytes l = record {
  moved : l.cells.items ++ map (page_in l.phase) (reverse l.ram.items) ≡ map (page_in l.phase) l.fn.ram.items;
  count : vec_len l.cells + vec_len l.ram ≡ vec_len l.fn.ram;
  room : vec_len l.fn.ram ≤ vec_capacity l.cells;
  kept : vec_len l.fn.ram ≤ vec_capacity l.ram;
  capacity : vec_capacity l.cells ≡ vec_capacity l.fn.cells;
}

abbrev pub decreases-loop-bytes : goal.decreases-loop-bytes
decreases-loop-bytes l = vec_len l.ram
