use Rattle.std.proofs.Common.{◌≡◌, ◌≤◌, ◌<◌, ◌+◌, All, drop, length, map, reverse, take, vec_capacity, vec_len}
use Rattle.ram_block.specs.declared.shape.TheConstants.{MAX_VCPUS}
use Rattle.page_bus.specs.Joining.{joined_with, task_of_pass, traced_of_pass}
use Rattle.page_bus.proofs.join.join_all.Given as goal

abbrev pub invariant-loop-pass : goal.invariant-loop-pass
invariant-loop-pass l = record {
  table : l.seat.table_id ≡ l.fn.seat.table_id;
  tables : All (λ p. p.table ≡ l.bus.table.shared.table_id) l.passes.items;
  left : reverse l.passes.items ≡ drop (length l.traced.items) l.fn.passes.items;
  joined : l.seat.me ≡ (joined_with l.fn.seat.me.0 (map task_of_pass (take (length l.traced.items) l.fn.passes.items)), l.fn.seat.me.1);
  traced : l.traced.items ≡ map traced_of_pass (take (length l.traced.items) l.fn.passes.items);
  count : length l.traced.items + vec_len l.passes ≡ length l.fn.passes.items;
  room : length l.fn.passes.items ≤ vec_capacity l.traced;
  below : All (λ d. d.who < MAX_VCPUS) l.traced.items;
}

abbrev pub decreases-loop-pass : goal.decreases-loop-pass
decreases-loop-pass l = vec_len l.passes
