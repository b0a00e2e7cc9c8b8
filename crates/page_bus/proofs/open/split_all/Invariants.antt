use Rattle.std.proofs.Common.{◌≡◌, ◌≤◌, ◌++◌, [], length, map, reverse, vec_capacity, vec_len}
use Rattle.bus_rule.specs.Plays.{idle_pass}
use Rattle.bus_rule.specs.Views.{Saving}
use Rattle.page_bus.specs.Joining.{traced_of_pass}
use Rattle.page_bus.specs.Opening.{ArePassesFrom, book_from}
use Rattle.page_bus.proofs.open.split_all.Given as goal

abbrev pub invariant-loop-traced : goal.invariant-loop-traced
invariant-loop-traced l = record {
  moved : map traced_of_pass l.passes.items ++ reverse l.traced.items ≡ l.fn.traced.items;
  table : l.seat.table_id ≡ l.fn.seat.table_id;
  saver : l.seat.me ≡ (idle_pass (Saving (book_from l.rule.table.shared.key.instant.value l.rule.table.shared.key.run l.rule.table.shared.key.protect (length l.passes.items))), []);
  passes : ArePassesFrom l.fn.seat.table_id l.rule.table.shared.key.instant.value l.rule.table.shared.key.run l.rule.table.shared.key.protect (length l.passes.items) l.passes.items;
  room : length l.fn.traced.items ≤ vec_capacity l.passes;
  kept : length l.fn.traced.items ≤ vec_capacity l.traced;
}

abbrev pub decreases-loop-traced : goal.decreases-loop-traced
decreases-loop-traced l = vec_len l.traced
