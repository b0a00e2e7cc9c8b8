use Rattle.std.proofs.Common.{◌≡◌, ◌≤◌, vec_len}
use Rattle.std.specs.List.{filter, range_with_len}
use Rattle.snap_layer.specs.Layer.{differs}
use Rattle.snap_layer.proofs.put.changed.Given as goal

abbrev pub invariant-loop-p : goal.invariant-loop-p
invariant-loop-p l = record {
  pages : l.pages.items ≡ filter (differs l.base l.now) (range_with_len 0 l.p);
  few : vec_len l.pages ≤ l.p;
}
