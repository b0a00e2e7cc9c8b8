use Rattle.std.proofs.Common.{◌≡◌, ◌<◌, ℕ, Some, slice_index}
use Rattle.std.specs.List.{slice_get}
use Rattle.page_bus.specs.Traced.{TracedData}
use Rattle.page_bus.proofs.merge.drew.Given as goal

abbrev pub invariant-loop-one : goal.invariant-loop-one
invariant-loop-one l = record {
  none : (j : ℕ) (d : TracedData) → j < l.one-index → slice_get l.traced j ≡ Some d → slice_get d.numbers (slice_index l.placed d.who) ≡ Some l.number → ⊥;
}
