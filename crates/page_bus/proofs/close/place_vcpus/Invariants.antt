use Rattle.std.proofs.Common.{◌≡◌, ◌<◌, ℕ, List, Some, vec_len}
use Rattle.std.specs.List.{slice_get}
use Rattle.rv64i_step.specs.Vcpu.{VcpuData}
use Rattle.page_bus.specs.Merge.{FitsVcpus}
use Rattle.page_bus.specs.Traced.{TracedData}
use Rattle.page_bus.proofs.close.place_vcpus.Given as goal

abbrev pub invariant-loop-one : goal.invariant-loop-one
invariant-loop-one l = record {
  count : vec_len l.vcpus ≡ vec_len l.fn.vcpus;
  placed : (fitting : List VcpuData) → FitsVcpus fitting l.traced.items → (j : ℕ) (d : TracedData) → j < l.one-index → slice_get l.traced.items j ≡ Some d →
      slice_get l.vcpus.items d.who ≡ slice_get fitting d.who;
}
