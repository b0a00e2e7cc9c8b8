-- What turns of vCPUs leave of their passes (this project's own, docs/ARCHITECTURE.md).
use Rattle.std.specs.Prelude.{◌≡◌, ℕ, ◌<◌, List, length, slice_index_or}
use Rattle.page_bus.specs.Passes.{VcpuPassData, vcpu_key}

-- each pass is as before by what no call but a close changes of it
pub record KeepsKeys (old new : List VcpuPassData) : Type 0 where
  pub count : length new ≡ length old
  pub each : (i : ℕ) (d : VcpuPassData) → i < length old → vcpu_key (slice_index_or new i d) ≡ vcpu_key (slice_index_or old i d)
