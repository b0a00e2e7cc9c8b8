-- What is known of the vCPUs of all passes, when they are back.
use Rattle.std.specs.Prelude.{◌≡◌, ℕ, ◌<◌, List, All, length, slice_get, slice_index, Some}
use Rattle.rv64i_step.specs.Vcpu.{VcpuData}
use Rattle.bus_rule.specs.Order.{places}
use Rattle.page_bus.specs.Traced.{TracedData}

-- vCPU k is among them
pub record IsAmong (traced : List TracedData) (k : ℕ) : Type 0 where
  pub place : ℕ
  pub one : TracedData
  pub stands : slice_get traced place ≡ Some one
  pub who : one.who ≡ k

-- the numbers of each are its places in the order, of which each member is among them
pub record FitsOrder (o : List ℕ) (traced : List TracedData) : Type 0 where
  pub numbers : All (λ d. d.numbers ≡ places d.who o) traced
  pub each : All (IsAmong traced) o

-- each is the vCPU at its place, and at each place stands one of them
pub record FitsVcpus (vcpus : List VcpuData) (traced : List TracedData) : Type 0 where
  pub vcpu : All (λ d. slice_get vcpus d.who ≡ Some d.vcpu) traced
  pub each : (k : ℕ) → k < length vcpus → IsAmong traced k

-- the next event of a vCPU, after so many of each, drew this number
pub record IsNext (traced : List TracedData) (placed : List ℕ) (who number : ℕ) : Type 0 where
  pub place : ℕ
  pub one : TracedData
  pub stands : slice_get traced place ≡ Some one
  pub is : one.who ≡ who
  pub drew : slice_get one.numbers (slice_index placed who) ≡ Some number
