-- The bus at its end (this project's own, docs/ARCHITECTURE.md).
use Rattle.std.specs.Prelude.{◌≡◌, ℕ, ◌<◌, true, List, All, length, slice_get, Some, None}
use Rattle.flat_machine.specs.Machine.{MachineData}
use Rattle.flat_machine.specs.Run.{has_ended, run, Phase}
use Rattle.bus_rule.specs.Faults.{IsWritten}
use Rattle.bus_rule.specs.Order.{order_of}
use Rattle.bus_rule.specs.Story.{IsTold, numbers_of}
use Rattle.page_bus.specs.Passes.{BusData, VcpuPassData, SaverPassData, task_of, book_of}

-- the passes are all that the start gave for this bus, each once, in any order
pub record AreAllOf (bus : BusData) (passes : List VcpuPassData) (saver : SaverPassData) : Type 0 where
  pub tables : All (λ p. p.table ≡ bus.table) passes
  pub saver_table : saver.table ≡ bus.table
  pub instant : (book_of saver.view).instant ≡ bus.instant
  pub count : length passes ≡ length bus.instant.vcpus
  pub each : (k : ℕ) → k < length bus.instant.vcpus → (j : ℕ) × (p : VcpuPassData) × (slice_get passes j ≡ Some p) × ((task_of p.view).who ≡ k)

-- these are the numbers of the events of each vCPU, by vCPU
pub record AreTracesOf (bus : BusData) (passes : List VcpuPassData) (traces : List (List ℕ)) : Type 0 where
  pub count : length traces ≡ length bus.instant.vcpus
  pub each : (j : ℕ) (p : VcpuPassData) → slice_get passes j ≡ Some p → slice_get traces (task_of p.view).who ≡ Some (numbers_of (task_of p.view).trace)

-- no vCPU has a pending access
abbrev pub NonePending : MachineData → Type 0
NonePending m = All (λ v. v.pending ≡ None) m.vcpus

-- no event of the run writes to a page
abbrev pub NoneWritten : MachineData → List ℕ → Type 0
NoneWritten i o = (p : ℕ) → IsWritten i o p → ⊥

-- what a close answers: the order is that of the traces, and the machine is its run; each pass shows what is so of its
-- vCPU there; and where no access is pending, each page that was picked is one that an event writes to, and no vCPU was
-- ever stopped where none is written to
pub record Closes (bus : BusData) (passes : List VcpuPassData) (saver : SaverPassData) (machine : MachineData) (order : List ℕ) : Type 0 where
  pub order_is : (traces : List (List ℕ)) → AreTracesOf bus passes traces → order ≡ order_of traces
  pub ran : run bus.instant order ≡ Some machine
  pub told : (j : ℕ) (p : VcpuPassData) → slice_get passes j ≡ Some p → IsTold bus.instant bus.run order machine (task_of p.view)
  pub picked : NonePending machine → (p : ℕ) → slice_get (book_of saver.view).picked p ≡ Some true → IsWritten bus.instant order p
  pub calm : NonePending machine → NoneWritten bus.instant order → (j : ℕ) (p : VcpuPassData) → slice_get passes j ≡ Some p → (task_of p.view).blocked ≡ 0
  pub phase : ((k : ℕ) → k < bus.instant.shape.vcpus → has_ended bus.instant bus.run machine k ≡ true) → Phase bus.instant bus.run order
