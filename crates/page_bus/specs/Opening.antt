-- The bus and its passes at the start (this project's own, docs/ARCHITECTURE.md).
use Rattle.std.specs.Prelude.{◌≡◌, ℕ, Bool, List, length, slice_get, Some, None}
use Rattle.atomic_table.specs.Seated.{TableId}
use Rattle.rv64i_step.specs.Vcpu.{VcpuData}
use Rattle.flat_machine.specs.Machine.{MachineData}
use Rattle.bus_rule.specs.Plays.{first_book, first_task, idle_pass}
use Rattle.bus_rule.specs.Views.{Book, Saving, Working}
use Rattle.page_bus.specs.Passes.{BusData, VcpuPassData, SaverPassData}

-- the saver's book, once the passes of so many vCPUs were split off
abbrev pub book_from : MachineData → ℕ → Bool → ℕ → Book
book_from i run protect split = record (first_book i run protect) { split = split }

-- the pass of vCPU k, which is v
abbrev pub vcpu_pass_from : TableId → MachineData → ℕ → Bool → ℕ → VcpuData → VcpuPassData
vcpu_pass_from table i run protect k v = record { table = table; view = idle_pass (Working (first_task (first_book i run protect) k v)) }

-- the saver's pass, when each vCPU's was split off
abbrev pub saver_pass_from : TableId → MachineData → ℕ → Bool → SaverPassData
saver_pass_from table i run protect = record {
  table = table;
  view = idle_pass (Saving (book_from i run protect (length i.vcpus)));
  picks = 0;
  last = None;
}

-- pass k of the list is that of vCPU k, and there is one of each of so many
pub record ArePassesFrom (table : TableId) (i : MachineData) (run : ℕ) (protect : Bool) (count : ℕ) (passes : List VcpuPassData) : Type 0 where
  pub counted : length passes ≡ count
  pub each : (k : ℕ) (p : VcpuPassData) → slice_get passes k ≡ Some p → (v : VcpuData) × (slice_get i.vcpus k ≡ Some v) × (p ≡ vcpu_pass_from table i run protect k v)

-- the bus and its passes
pub record IsOpened (i : MachineData) (run : ℕ) (protect : Bool) (bus : BusData) (passes : List VcpuPassData) (saver : SaverPassData) : Type 0 where
  pub bus_from : bus ≡ record { table = bus.table; instant = i; run = run; protect = protect }
  pub passes_from : ArePassesFrom bus.table i run protect (length i.vcpus) passes
  pub saver_from : saver ≡ saver_pass_from bus.table i run protect
