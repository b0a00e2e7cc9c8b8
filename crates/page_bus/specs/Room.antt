-- All the memory that a bus needs.
use Rattle.std.specs.Prelude.{◌≡◌, ℕ, ◌+◌, ◌*◌, ◌≤◌, List, [], ◌∷◌, length, replicate, slice_get, Some, vec_capacity}
use Rattle.ram_block.specs.Shape.{total_pages_of}
use Rattle.rv64i_step.specs.Vcpu.{VcpuData}
use Rattle.flat_machine.specs.Machine.{MachineData}
use Rattle.flat_machine.specs.Run.{steps_of}
use Rattle.bus_rule.specs.Kept.{cells_of}
use Rattle.page_bus.specs.Traced.{TracedData}
use Rattle.page_bus.specs.declared.room.KeptRoom.{KeptRoom}
use Rattle.page_bus.specs.declared.room.Room.{Room}

-- vCPU k of the machine, which is v, before its first event
abbrev pub traced_from : MachineData → ℕ → ℕ → VcpuData → TracedData
traced_from m run k v = record {
  who = k;
  shape = m.shape;
  vcpu = v;
  run = run;
  until = steps_of m k + run;
  start = m.clock;
  numbers = [];
  blocked = 0;
}

-- vCPU k of the list is vCPU k of the machine
pub record AreTracedFrom (m : MachineData) (run : ℕ) (traced : List TracedData) : Type 0 where
  pub each : (k : ℕ) (d : TracedData) → slice_get traced k ≡ Some d → (v : VcpuData) × (slice_get m.vcpus k ≡ Some v) × (d ≡ traced_from m run k v)

-- what a bus and its passes keep: it is for the machine and a phase of so many instructions
pub record IsKeptRoom (m : MachineData) (run : ℕ) (r : KeptRoom) : Type 0 where
  pub cells : r.cells.items ≡ []
  pub cells_room : cells_of m.shape ≤ vec_capacity r.cells
  pub traced : AreTracedFrom m run r.traced.items
  pub count : length r.traced.items ≡ length m.vcpus
  pub passes : r.passes.items ≡ []
  pub passes_room : length m.vcpus ≤ vec_capacity r.passes
  pub order : r.order ≡ record { members = []; room = 2 * run * m.shape.vcpus }

-- and what the table is made of
pub record IsRoomFor (m : MachineData) (run : ℕ) (r : Room) : Type 0 where
  pub words : r.words.items ≡ m.clock ∷ replicate (cells_of m.shape) 0
  pub cells : r.cells.items ≡ []
  pub cells_room : cells_of m.shape ≤ vec_capacity r.cells
  pub faults : r.faults ≡ record { pages = total_pages_of m.shape; list = [] }
  pub kept : IsKeptRoom m run r.kept
