-- One event of the machine (this project's own events, docs/MACHINE.md).
use Rattle.std.specs.Prelude.{ℕ, ◌+◌, slice_get, slice_set, Option, Some, None}
use Rattle.ram_block.specs.Shape.{ShapeData}
use Rattle.rv64i_step.specs.Event.{request_of, fetched_vcpu, accessed_vcpu}
use Rattle.rv64i_step.specs.Vcpu.{VcpuData}
use Rattle.rv64i_step.specs.declared.request.Request.{Request}
use Rattle.rv64i_step.specs.declared.request.Request.TheVariants.{Nothing, NoFetch, Fetch, Load, Store, Amo}
use Rattle.flat_machine.specs.Cell.{CellName, PageCell, cell_at, content, content_after, gives, with_content}
use Rattle.flat_machine.specs.Machine.{MachineData}

-- the cell that an event with this request touches, where it touches one
unfoldable pub cell_of : Request → Option CellName
cell_of Nothing = None
cell_of (NoFetch cause) = None
cell_of (Fetch page off) = Some (PageCell page)
cell_of (Load place width) = Some (cell_at place)
cell_of (Store place width value) = Some (cell_at place)
cell_of (Amo place width op value) = Some (cell_at place)

-- the vCPU after an event with this request, of the value that the cell gave
unfoldable pub vcpu_after : ShapeData → VcpuData → Request → ℕ → VcpuData
vcpu_after shape v (Fetch page off) word = fetched_vcpu shape v (Some word)
vcpu_after shape v _ value = accessed_vcpu v value

-- the machine with vCPU k changed, after one event more
abbrev pub after_event : MachineData → ℕ → VcpuData → MachineData
after_event m k v = record m { vcpus = slice_set m.vcpus k v; clock = m.clock + 1 }

-- the machine after an event of vCPU k that touches a cell: one write to the cell, one to the vCPU, and the clock
abbrev pub after_cell_event : MachineData → ℕ → VcpuData → Request → CellName → MachineData
after_cell_event m k v request cell =
    after_event (with_content m cell (content_after request (content m cell))) k
    (vcpu_after m.shape v request (gives request (content m cell) m.clock))

-- the machine after the event of vCPU k with this request
abbrev pub event_with : MachineData → ℕ → VcpuData → Request → Option MachineData
event_with m k v Nothing = None
event_with m k v (NoFetch cause) = Some (after_event m k (fetched_vcpu m.shape v None))
event_with m k v (Fetch page off) = Some (after_cell_event m k v (Fetch page off) (PageCell page))
event_with m k v (Load place width) = Some (after_cell_event m k v (Load place width) (cell_at place))
event_with m k v (Store place width value) = Some (after_cell_event m k v (Store place width value) (cell_at place))
event_with m k v (Amo place width op value) = Some (after_cell_event m k v (Amo place width op value) (cell_at place))

-- the same, of the vCPU if it is there
abbrev pub event_of : MachineData → ℕ → Option VcpuData → Option MachineData
event_of m k None = None
event_of m k (Some v) = event_with m k v (request_of m.shape v)

-- the machine after one event of vCPU k; none where it is halted
unfoldable pub next : MachineData → ℕ → Option MachineData
next m k = event_of m k (slice_get m.vcpus k)
