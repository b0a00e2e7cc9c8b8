-- What the laws of events and runs say (this project's own events, docs/MACHINE.md).
use Rattle.std.specs.Prelude.{◌≡◌, ◌≢◌, ℕ, ◌+◌, ◌*◌, ◌^◌, ◌<◌, ◌≤◌, List, length, slice_get, All, Option, Some, None, IsSome}
use Rattle.ram_block.specs.Shape.{ShapeData, ram_bytes_of, total_pages_of}
use Rattle.ram_block.specs.declared.page_buf.TheConstants.{PAGE}
use Rattle.rv64i_step.specs.Event.{IsServable, request_of}
use Rattle.rv64i_step.specs.Outcome.{FetchOutcome, Finishes}
use Rattle.rv64i_step.specs.Request.{written_page}
use Rattle.rv64i_step.specs.Vcpu.{VcpuData}
use Rattle.rv64i_step.specs.declared.state.State.TheVariants.{Running}
use Rattle.flat_machine.specs.Cell.{CellName, PageCell, SerialCell, TimerCell, Content, Page, Serial, Timer, content}
use Rattle.flat_machine.specs.Machine.{MachineData}
use Rattle.flat_machine.specs.Next.{cell_of, next}

-- the cell is one of a machine of this shape, and the content is one of that cell: a whole page, or a device
abbrev pub IsContentOf : ShapeData → CellName → Content → Type 0
IsContentOf shape (PageCell p) (Page bytes) = (p < total_pages_of shape) × (length bytes ≡ PAGE)
IsContentOf shape SerialCell (Serial s) = Unit {0}
IsContentOf shape TimerCell (Timer cmp) = Unit {0}
IsContentOf shape _ _ = ⊥

-- what the laws of an event need of a machine, and each event keeps: RAM has the bytes of its shape, and each pending
-- access can be served
pub record ServesAll (m : MachineData) : Type 0 where
  pub ram : length m.ram ≡ ram_bytes_of m.shape
  pub each : All (IsServable m.shape) m.vcpus

-- what one event makes of its vCPU: from a fetch one of three outcomes, and a pending access is made
pub data EventOutcome (v after : VcpuData) : Type 0 where
  OfFetch : v.pending ≡ None → FetchOutcome v after → EventOutcome v after
  OfAccess : IsSome v.pending → Finishes v after → EventOutcome v after

-- vCPU k ran before the event, and what it is afterwards
pub record HasEvent (m : MachineData) (k : ℕ) (after : MachineData) : Type 0 where
  pub was : VcpuData
  pub stood : slice_get m.vcpus k ≡ Some was
  pub ran : was.state ≡ Running
  pub is : VcpuData
  pub stands : slice_get after.vcpus k ≡ Some is
  pub outcome : EventOutcome was is

-- the cell that the next event of vCPU k touches, where it touches one
abbrev pub cell_of_next : ShapeData → Option VcpuData → Option CellName
cell_of_next shape None = None
cell_of_next shape (Some v) = cell_of (request_of shape v)

unfoldable pub event_cell : MachineData → ℕ → Option CellName
event_cell m k = cell_of_next m.shape (slice_get m.vcpus k)

-- the page that the next event of vCPU k writes, where it writes one
abbrev pub written_page_of_next : ShapeData → Option VcpuData → Option ℕ
written_page_of_next shape None = None
written_page_of_next shape (Some v) = written_page (request_of shape v)

unfoldable pub event_written_page : MachineData → ℕ → Option ℕ
event_written_page m k = written_page_of_next m.shape (slice_get m.vcpus k)

-- an event leaves every other vCPU, and every cell but the one that it touches
pub record KeepsRest (m : MachineData) (k : ℕ) (after : MachineData) : Type 0 where
  pub shape : after.shape ≡ m.shape
  pub clock : after.clock ≡ m.clock + 1
  pub count : length after.vcpus ≡ length m.vcpus
  pub vcpus : (j : ℕ) → j ≢ k → slice_get after.vcpus j ≡ slice_get m.vcpus j
  pub ram : length after.ram ≡ length m.ram
  pub cells : (d : CellName) → event_cell m k ≢ Some d → content after d ≡ content m d

-- a run keeps the shape, as many vCPUs and bytes of RAM, and the clock counts its events
pub record KeepsSizes (m : MachineData) (o : List ℕ) (after : MachineData) : Type 0 where
  pub shape : after.shape ≡ m.shape
  pub vcpus : length after.vcpus ≡ length m.vcpus
  pub ram : length after.ram ≡ length m.ram
  pub clock : after.clock ≡ m.clock + length o

-- two machines have the same in all that the next event of vCPU k depends on
pub record AgreesAt (m other : MachineData) (k : ℕ) : Type 0 where
  pub shape : other.shape ≡ m.shape
  pub clock : other.clock ≡ m.clock
  pub vcpu : slice_get other.vcpus k ≡ slice_get m.vcpus k
  pub cell : (c : CellName) → event_cell m k ≡ Some c → content other c ≡ content m c

-- the event of vCPU k of the other machine makes the same of the vCPU, and of the cell that it touches
pub record MakesTheSame (m : MachineData) (k : ℕ) (after other : MachineData) : Type 0 where
  pub other_after : MachineData
  pub moved : next other k ≡ Some other_after
  pub vcpu : slice_get other_after.vcpus k ≡ slice_get after.vcpus k
  pub cell : (c : CellName) → event_cell m k ≡ Some c → content other_after c ≡ content after c

-- the cell is one of a machine of this shape
abbrev pub IsCellOf : ShapeData → CellName → Type 0
IsCellOf shape (PageCell p) = p < total_pages_of shape
IsCellOf shape SerialCell = Unit {0}
IsCellOf shape TimerCell = Unit {0}

-- two machines have the same shape, vCPUs and clock, RAM of their shape's size, and the same in each cell
pub record HasTheSame (m other : MachineData) : Type 0 where
  pub shape : other.shape ≡ m.shape
  pub vcpus : other.vcpus ≡ m.vcpus
  pub clock : other.clock ≡ m.clock
  pub ram : length m.ram ≡ ram_bytes_of m.shape
  pub other_ram : length other.ram ≡ ram_bytes_of other.shape
  pub cells : (c : CellName) → IsCellOf m.shape c → content other c ≡ content m c

-- a phase of n instructions from the machine ends within the limits of rest
pub record HasRoom (m : MachineData) (n : ℕ) : Type 0 where
  pub clock : m.clock + 2 * n * m.shape.vcpus ≤ 2 ^ 62
  pub steps : All (λ v. v.steps + n ≤ 2 ^ 62) m.vcpus
