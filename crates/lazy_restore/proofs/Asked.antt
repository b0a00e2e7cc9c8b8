-- The page that the next event of a vCPU touches, by its request.
use Rattle.std.proofs.Common.{◌≡◌, ℕ, ◌<◌, ◌≤◌, length, Option, Some, None, IfSome, sym, ◌∙◌, ap, arith}
use Rattle.std.specs.Prelude.{slice_get}
use Rattle.std.proofs.lemmas.Nat.{mul-le}
use Rattle.std.proofs.lemmas.Map.Steps.{length-le_from_distinct_below}
use Rattle.ram_block.proofs.LinkedPages.{listed_below}
use Rattle.ram_block.specs.Shape.{ShapeData, total_pages_of}
use Rattle.rv64i_step.specs.Event.{IsServable, request_of}
use Rattle.rv64i_step.specs.Request.{CanServe}
use Rattle.rv64i_step.specs.Vcpu.{VcpuData}
use Rattle.rv64i_step.specs.declared.request.Request.{Request}
use Rattle.flat_machine.specs.Cell.{CellName, PageCell, SerialCell, TimerCell}
use Rattle.flat_machine.specs.Laws.{event_cell}
use Rattle.flat_machine.specs.Machine.{IsMachine, MachineData}
use Rattle.flat_machine.specs.Next.{cell_of}
use Rattle.flat_machine.proofs.Frames.{event_cell-is}
use Rattle.flat_machine.proofs.Outcomes.{All-slice_get}
use Rattle.flat_machine.proofs.Served as served
use Rattle.lazy_restore.specs.Lazy.{IsLazy, LazyData, page_of_cell}

-- a cell that is a page
pub cell_is_page : (c : Option CellName) (p : ℕ) → page_of_cell c ≡ Some p → c ≡ Some (PageCell p)
cell_is_page None p is = absurd (cc)
cell_is_page (Some (PageCell q)) p is = cc
cell_is_page (Some SerialCell) p is = absurd (cc)
cell_is_page (Some TimerCell) p is = absurd (cc)

-- the page of an event is that of its request
pub page_asked : (m : MachineData) (k : ℕ) (v : VcpuData) (r : Request) (page : Option ℕ) → slice_get m.vcpus k ≡ Some v → r ≡ request_of m.shape v → page ≡ page_of_cell (cell_of r) → page ≡ page_of_cell (event_cell m k)
page_asked m k v r page stood asks is = is ∙ ap page_of_cell (sym (event_cell-is m k v r stood (sym asks)))

-- and is one of the machine's
pub page_there : (shape : ShapeData) (r : Request) (page : Option ℕ) → CanServe shape r → page ≡ page_of_cell (cell_of r) → IfSome page (λ p. p < total_pages_of shape)
page_there shape r None can is = tt
page_there shape r (Some p) can is = served.page_there shape r p can (cell_is_page (cell_of r) p (sym is))

-- a machine can serve what its vCPUs ask
pub asked_can : (m : MachineData) (k : ℕ) (v : VcpuData) → IsMachine m → slice_get m.vcpus k ≡ Some v → IsServable m.shape v
asked_can m k v is stood = All-slice_get (IsServable m.shape) m.vcpus k v is.servable stood

-- no more pages are touched than there are
pub few_touched : (d : LazyData) → IsLazy d → length d.touched ≤ 16384
few_touched d lazy =
    let most = length-le_from_distinct_below d.touched (total_pages_of d.machine.shape) lazy.distinct (listed_below (total_pages_of d.machine.shape) d.touched lazy.below) in
    omega (arith, most, mul-le d.machine.shape.blocks d.machine.shape.pages 8 2048 lazy.machine.shape.blocks.1 lazy.machine.shape.pages.1)
