-- The bus that threads share and its passes, as plain data (this project's own, docs/ARCHITECTURE.md).
use Rattle.std.specs.Prelude.{◌≡◌, ℕ, ◌<◌, ◌≤◌, ◌^◌, Bool, List, [], length, Option, None}
use Rattle.atomic_table.specs.Seated.{TableId}
use Rattle.ram_block.specs.Shape.{ShapeData, IsShape, total_pages_of}
use Rattle.ram_block.specs.declared.limits.TheConstants.{MAX_PHASE}
use Rattle.rv64i_step.specs.Event.{IsServable}
use Rattle.rv64i_step.specs.Vcpu.{IsVcpu, boot_vcpu}
use Rattle.flat_machine.specs.Machine.{MachineData, IsMachine, Rest, boot}
use Rattle.page_cell.specs.declared.plant.Pick.{Pick}
use Rattle.bus_rule.specs.Kept.{cells_of}
use Rattle.bus_rule.specs.Plays.{first_book}
use Rattle.bus_rule.specs.Views.{Task, Book, Role, Working, Saving, PassData}

-- a bus: its table, the machine that it started at, how many instructions the phase has, and whether its pages were
-- protected at the start
pub record BusData : Type 0 where
  pub table : TableId
  pub instant : MachineData
  pub run : ℕ
  pub protect : Bool

-- a vCPU's pass: the table of its bus, and what it shows
pub record VcpuPassData : Type 0 where
  pub table : TableId
  pub view : PassData

-- the saver's pass; and how many picks there were, and what the last one answered
pub record SaverPassData : Type 0 where
  pub table : TableId
  pub view : PassData
  pub picks : ℕ
  pub last : Option Pick

-- a shape that no machine has
abbrev pub no_shape : ShapeData
no_shape = record { vcpus = 0; blocks = 0; pages = 0 }

-- what a vCPU's pass knows; of another pass nothing
abbrev pub task_in : Role → Task
task_in (Working t) = t
task_in _ = record { who = 0; shape = no_shape; vcpu = boot_vcpu 0; run = 0; until = 0; start = 0; trace = []; blocked = 0; wants = None }

abbrev pub task_of : PassData → Task
task_of p = task_in p.role

-- what the saver's pass knows; of another pass nothing
abbrev pub book_in : Role → Book
book_in (Saving b) = b
book_in _ = first_book (boot no_shape [] []) 0 Bool.false

abbrev pub book_of : PassData → Book
book_of p = book_in p.role

-- what each bus keeps: it started at a machine at rest
pub record IsBus (d : BusData) : Type 0 where
  pub machine : IsMachine d.instant
  pub rest : Rest d.instant
  pub run : d.run ≤ MAX_PHASE

-- what each vCPU's pass keeps in its caller's hand: it holds no cell, and its vCPU is within the limits and the phase
pub record IsVcpuPass (d : VcpuPassData) : Type 0 where
  pub role : d.view.role ≡ Working (task_of d.view)
  pub none_held : d.view.held ≡ []
  pub cells : d.table.slots ≡ cells_of (task_of d.view).shape
  pub shape : IsShape (task_of d.view).shape
  pub who : (task_of d.view).who < (task_of d.view).shape.vcpus
  pub vcpu : IsVcpu (task_of d.view).vcpu
  pub servable : IsServable (task_of d.view).shape (task_of d.view).vcpu
  pub steps : (task_of d.view).vcpu.steps ≤ (task_of d.view).until
  pub until : (task_of d.view).until < 2 ^ 63
  pub busy : d.view.busy < 2 ^ 64

-- what the saver's pass keeps there: it holds no cell, each vCPU's pass was split off it and none has joined, and it has
-- two flags for each page
pub record IsSaverPass (d : SaverPassData) : Type 0 where
  pub role : d.view.role ≡ Saving (book_of d.view)
  pub none_held : d.view.held ≡ []
  pub cells : d.table.slots ≡ cells_of (book_of d.view).instant.shape
  pub shape : IsShape (book_of d.view).instant.shape
  pub split : (book_of d.view).split ≡ length (book_of d.view).instant.vcpus
  pub joined : (book_of d.view).joined ≡ []
  pub writable : length (book_of d.view).writable ≡ total_pages_of (book_of d.view).instant.shape
  pub picked : length (book_of d.view).picked ≡ total_pages_of (book_of d.view).instant.shape
  pub busy : d.view.busy < 2 ^ 64

-- what no call but a close changes of a vCPU's pass: its bus, which vCPU it is of, and its phase
pub record VcpuKey : Type 0 where
  pub table : TableId
  pub who : ℕ
  pub shape : ShapeData
  pub run : ℕ
  pub until : ℕ
  pub start : ℕ

abbrev pub vcpu_key : VcpuPassData → VcpuKey
vcpu_key d = record {
  table = d.table;
  who = (task_of d.view).who;
  shape = (task_of d.view).shape;
  run = (task_of d.view).run;
  until = (task_of d.view).until;
  start = (task_of d.view).start;
}

-- and of the saver's: its bus, the instant and the length of the phase, how many passes were split off it, and those
-- that joined
pub record SaverKey : Type 0 where
  pub table : TableId
  pub instant : MachineData
  pub run : ℕ
  pub split : ℕ
  pub joined : List Task

abbrev pub saver_key : SaverPassData → SaverKey
saver_key d = record {
  table = d.table;
  instant = (book_of d.view).instant;
  run = (book_of d.view).run;
  split = (book_of d.view).split;
  joined = (book_of d.view).joined;
}
