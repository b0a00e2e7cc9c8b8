-- What a seat and the fields of a pass have to do with one another while a call goes on.
use Rattle.std.specs.Prelude.{◌≡◌, ℕ, false, [], ◌∷◌, length, Some}
use Rattle.atomic_table.specs.Seated.{TableId}
use Rattle.ram_block.specs.Shape.{ShapeData, total_pages_of}
use Rattle.rv64i_step.specs.Event.{IsStage}
use Rattle.rv64i_step.specs.Request.{CanServe}
use Rattle.rv64i_step.specs.declared.request.Request.{Request}
use Rattle.flat_machine.specs.Cell.{CellName}
use Rattle.flat_machine.specs.Next.{cell_of}
use Rattle.flat_machine.specs.Run.{vcpu_ended}
use Rattle.bus_rule.specs.Kept.{cell_number, cells_of}
use Rattle.bus_rule.specs.Tells.{PassMe, top_of}
use Rattle.bus_rule.specs.Views.{PassData, Working, Saving, request_in}
use Rattle.page_bus.specs.Passes.{task_of, book_of}
use Rattle.page_bus.specs.Traced.{TracedData, IsTraced, traced_of}

-- the view, with no cell held
abbrev pub emptied : PassData → PassData
emptied p = record p { held = [] }

-- a vCPU's seat knows what is kept of its vCPU
pub record IsWorking (table : TableId) (p : PassData) (d : TracedData) : Type 0 where
  pub role : p.role ≡ Working (task_of p)
  pub traced : d ≡ traced_of (task_of p)
  pub within : IsTraced d
  pub cells : table.slots ≡ cells_of d.shape

-- and holds no cell
pub record IsTied (table : TableId) (me : PassMe) (d : TracedData) : Type 0 where
  pub working : IsWorking table me.0 d
  pub none_held : me.0.held ≡ []
  pub out : me.1 ≡ []

-- a seat holds this cell alone
pub record HoldsOne (me : PassMe) (c : ℕ) : Type 0 where
  pub held : me.0.held ≡ (c, top_of me.1) ∷ []
  pub out : me.1 ≡ (c, top_of me.1) ∷ []

-- the vCPU's phase has not ended, and this is the request of its next event
pub record IsAsking (d : TracedData) (p : PassData) (request : Request) : Type 0 where
  pub going : vcpu_ended d.until d.vcpu ≡ false
  pub asks : request ≡ request_in (task_of p)
  pub stage : IsStage d.vcpu request
  pub can : CanServe d.shape request

-- the request touches the cell of this number
pub record IsTouched (shape : ShapeData) (request : Request) (c : ℕ) : Type 0 where
  pub name : CellName
  pub touches : cell_of request ≡ Some name
  pub number : c ≡ cell_number (total_pages_of shape) name

-- the saver's seat is one of a machine of this shape
pub record IsSaving (table : TableId) (p : PassData) (shape : ShapeData) : Type 0 where
  pub role : p.role ≡ Saving (book_of p)
  pub shape_is : shape ≡ (book_of p).instant.shape
  pub cells : table.slots ≡ cells_of shape
  pub writable : length (book_of p).writable ≡ total_pages_of shape
  pub picked : length (book_of p).picked ≡ total_pages_of shape

-- and holds no cell
pub record IsIdleSaver (table : TableId) (me : PassMe) (shape : ShapeData) : Type 0 where
  pub saving : IsSaving table me.0 shape
  pub none_held : me.0.held ≡ []
  pub out : me.1 ≡ []
