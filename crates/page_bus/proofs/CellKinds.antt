-- What a cell contains, by its number.
use Rattle.std.proofs.Common.{◌≡◌, ℕ, ◌+◌, ◌<◌, List, length, Some, refl, subst, arith}
use Rattle.ram_block.specs.Shape.{ShapeData, total_pages_of}
use Rattle.ram_block.specs.declared.page_buf.TheConstants.{PAGE}
use Rattle.rv64i_step.specs.Request.{CanServe}
use Rattle.rv64i_step.specs.declared.request.Request.{Request}
use Rattle.flat_machine.specs.Cell.{CellName, PageCell, SerialCell, TimerCell}
use Rattle.flat_machine.specs.Next.{cell_of}
use Rattle.flat_machine.proofs.Served as served
use Rattle.wp_fault.specs.Queue.{QueueData}
use Rattle.page_cell.specs.Cell.{FitsCell}
use Rattle.page_cell.specs.declared.cell.Cell.{Cell}
use Rattle.page_cell.specs.declared.cell.Cell.TheVariants as cells
use Rattle.page_cell.specs.declared.phase.Phase.{Phase}
use Rattle.bus_rule.specs.Kept.{cell_number, queue_number}
use Rattle.bus_rule.specs.Plays.{IsKind}

-- a page
pub record IsPageOf (x : Cell) : Type 0 where
  pub bytes : List ℕ
  pub phase : Phase
  pub is : x ≡ cells.Page bytes phase
  pub whole : length bytes ≡ PAGE

pub page_kind : (pages c : ℕ) (x : Cell) → c < pages → IsKind pages c x → IsPageOf x
page_kind pages c (cells.Page bytes phase) below kind = record { bytes = bytes; phase = phase; is = refl; whole = kind.1 }
page_kind pages c (cells.Serial s) below kind = absurd (omega (arith, below, kind))
page_kind pages c (cells.Timer cmp) below kind = absurd (omega (arith, below, kind))
page_kind pages c (cells.Faults q) below kind = absurd (let k = kind.0 in omega (arith, below, k))

-- the queue
pub record IsQueueOf (pages : ℕ) (x : Cell) : Type 0 where
  pub queue : QueueData
  pub is : x ≡ cells.Faults queue
  pub of : queue.pages ≡ pages

pub queue_kind : (pages c : ℕ) (x : Cell) → c ≡ queue_number pages → IsKind pages c x → IsQueueOf pages x
queue_kind pages c (cells.Page bytes phase) number kind = absurd (let k = kind.0 in omega (arith, number, k))
queue_kind pages c (cells.Serial s) number kind = absurd (omega (arith, number, kind))
queue_kind pages c (cells.Timer cmp) number kind = absurd (omega (arith, number, kind))
queue_kind pages c (cells.Faults q) number kind = record { queue = q; is = refl; of = kind.1 }

-- the cell of a request that the machine can serve fits it
kind_fits : (shape : ShapeData) (r : Request) (name : CellName) (x : Cell) → CanServe shape r → cell_of r ≡ Some name →
    IsKind (total_pages_of shape) (cell_number (total_pages_of shape) name) x → FitsCell r x
kind_fits shape r (PageCell p) (cells.Page bytes phase) can is kind = served.fits_page shape r p can is
kind_fits shape r (PageCell p) (cells.Serial s) can is kind = absurd (let h = served.page_there shape r p can is in omega (arith, h, kind))
kind_fits shape r (PageCell p) (cells.Timer cmp) can is kind = absurd (let h = served.page_there shape r p can is in omega (arith, h, kind))
kind_fits shape r (PageCell p) (cells.Faults q) can is kind = absurd (let h = served.page_there shape r p can is in let k = kind.0 in omega (arith, h, k))
kind_fits shape r SerialCell (cells.Page bytes phase) can is kind = absurd (let k = kind.0 in omega (arith, k))
kind_fits shape r SerialCell (cells.Serial s) can is kind = served.fits_serial shape r can is
kind_fits shape r SerialCell (cells.Timer cmp) can is kind = absurd (omega (arith, kind))
kind_fits shape r SerialCell (cells.Faults q) can is kind = absurd (let k = kind.0 in omega (arith, k))
kind_fits shape r TimerCell (cells.Page bytes phase) can is kind = absurd (let k = kind.0 in omega (arith, k))
kind_fits shape r TimerCell (cells.Serial s) can is kind = absurd (omega (arith, kind))
kind_fits shape r TimerCell (cells.Timer cmp) can is kind = served.fits_timer shape r can is
kind_fits shape r TimerCell (cells.Faults q) can is kind = absurd (let k = kind.0 in omega (arith, k))

pub fits_of_kind : (shape : ShapeData) (r : Request) (c : ℕ) (name : CellName) (x : Cell) → CanServe shape r → cell_of r ≡ Some name →
    c ≡ cell_number (total_pages_of shape) name → IsKind (total_pages_of shape) c x → FitsCell r x
fits_of_kind shape r c name x can is number kind = kind_fits shape r name x can is (subst (λ (n : ℕ). IsKind (total_pages_of shape) n x) number kind)

-- a cell of the machine is one of the table
pub cell_below : (shape : ShapeData) (r : Request) (name : CellName) → CanServe shape r → cell_of r ≡ Some name →
    cell_number (total_pages_of shape) name < total_pages_of shape + 3
cell_below shape r (PageCell p) can is = let h = served.page_there shape r p can is in omega (arith, h)
cell_below shape r SerialCell can is = omega arith
cell_below shape r TimerCell can is = omega arith
