-- What a machine can serve, the cell of the request can.
use Rattle.std.proofs.Common.{◌≡◌, ℕ, ◌<◌, Some, arith, subst}
use Rattle.std.proofs.lemmas.Option.{none-some, same_Some}
use Rattle.ram_block.specs.AddressMap.{width_bytes, IsAccess, IsRamAccess}
use Rattle.ram_block.specs.Shape.{ShapeData, total_pages_of}
use Rattle.ram_block.specs.declared.place.Place.{Place}
use Rattle.ram_block.specs.declared.place.Place.TheVariants.{Ram, Serial, Timer}
use Rattle.ram_block.specs.declared.place.Way.{Way}
use Rattle.ram_block.specs.declared.place.Way.TheVariants as ways
use Rattle.ram_block.specs.declared.place.Width.{Width}
use Rattle.ram_block.specs.declared.place.Width.TheVariants.{One, Two, Four, Eight}
use Rattle.rv64i_decode.specs.declared.op.AmoOp.{AmoOp}
use Rattle.rv64i_step.specs.Request.{CanServe}
use Rattle.rv64i_step.specs.declared.request.Request.{Request}
use Rattle.rv64i_step.specs.declared.request.Request.TheVariants as requests
use Rattle.flat_machine.specs.Cell.{CellName, PageCell, SerialCell, TimerCell, cell_at}
use Rattle.flat_machine.specs.Fits.{IsInPage, FitsPage, FitsSerial, FitsTimer}
use Rattle.flat_machine.specs.Laws.{IsCellOf}
use Rattle.flat_machine.specs.Next.{cell_of}

-- a width moves a byte at least
some_bytes : (width : Width) → 0 < width_bytes width
some_bytes One = omega arith
some_bytes Two = omega arith
some_bytes Four = omega arith
some_bytes Eight = omega arith

-- a place in a page of the machine is one in a page
in_page : (shape : ShapeData) (width : Width) (page off : ℕ) → IsRamAccess shape width page off → IsInPage width off
in_page shape width page off access = (let some = some_bytes width in omega (arith, access.in_page, some), access.aligned)

-- the cell of this name can serve the request
abbrev pub FitsCell : CellName → Request → Type 0
FitsCell (PageCell p) request = FitsPage request
FitsCell SerialCell request = FitsSerial request
FitsCell TimerCell request = FitsTimer request

-- a load
load_fits : (shape : ShapeData) (place : Place) (width : Width) → CanServe shape (requests.Load place width) →
    FitsCell (cell_at place) (requests.Load place width)
load_fits shape (Ram page off) width can = in_page shape width page off can
load_fits shape (Serial reg) width can = can
load_fits shape (Timer reg) width can = can

-- a store
store_fits : (shape : ShapeData) (place : Place) (width : Width) (value : ℕ) → CanServe shape (requests.Store place width value) →
    FitsCell (cell_at place) (requests.Store place width value)
store_fits shape (Ram page off) width value can = in_page shape width page off can
store_fits shape (Serial reg) width value can = can
store_fits shape (Timer reg) width value can = can

-- an AMO, which no device has
amo_fits : (shape : ShapeData) (place : Place) (width : Width) (op : AmoOp) (value : ℕ) → CanServe shape (requests.Amo place width op value) →
    FitsCell (cell_at place) (requests.Amo place width op value)
amo_fits shape (Ram page off) width op value can = (in_page shape width page off can.0, can.1)
amo_fits shape (Serial reg) width op value can = absurd can.0
amo_fits shape (Timer reg) width op value can = absurd can.0

-- each request that a machine can serve, its cell can
pub fits : (shape : ShapeData) (r : Request) (c : CellName) → CanServe shape r → cell_of r ≡ Some c → FitsCell c r
unfolding cell_of
fits shape requests.Nothing c can is = absurd (none-some c is)
fits shape (requests.NoFetch cause) c can is = absurd (none-some c is)
fits shape (requests.Fetch page off) c can is =
    subst (λ (d : CellName). FitsCell d (requests.Fetch page off)) (same_Some (PageCell page) c is) (in_page shape Four page off can)
fits shape (requests.Load place width) c can is =
    subst (λ (d : CellName). FitsCell d (requests.Load place width)) (same_Some (cell_at place) c is) (load_fits shape place width can)
fits shape (requests.Store place width value) c can is =
    subst (λ (d : CellName). FitsCell d (requests.Store place width value)) (same_Some (cell_at place) c is) (store_fits shape place width value can)
fits shape (requests.Amo place width op value) c can is =
    subst (λ (d : CellName). FitsCell d (requests.Amo place width op value)) (same_Some (cell_at place) c is) (amo_fits shape place width op value can)

-- the cell of a place that a machine has
place_there : (shape : ShapeData) (width : Width) (way : Way) (place : Place) → IsAccess shape width way place → IsCellOf shape (cell_at place)
place_there shape width way (Ram page off) access = access.in_machine
place_there shape width way (Serial reg) access = tt
place_there shape width way (Timer reg) access = tt

-- and it is there
pub cell_there : (shape : ShapeData) (r : Request) (c : CellName) → CanServe shape r → cell_of r ≡ Some c → IsCellOf shape c
unfolding cell_of
cell_there shape requests.Nothing c can is = absurd (none-some c is)
cell_there shape (requests.NoFetch cause) c can is = absurd (none-some c is)
cell_there shape (requests.Fetch page off) c can is = subst (IsCellOf shape) (same_Some (PageCell page) c is) can.in_machine
cell_there shape (requests.Load place width) c can is = subst (IsCellOf shape) (same_Some (cell_at place) c is) (place_there shape width ways.Load place can)
cell_there shape (requests.Store place width value) c can is = subst (IsCellOf shape) (same_Some (cell_at place) c is) (place_there shape width ways.Store place can)
cell_there shape (requests.Amo place width op value) c can is = subst (IsCellOf shape) (same_Some (cell_at place) c is) (place_there shape width ways.Amo place can.0)

-- the three of a page, in the words of the code
pub fits_page : (shape : ShapeData) (r : Request) (p : ℕ) → CanServe shape r → cell_of r ≡ Some (PageCell p) → FitsPage r
fits_page shape r p can is = fits shape r (PageCell p) can is

pub page_there : (shape : ShapeData) (r : Request) (p : ℕ) → CanServe shape r → cell_of r ≡ Some (PageCell p) → p < total_pages_of shape
page_there shape r p can is = cell_there shape r (PageCell p) can is

pub fits_serial : (shape : ShapeData) (r : Request) → CanServe shape r → cell_of r ≡ Some SerialCell → FitsSerial r
fits_serial shape r can is = fits shape r SerialCell can is

pub fits_timer : (shape : ShapeData) (r : Request) → CanServe shape r → cell_of r ≡ Some TimerCell → FitsTimer r
fits_timer shape r can is = fits shape r TimerCell can is

-- all of them
pub ruleset serving = (fits_page, page_there, fits_serial, fits_timer)
