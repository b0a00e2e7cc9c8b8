-- What a request is of, and when it can be served (this project's own events and device table, docs/MACHINE.md).
use Rattle.std.specs.Prelude.{◌≡◌, ◌⊎◌, ℕ, Option, Some, None}
use Rattle.ram_block.specs.AddressMap.{IsAccess}
use Rattle.ram_block.specs.Shape.{ShapeData}
use Rattle.ram_block.specs.declared.place.Place.{Place}
use Rattle.ram_block.specs.declared.place.Place.TheVariants.{Ram}
use Rattle.ram_block.specs.declared.place.Way.TheVariants as ways
use Rattle.ram_block.specs.declared.place.Width.TheVariants.{Four, Eight}
use Rattle.rv64i_step.specs.declared.request.Request.{Request}
use Rattle.rv64i_step.specs.declared.request.Request.TheVariants.{Fetch, Load, Store, Amo}

-- a machine of this shape can serve the request: at a multiple of the width in one page that it has, or as the device
-- table has it; an AMO is of four bytes or eight
abbrev pub CanServe : ShapeData → Request → Type 0
CanServe shape (Fetch page off) = IsAccess shape Four ways.Fetch (Ram page off)
CanServe shape (Load place width) = IsAccess shape width ways.Load place
CanServe shape (Store place width value) = IsAccess shape width ways.Store place
CanServe shape (Amo place width op value) = IsAccess shape width ways.Amo place × ((width ≡ Four) ⊎ (width ≡ Eight))
CanServe shape request = Unit {0}

-- the page of a place in RAM
abbrev pub ram_page : Place → Option ℕ
ram_page (Ram page off) = Some page
ram_page place = None

-- the page that a request writes: that of a store or an AMO in RAM
abbrev pub written_page : Request → Option ℕ
written_page (Store place width value) = ram_page place
written_page (Amo place width op value) = ram_page place
written_page request = None
