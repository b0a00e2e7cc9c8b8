-- The saver's end of the bus as a plant (this project's own, docs/ARCHITECTURE.md).
use Rattle.std.specs.Prelude.{◌≡◌, ℕ, true, false, List, [], length, replicate, slice_get, Some, None}
use Rattle.atomic_table.specs.Seated.{TableId}
use Rattle.ram_block.specs.Shape.{total_pages_of}
use Rattle.flat_machine.specs.Machine.{MachineData, boot, page_of}
use Rattle.page_cell.specs.Core.{is_protected}
use Rattle.page_cell.specs.Plant.{PlantState, pages_of}
use Rattle.page_bus.specs.Passes.{BusData, SaverPassData, SaverKey, IsSaverPass, book_of, no_shape, saver_key}
use Rattle.page_bus.specs.Saves.{pages_of_book}

-- the list has one member for each page, and each protected page has its bytes of the instant in it
pub record StandsFor (d : SaverPassData) (pages : List (List ℕ)) : Type 0 where
  pub count : length pages ≡ pages_of_book (book_of d.view)
  pub each : (p : ℕ) → is_protected (book_of d.view).writable p ≡ true → slice_get pages p ≡ Some (page_of (book_of d.view).instant p)

-- the pass is one of this bus
pub record IsPassOf (bus : BusData) (d : SaverPassData) : Type 0 where
  pub table : d.table ≡ bus.table
  pub pass : IsSaverPass d

-- what neither a pick nor a take changes: the bus, and of the saver's pass what no call changes
pub record EndData : Type 0 where
  pub bus : BusData
  pub key : SaverKey

abbrev pub rest_of : BusData → SaverPassData → EndData
rest_of bus d = record { bus = bus; key = saver_key d }

-- what the end shows: the queue isn't told
abbrev pub end_state : BusData → SaverPassData → PlantState EndData
end_state bus d = record {
  total = pages_of_book (book_of d.view);
  writable = (book_of d.view).writable;
  picked = (book_of d.view).picked;
  busy = d.view.busy;
  rest = rest_of bus d;
  stands = StandsFor d;
  fits = IsPassOf bus d;
  picks = d.picks;
  last = d.last;
  queue = None;
}

-- the rest that no end has
abbrev pub no_table : TableId
no_table = record { words = 0; slots = 0; views_name = 0; atom = 0; block = 0; offset = 0; slot_names = [] }

abbrev pub no_rest : EndData
no_rest = record {
  bus = record { table = no_table; instant = boot no_shape [] []; run = 0; protect = false };
  key = record { table = no_table; instant = boot no_shape [] []; run = 0; split = 0; joined = [] };
}

-- the plant is as a start with protection leaves it for a save of machine i: every page is protected, and it stands for
-- the pages of i
pub record IsAtStart {R : Type 0} (i : MachineData) (plant : PlantState R) : Type 0 where
  pub fits : plant.fits
  pub total : plant.total ≡ total_pages_of i.shape
  pub protected : plant.writable ≡ replicate plant.total false
  pub stands : plant.stands (pages_of i)
