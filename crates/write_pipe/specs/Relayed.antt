-- What a phase with a relayed save gives, and what its workers leave (this project's own, docs/ARCHITECTURE.md).
use Rattle.std.specs.Prelude.{◌≡◌, ℕ, ◌+◌, Bool, true, List, [], slice_get, Some, None}
use Rattle.std.specs.List.{count_by}
use Rattle.ram_block.specs.Shape.{total_pages_of}
use Rattle.medium.specs.Members.{file_state}
use Rattle.medium.specs.declared.readable.Readable as readable
use Rattle.flat_machine.specs.Machine.{MachineData}
use Rattle.page_cell.specs.Plant.{PlantState}
use Rattle.page_bus.specs.Passes.{BusData, SaverPassData, book_of, saver_key}
use Rattle.page_bus.specs.Plant.{EndData, IsPassOf, StandsFor}
use Rattle.page_bus.specs.Saves.{pages_of_book}
use Rattle.bg_saver.specs.Saver.{SaverData}
use Rattle.bg_saver.specs.declared.counts.Counts.{Counts}
use Rattle.bg_saver.specs.declared.save_job.PhaseOut.{PhaseOut}
use Rattle.bg_saver.specs.declared.save_job.SaveJob.{SaveJob}
use Rattle.sliced_run.specs.Phase.{LeavesFile}
use Rattle.bg_run.specs.Phase.{IsBounded}
use Rattle.bg_run.specs.declared.owned_end.OwnedEnd.{OwnedEnd}
use Rattle.write_pipe.specs.CopyEnd.{CopyData, IsCopyEnd, IsOfCopy}
use Rattle.write_pipe.specs.Outlet.{OutletData}
use Rattle.write_pipe.specs.WriteEnd.{WriteData, write_state}

-- ---- The phase

-- The save of machine i over a relay ended as its saver did. Each page is counted, however it ended, since each is copied.
pub record EndsRelayed (i : MachineData) (saver : SaverData) (out : PhaseOut) : Type 0 where
  pub ended : (out.saved ≡ None) → ⊥
  pub saved : out.saved ≡ saver.end
  pub all : out.counts.faults + out.counts.sweep ≡ total_pages_of i.shape
  pub bounds : IsBounded i out

-- the job is the one with the same file, which is left as a second phase from machine i leaves it
pub record LeavesRelayed {M : Type 0} (g : readable.Ghosts M) (i : MachineData) (old new : SaveJob M SaverData) (out : PhaseOut) : Type 0 where
  pub same_file : new.medium.ghost_name ≡ old.medium.ghost_name
  pub ends : EndsRelayed i new.saver out
  pub file : LeavesFile i out.saved (file_state g old.medium.now) (file_state g new.medium.now)

-- ---- The workers

module _ {P : Type 0} (count : P → ℕ) (stood : P → List (List ℕ) → Type 0) where
  -- every page went in: none is left, and none is in hand; what no call changes of plant and end is as before
  pub record CopiesAll {R : Type 0} (old : CopyData P) (plant : PlantState R) (new : CopyData P) (now : PlantState R) : Type 0 where
    pub rest : now.rest ≡ plant.rest
    pub from : new.inlet.from ≡ old.inlet.from
    pub of_copy : IsOfCopy count stood new now
    pub limits : IsCopyEnd count stood new
    pub left : new.left ≡ []
    pub none_held : new.hand ≡ None

-- the bus as a saver sees it, as a plant
abbrev pub end_total : OwnedEnd → ℕ
end_total end = pages_of_book (book_of end.pass.view)

abbrev pub end_writable : OwnedEnd → List Bool
end_writable end = (book_of end.pass.view).writable

abbrev pub end_stands : OwnedEnd → List (List ℕ) → Type 0
end_stands end = StandsFor end.pass

abbrev pub end_fits : OwnedEnd → Type 0
end_fits end = IsPassOf end.bus.now end.pass

-- the plant is that of this end of a relay over a bus
abbrev pub IsOfBus : CopyData OwnedEnd → PlantState EndData → Type 0
IsOfBus copier plant = IsOfCopy end_total end_stands copier plant

-- every page of the bus went in
abbrev pub CopiesBus : CopyData OwnedEnd → PlantState EndData → CopyData OwnedEnd → PlantState EndData → Type 0
CopiesBus old plant new now = CopiesAll end_total end_stands old plant new now

-- the other end of such a relay, as the saver's plant
abbrev pub written : WriteData OwnedEnd → PlantState (OutletData OwnedEnd)
written d = write_state end_total end_writable end_stands end_fits d

-- The bus is the same, and so is what no call changes of the pass; each page was copied, and those that count as faults
-- were picked.
pub record AreCounted (bus : BusData) (old : SaverPassData) (now : BusData) (new : SaverPassData) (counts : Counts) : Type 0 where
  pub same_bus : now ≡ bus
  pub key : saver_key new ≡ saver_key old
  pub all : counts.faults + counts.sweep ≡ pages_of_book (book_of old.view)
  pub flags : List Bool
  pub counted : counts.faults ≡ count_by (λ flag. flag) flags
  pub picked : (p : ℕ) → slice_get flags p ≡ Some true → slice_get (book_of new.view).picked p ≡ Some true
