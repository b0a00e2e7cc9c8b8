-- What a begin leaves is what a turn asks, of each plant with no page writable.
use Rattle.std.proofs.Common.{◌≡◌, false, replicate}
use Rattle.ram_block.specs.Shape.{total_pages_of}
use Rattle.medium.specs.States.{FileState}
use Rattle.flat_machine.specs.Machine.{MachineData}
use Rattle.page_cell.specs.Plant.{PlantState}
use Rattle.bg_saver.specs.Saver.{SaverData}
use Rattle.bg_saver.specs.Save.{HasJustBegun, IsOfSave}
use Rattle.bg_saver.proofs.Instant as at

-- for which pages the plant stands doesn't count
pub begun_of_save : {R : Type 0} (d : SaverData) (i : MachineData) (plant : PlantState R) (file : FileState) → HasJustBegun d i file → plant.fits → plant.total ≡ total_pages_of i.shape
    → plant.writable ≡ replicate plant.total false → IsOfSave d plant
begun_of_save d i plant file begun fits total protected =
    let of_save = at.begun_of_save d i (record plant { stands = λ _. Unit {0} }) file begun (record { fits = fits; total = total; protected = protected; stands = tt }) in
    record { fits = of_save.fits; total = of_save.total; writable = of_save.writable; picked = of_save.picked; hand = of_save.hand }
