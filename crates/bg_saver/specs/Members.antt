-- The state of a plant, by the ghost members of its trait.
use Rattle.page_cell.specs.declared.plant.Plant as plant
use Rattle.page_cell.specs.Plant.{PlantState, plant_by}

abbrev pub plant_state : {P R : Type 0} → plant.Ghosts P R → P → PlantState R
plant_state g p = plant_by g.total g.writable g.picked g.busy g.rest g.stands g.fits g.picks g.last g.queue p
