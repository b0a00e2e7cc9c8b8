-- What a release of the pages left leaves, after a failure (this project's own, docs/ARCHITECTURE.md).
use Rattle.std.specs.Prelude.{◌≡◌, ℕ, ◌<◌, not, true, ◌||◌, ◌&&◌, [], drop, slice_get, Some, option_map}
use Rattle.medium.specs.Count.{HasRisen}
use Rattle.ram_block.specs.PageLinks.{is_listed}
use Rattle.page_cell.specs.Plant.{PlantState, KeepsPlant}
use Rattle.bg_saver.specs.Saver.{SaverData}
use Rattle.bg_saver.specs.Turn.{LeavesNoPick}
use Rattle.bg_saver.specs.declared.turn.Released.{Released}
use Rattle.bg_saver.specs.declared.turn.Released.TheVariants.{Done, Again}

-- every page is writable; or one was found held
abbrev pub ReleasesAll : {R : Type 0} → PlantState R → PlantState R → SaverData → Released → Type 0
ReleasesAll plant now new Done = (new.left ≡ []) × ((p : ℕ) → p < now.total → slice_get now.writable p ≡ Some true)
ReleasesAll plant now new Again = HasRisen plant.busy now.busy

-- the pages that were taken, the first ones left, are left no more, and they alone became writable
pub record ReleasesPages {R : Type 0} (old : SaverData) (plant now : PlantState R) (new : SaverData) : Type 0 where
  pub saver : (n : ℕ) × (new ≡ record old { left = drop n old.left })
  pub keeps : KeepsPlant plant now
  pub picks : LeavesNoPick plant now
  pub writable : (p : ℕ) → slice_get now.writable p ≡ option_map (λ flag. flag || (is_listed old.left p && not (is_listed new.left p))) (slice_get plant.writable p)

pub record LeavesRelease {R : Type 0} (old : SaverData) (plant now : PlantState R) (released : Released) (new : SaverData) : Type 0 where
  pub pages : ReleasesPages old plant now new
  pub answer : ReleasesAll plant now new released
