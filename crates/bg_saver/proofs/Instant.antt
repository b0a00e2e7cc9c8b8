-- What a begin leaves is what a turn asks, at the instant.
use Rattle.std.proofs.Common.{◌≡◌, ℕ, zero, suc, ◌+◌, ◌<◌, Bool, false, not, List, [], ◌∷◌, replicate, Option, Some, refl, sym, ap, ◌∙◌, subst}
use Rattle.std.specs.Prelude.{slice_get, IfSome}
use Rattle.ram_block.specs.Shape.{total_pages_of}
use Rattle.medium.specs.Crash.{Only}
use Rattle.medium.specs.States.{FileState}
use Rattle.medium.proofs.Told.{when_told}
use Rattle.flat_machine.specs.Machine.{MachineData}
use Rattle.page_cell.specs.Plant.{PlantState}
use Rattle.file_plan.specs.UnderWay.{IsLaidSoFar}
use Rattle.file_plan.proofs.UnderWay.{begins}
use Rattle.bg_saver.specs.Saver.{SaverData}
use Rattle.bg_saver.specs.Save.{HasJustBegun, IsAtInstant, IsOfSave, IsUnderWay, ranges_from, ranges_of}
use Rattle.bg_saver.specs.Writes.{IsShut}
use Rattle.bg_saver.proofs.Begun.{all_left, clear_bit, clear_flag}

no_ranges : (pages p n : ℕ) → ranges_from pages p (replicate n false) ≡ []
no_ranges pages p zero = refl
no_ranges pages p (suc n) = no_ranges pages (p + 1) n

module _ {R : Type 0} (d : SaverData) (i : MachineData) (plant : PlantState R) (file : FileState) (begun : HasJustBegun d i file) (at : IsAtInstant i plant) where
  abbrev total : ℕ
  total = total_pages_of i.shape

  protected : (p : ℕ) → p < total → slice_get plant.writable p ≡ Some false
  protected p lt = ap (λ (l : List Bool). slice_get l p) (at.protected ∙ ap (λ n. replicate n false) at.total) ∙ clear_bit total p lt

  pub begun_of_save : IsOfSave d plant
  begun_of_save = subst (λ (s : SaverData). IsOfSave s plant) (sym begun.saver.saver) (record {
    fits = at.fits;
    total = at.total;
    writable = λ goes p lt. protected p lt ∙ ap (λ b. Some (not b)) (sym (all_left total p lt));
    picked = λ p set. absurd (clear_flag total p set);
    hand = tt;
  })

  told_now : (bytes : List ℕ) → file.told ≡ Some bytes → (bytes ≡ 0 ∷ []) × Only (0 ∷ []) file.may_leave
  told_now bytes is = subst (λ (o : Option (List ℕ)). IfSome o (λ b. (b ≡ 0 ∷ []) × Only (0 ∷ []) file.may_leave)) is begun.told

  laid : (bytes : List ℕ) → bytes ≡ 0 ∷ [] → IsLaidSoFar bytes i (ranges_of d)
  laid bytes is =
      let ranges : ranges_of d ≡ [] = ap ranges_of begun.saver.saver ∙ no_ranges i.shape.pages 0 total in
      subst (λ (l : List ℕ). IsLaidSoFar l i (ranges_of d)) (sym is) (subst (λ (r : List (ℕ × ℕ)). IsLaidSoFar (0 ∷ []) i r) (sym ranges) (begins i))

  pub begun_under_way : IsUnderWay d i plant file
  begun_under_way = record {
    runs = ap (λ (s : SaverData). s.end) begun.saver.saver;
    saves = begun.saver.saves;
    stands = at.stands;
    told = when_told file.told _ (λ bytes is. laid bytes (told_now bytes is).0);
    shut = when_told file.told _ (λ bytes is image left. subst IsShut (sym ((told_now bytes is).1 image left)) refl);
  }
