-- The end of the saver at the instant, and between the calls that bring pages.
use Rattle.std.proofs.Common.{◌≡◌, ℕ, Bool, false, List, All, replicate, sym, ap, ◌∙◌, subst, arith}
use Rattle.std.specs.Prelude.{slice_get}
use Rattle.std.proofs.lemmas.List.{get_or-replicate, length-replicate}
use Rattle.medium.specs.States.{FileState}
use Rattle.flat_machine.specs.Machine.{MachineData}
use Rattle.bg_saver.specs.Saver.{SaverData}
use Rattle.bg_saver.specs.Save.{IsAmong, IsOfSave, IsUnderWay}
use Rattle.page_cell.specs.Plant.{PlantState, pages_of}
use Rattle.write_pipe.specs.Outlet.{OutletData}
use Rattle.write_pipe.specs.WriteEnd.{BringsPage, WriteData, write_state}

-- flags that are all clear
pub all_clear : (n : ℕ) (flags : List Bool) → flags ≡ replicate n false → All (λ w. w ≡ false) flags
all_clear n flags is = subst (All (λ w. w ≡ false)) (sym is) (λ p flag within. get_or-replicate n p false flag (omega (arith, within, length-replicate n false)))

module _ {P : Type 0} (total : P → ℕ) (opened : P → List Bool) (stands : P → List (List ℕ) → Type 0) (fits : P → Type 0) (old new : WriteData P) (brings : BringsPage total opened stands fits old new) where
  abbrev State : WriteData P → PlantState (OutletData P)
  State d = write_state total opened stands fits d

  same_total : total new.outlet.from ≡ total old.outlet.from
  same_total = ap total brings.from

  same_writable : new.writable ≡ old.writable
  same_writable = ap (λ (d : WriteData P). d.writable) brings.same

  same_picked : new.picked ≡ old.picked
  same_picked = ap (λ (d : WriteData P). d.picked) brings.same

  -- the end stays the saver's plant
  pub brought_of_save : (saver : SaverData) → IsOfSave saver (State old) → IsOfSave saver (State new)
  brought_of_save saver is = record {
    fits = brings.limits;
    total = same_total ∙ is.total;
    writable = λ runs p below. ap (λ (l : List Bool). slice_get l p) same_writable ∙ is.writable runs p below;
    picked = λ p set. ap (λ (l : List Bool). slice_get l p) same_picked ∙ is.picked p set;
    hand = subst (λ (l : List Bool). IsAmong l saver.hand) (sym same_picked) is.hand;
  }

  -- and a save under way stays so
  pub brought_under_way : (saver : SaverData) (i : MachineData) (file : FileState) → IsUnderWay saver i (State old) file → IsUnderWay saver i (State new) file
  brought_under_way saver i file way = record {
    runs = way.runs;
    saves = way.saves;
    stands = subst (λ (x : P). stands x (pages_of i)) (sym brings.from) way.stands;
    told = way.told;
    shut = way.shut;
  }
