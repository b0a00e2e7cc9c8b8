-- Why a crash while a file is under way leaves one that is refused, and a crash at its end one that is refused or whole.
use Rattle.std.proofs.Common.{◌≡◌, inl, inr, ℕ, zero, suc, ◌-◌, ◌<◌, ◌≤◌, min, true, List, [], ◌∷◌, ◌++◌, length, take, replicate, eqb, refl, sym, ap, ◌∙◌, subst, arith}
use Rattle.std.specs.Prelude.{slice_get}
use Rattle.std.proofs.lemmas.Bool.{cases_Bool, eqb-true, true≢false}
use Rattle.std.proofs.lemmas.Option.{same_Some}
use Rattle.medium.specs.Bytes.{written}
use Rattle.medium.specs.Crash.{Torn}
use Rattle.medium.specs.Laws.{length-written}
use Rattle.flat_machine.specs.Machine.{MachineData}
use Rattle.file_plan.specs.Layout.{Lay, file_of}
use Rattle.file_plan.specs.UnderWay.{IsShutFile}
use Rattle.file_plan.proofs.UnderWay.{open_layout, shut_file}
use Rattle.bg_saver.specs.Writes.{IsRefused, IsRefusedOr, IsShut}

first_taken : (n : ℕ) (xs : List ℕ) → 0 < n → slice_get (take n xs) 0 ≡ slice_get xs 0
first_taken zero xs some = absurd (omega arith)
first_taken (suc n) [] some = refl
first_taken (suc n) (x ∷ xs) some = refl

some_byte : (file : List ℕ) → IsShut file → 0 < length file
some_byte [] shut = absurd (cc shut)
some_byte (b ∷ file) shut = omega arith

-- a write behind the gate byte leaves it shut, however a crash tears it
pub torn_shut : (at n : ℕ) (before image : List ℕ) → 0 < at → IsShut before → Torn at n before image → IsShut image
torn_shut at n before image behind shut torn =
    let some : 0 < length before = some_byte before shut in
    let few : 0 < min at (length before) = omega (arith, behind, some) in
    sym (first_taken (min at (length before)) image few) ∙ ap (λ (l : List ℕ). slice_get l 0) torn.before ∙ first_taken at before behind ∙ shut

pub shut_refused : (image : List ℕ) → IsShut image → IsRefused image
shut_refused image shut m lay = shut_file image m shut lay

-- a file without a byte, or with one, is refused
pub short_refused : (image : List ℕ) → length image ≤ 1 → IsRefused image
short_refused image few m lay = absurd (omega (arith, few, (open_layout image m lay).1))

opened_file : (a : ℕ) (bytes : List ℕ) → written 0 (81 ∷ []) (a ∷ bytes) ≡ 81 ∷ bytes
opened_file a bytes = let none : 0 - length (a ∷ bytes) ≡ 0 = omega arith in ap (λ k. replicate {A = ℕ} k 0 ++ (81 ∷ bytes)) none

-- whatever becomes of the gate byte of a file that is whole behind it
pub gate_image : (i : MachineData) (bytes image : List ℕ) → Lay (file_of i) i → IsShutFile bytes i → Torn 0 1 bytes image → IsRefusedOr i image
gate_image i bytes [] lays whole torn = inl (short_refused [] (omega arith))
gate_image i [] (b ∷ image) lays whole torn = absurd (omega (arith, ap length whole.shut, length-written 0 (0 ∷ []) (file_of i)))
gate_image i (a ∷ bytes) (b ∷ image) lays whole torn = elim (cases_Bool (eqb b 81)) [
  | inl opened ↦
      let same : image ≡ bytes = torn.after in
      let is : file_of i ≡ b ∷ image = whole.opens ∙ opened_file a bytes ∙ ap (λ (l : List ℕ). 81 ∷ l) (sym same) ∙ ap (λ x. x ∷ image) (sym (eqb-true b 81 opened)) in
      inr (subst (λ (l : List ℕ). Lay l i) is lays)
  | inr other ↦
      inl (λ m lay.
      let gate : b ≡ 81 = same_Some b 81 (open_layout (b ∷ image) m lay).0 in
      let same : eqb b 81 ≡ true = ap (λ x. eqb x 81) gate in
      true≢false (sym same ∙ other))
]
