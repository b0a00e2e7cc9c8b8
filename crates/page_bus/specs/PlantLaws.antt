-- The laws of the saver's end as a plant, with their proofs.
use Rattle.std.proofs.Common.{◌≡◌, ℕ, suc, ◌<◌, not, true, false, List, [], ◌∷◌, All, length, refl, sym, ◌∙◌, ap, subst, arith}
use Rattle.std.specs.List.{slice_get}
use Rattle.std.proofs.lemmas.Option.{same_Some}
use Rattle.page_cell.specs.Core.{is_protected}
use Rattle.page_bus.specs.Passes.{BusData, SaverPassData, book_of}
use Rattle.page_bus.specs.Plant.{IsPassOf, StandsFor}
use Rattle.page_bus.specs.Saves.{pages_of_book}

-- there are two flags for each page
pub end_flags : (bus : BusData) (d : SaverPassData) → IsPassOf bus d → (length (book_of d.view).writable ≡ pages_of_book (book_of d.view)) × (length (book_of d.view).picked ≡ pages_of_book (book_of d.view))
end_flags bus d is = (is.pass.writable, is.pass.picked)

-- lists with the same members are the same
pub same_lists : {X : Type 0} (xs ys : List X) → length xs ≡ length ys → ((p : ℕ) → p < length xs → slice_get xs p ≡ slice_get ys p) → xs ≡ ys
same_lists [] [] count same = refl
same_lists [] (y ∷ ys) count same = absurd (omega arith)
same_lists (x ∷ xs) [] count same = absurd (omega arith)
same_lists (x ∷ xs) (y ∷ ys) count same =
    let first : x ≡ y = same_Some x y (same 0 (omega arith)) in
    let rest : xs ≡ ys = same_lists xs ys (omega arith) (λ p h. same (suc p) (omega arith)) in
    ap (λ z. z ∷ xs) first ∙ ap (λ zs. y ∷ zs) rest

-- where every page is protected, the end stands for one list
pub end_one_list : (bus : BusData) (d : SaverPassData) (a b : List (List ℕ)) → IsPassOf bus d → All (λ w. w ≡ false) (book_of d.view).writable → StandsFor d a → StandsFor d b → a ≡ b
end_one_list bus d a b is all first second =
    same_lists a b (first.count ∙ sym second.count)
    (λ p h.
    (let within : p < length (book_of d.view).writable = subst (λ (n : ℕ). p < n) (first.count ∙ sym is.pass.writable) h in
    let protected : is_protected (book_of d.view).writable p ≡ true = ap not (all p true within) in
    first.each p protected ∙ sym (second.each p protected)))
