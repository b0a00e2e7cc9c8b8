-- The laws of the bus of one thread as a plant, with their proofs.
use Rattle.std.proofs.Common.{◌≡◌, ℕ, suc, ◌<◌, not, true, false, List, [], ◌∷◌, All, length, refl, sym, ◌∙◌, ap, subst, arith}
use Rattle.std.specs.List.{slice_get}
use Rattle.std.proofs.lemmas.Option.{same_Some}
use Rattle.ram_block.specs.Shape.{total_pages_of}
use Rattle.page_cell.specs.Core.{is_protected}
use Rattle.plain_bus.specs.Bus.{BusData, IsBus, StandsFor}

-- there is a flag for each page
pub bus_flags : (d : BusData) → IsBus d → (length d.writable ≡ total_pages_of d.machine.shape) × (length d.picked ≡ total_pages_of d.machine.shape)
bus_flags d is = (is.writable, is.picked)

-- lists with the same members are the same
same_lists : {X : Type 0} (xs ys : List X) → length xs ≡ length ys → ((p : ℕ) → p < length xs → slice_get xs p ≡ slice_get ys p) → xs ≡ ys
same_lists [] [] count same = refl
same_lists [] (y ∷ ys) count same = absurd (omega arith)
same_lists (x ∷ xs) [] count same = absurd (omega arith)
same_lists (x ∷ xs) (y ∷ ys) count same =
    let first : x ≡ y = same_Some x y (same 0 (omega arith)) in
    let rest : xs ≡ ys = same_lists xs ys (omega arith) (λ p h. same (suc p) (omega arith)) in
    ap (λ z. z ∷ xs) first ∙ ap (λ zs. y ∷ zs) rest

-- where every page is protected, the bus stands for one list
pub one_list : (d : BusData) (a b : List (List ℕ)) → IsBus d → All (λ w. w ≡ false) d.writable → StandsFor d a → StandsFor d b → a ≡ b
one_list d a b is all first second =
    same_lists a b (first.count ∙ sym second.count)
    (λ p h.
    (let within : p < length d.writable = subst (λ (n : ℕ). p < n) (first.count ∙ sym is.writable) h in
    let protected : is_protected d.writable p ≡ true = ap not (all p true within) in
    first.each p protected ∙ sym (second.each p protected)))
