-- The pages that a run touches: one event more, each page once, and which they are.
use Rattle.std.proofs.Common.{◌≡◌, ◌⊎◌, inl, inr, ◌↔◌, ℕ, zero, suc, ◌<◌, List, [], ◌∷◌, ◌++◌, length, take, true, false, Bool, Option, Some, None, refl, sym, ◌∙◌, ap, subst, arith}
use Rattle.std.specs.Prelude.{if◌then◌else◌, slice_index, nat_eq}
use Rattle.std.specs.Cmp.{nat_eq_equiv}
use Rattle.std.specs.List.{list_any, IsDistinct, Contains}
use Rattle.std.proofs.lemmas.Bool.{eqb-true}
use Rattle.std.proofs.lemmas.List.Elements.{Contains-push, Contains-push_cases, Contains-append_left}
use Rattle.std.proofs.lemmas.Map.Views.{Contains-from_any}
use Rattle.std.proofs.lemmas.Map.Keys.{IsDistinct-push}
use Rattle.std.proofs.lemmas.Option.{same_Some, none-some}
use Rattle.flat_machine.specs.Cell.{CellName, PageCell, SerialCell, TimerCell}
use Rattle.flat_machine.specs.Laws.{event_cell}
use Rattle.flat_machine.specs.Machine.{MachineData}
use Rattle.flat_machine.specs.Next.{next}
use Rattle.flat_machine.specs.Run.{run_on, run}
use Rattle.flat_machine.specs.Touched.{with_cell, touched_after, touched, IsTouched}
use Rattle.flat_machine.proofs.Outcomes.{option_cases}

-- no event touches nothing
touched_after-nil : (pages : List ℕ) (m : Option MachineData) → touched_after pages m [] ≡ pages
unfolding touched_after
touched_after-nil pages None = refl
touched_after-nil pages (Some m) = refl

-- one event more, behind an order that ran
touched_after-push : (pages : List ℕ) (m : MachineData) (o : List ℕ) (k : ℕ) (n : MachineData) → run m o ≡ Some n →
    touched_after pages (Some m) (o ++ k ∷ []) ≡ with_cell (touched_after pages (Some m) o) (event_cell n k)
unfolding run_on touched_after
touched_after-push pages m [] k n ran =
    touched_after-nil (with_cell pages (event_cell m k)) (next m k) ∙ ap (λ a. with_cell pages (event_cell a k)) (same_Some m n ran)
touched_after-push pages m (j ∷ o) k n ran =
    elim (option_cases (next m j)) as (λ _. touched_after pages (Some m) (j ∷ o ++ k ∷ []) ≡ with_cell (touched_after pages (Some m) (j ∷ o)) (event_cell n k)) [
      | inl none ↦ absurd (none-some n (sym (ap (λ r. run_on r o) none) ∙ ran))
      | inr (mid, moved) ↦
          (let first = with_cell pages (event_cell m j) in
          ap (λ r. touched_after first r (o ++ k ∷ [])) moved
          ∙ touched_after-push first mid o k n (sym (ap (λ r. run_on r o) moved) ∙ ran)
          ∙ ap (λ r. with_cell (touched_after first r o) (event_cell n k)) (sym moved))
    ]

-- the law of one event more
pub touched-push : (m n : MachineData) (o : List ℕ) (k : ℕ) → run m o ≡ Some n → touched m (o ++ k ∷ []) ≡ with_cell (touched m o) (event_cell n k)
touched-push m n o k ran = touched_after-push [] m o k n ran

-- ---- Each page once

-- with the page of a cell
with_page_distinct : (b : Bool) (pages : List ℕ) (p : ℕ) → list_any (nat_eq p) pages ≡ b → IsDistinct nat_eq pages →
    IsDistinct nat_eq (if b then pages else pages ++ p ∷ [])
with_page_distinct true pages p is distinct = distinct
with_page_distinct false pages p is distinct = IsDistinct-push nat_eq_equiv pages p distinct is

with_cell_distinct : (pages : List ℕ) (c : Option CellName) → IsDistinct nat_eq pages → IsDistinct nat_eq (with_cell pages c)
with_cell_distinct pages None distinct = distinct
with_cell_distinct pages (Some (PageCell p)) distinct = with_page_distinct (list_any (nat_eq p) pages) pages p refl distinct
with_cell_distinct pages (Some SerialCell) distinct = distinct
with_cell_distinct pages (Some TimerCell) distinct = distinct

touched_after_distinct : (pages : List ℕ) (m : Option MachineData) (o : List ℕ) → IsDistinct nat_eq pages → IsDistinct nat_eq (touched_after pages m o)
unfolding touched_after
touched_after_distinct pages None o distinct = distinct
touched_after_distinct pages (Some m) [] distinct = distinct
touched_after_distinct pages (Some m) (k ∷ o) distinct =
    touched_after_distinct (with_cell pages (event_cell m k)) (next m k) o (with_cell_distinct pages (event_cell m k) distinct)

-- no page is there twice
pub touched_distinct : (m : MachineData) (o : List ℕ) → IsDistinct nat_eq (touched m o)
unfolding IsDistinct
touched_distinct m o = touched_after_distinct [] (Some m) o tt

-- ---- Which they are

-- a page stays, and that of a cell is there
with_page_keeps : (b : Bool) (pages : List ℕ) (p q : ℕ) → Contains pages q → Contains (if b then pages else pages ++ p ∷ []) q
with_page_keeps true pages p q has = has
with_page_keeps false pages p q has = Contains-append_left pages (p ∷ []) q has

with_cell_keeps : (pages : List ℕ) (c : Option CellName) (q : ℕ) → Contains pages q → Contains (with_cell pages c) q
with_cell_keeps pages None q has = has
with_cell_keeps pages (Some (PageCell p)) q has = with_page_keeps (list_any (nat_eq p) pages) pages p q has
with_cell_keeps pages (Some SerialCell) q has = has
with_cell_keeps pages (Some TimerCell) q has = has

with_page_has : (b : Bool) (pages : List ℕ) (p : ℕ) → list_any (nat_eq p) pages ≡ b → Contains (if b then pages else pages ++ p ∷ []) p
with_page_has true pages p is = Contains-from_any (λ x y e. eqb-true x y e) p pages is
with_page_has false pages p is = Contains-push pages p

with_cell_has : (pages : List ℕ) (c : Option CellName) (p : ℕ) → c ≡ Some (PageCell p) → Contains (with_cell pages c) p
with_cell_has pages c p is =
    subst (λ (d : Option CellName). Contains (with_cell pages d) p) (sym is) (with_page_has (list_any (nat_eq p) pages) pages p refl)

-- a page that is there was there, or is that of the cell
with_page_cases : (b : Bool) (pages : List ℕ) (p q : ℕ) → Contains (if b then pages else pages ++ p ∷ []) q → Contains pages q ⊎ (p ≡ q)
with_page_cases true pages p q has = inl has
with_page_cases false pages p q has = Contains-push_cases pages p q has

with_cell_cases : (pages : List ℕ) (c : Option CellName) (q : ℕ) → Contains (with_cell pages c) q → Contains pages q ⊎ (c ≡ Some (PageCell q))
with_cell_cases pages None q has = inl has
with_cell_cases pages (Some (PageCell p)) q has =
    elim (with_page_cases (list_any (nat_eq p) pages) pages p q has) as (λ _. Contains pages q ⊎ (Some (PageCell p) ≡ Some (PageCell q))) [
      | inl was ↦ inl was
      | inr same ↦ inr (ap (λ x. Some (PageCell x)) same)
    ]
with_cell_cases pages (Some SerialCell) q has = inl has
with_cell_cases pages (Some TimerCell) q has = inl has

-- a page that is there stays
touched_after_keeps : (pages : List ℕ) (m : Option MachineData) (o : List ℕ) (q : ℕ) → Contains pages q → Contains (touched_after pages m o) q
unfolding touched_after
touched_after_keeps pages None o q has = has
touched_after_keeps pages (Some m) [] q has = has
touched_after_keeps pages (Some m) (k ∷ o) q has =
    touched_after_keeps (with_cell pages (event_cell m k)) (next m k) o q (with_cell_keeps pages (event_cell m k) q has)

-- an event later in the order
touched_later : (m mid : MachineData) (k : ℕ) (o : List ℕ) (p : ℕ) → next m k ≡ Some mid → IsTouched mid o p → IsTouched m (k ∷ o) p
unfolding run_on
touched_later m mid k o p moved is = record {
  at = suc is.at;
  within = omega (arith, is.within);
  before = is.before;
  ran = ap (λ r. run_on r (take is.at o)) moved ∙ is.ran;
  cell = is.cell;
}

-- what there is was there before, or is of an event
touched_after_cases : (pages : List ℕ) (m : MachineData) (o : List ℕ) (p : ℕ) → Contains (touched_after pages (Some m) o) p →
    Contains pages p ⊎ IsTouched m o p
unfolding touched_after run_on
touched_after_cases pages m [] p has = inl has
touched_after_cases pages m (k ∷ o) p has =
    let first = with_cell pages (event_cell m k) in
    let here : Contains first p → Contains pages p ⊎ IsTouched m (k ∷ o) p =
    λ was. elim (with_cell_cases pages (event_cell m k) p was) as (λ _. Contains pages p ⊎ IsTouched m (k ∷ o) p) [
      | inl before ↦ inl before
      | inr cell ↦ inr (record { at = 0; within = omega arith; before = m; ran = refl; cell = cell })
    ] in
    elim (option_cases (next m k)) as (λ _. Contains pages p ⊎ IsTouched m (k ∷ o) p) [
      | inl none ↦ here (subst (λ (r : Option MachineData). Contains (touched_after first r o) p) none has)
      | inr (mid, moved) ↦
          elim (touched_after_cases first mid o p (subst (λ (r : Option MachineData). Contains (touched_after first r o) p) moved has))
          as (λ _. Contains pages p ⊎ IsTouched m (k ∷ o) p) [
            | inl was ↦ here was
            | inr later ↦ inr (touched_later m mid k o p moved later)
          ]
    ]

-- an event's page is there
touched_after_has : (pages : List ℕ) (m : MachineData) (o : List ℕ) (t : ℕ) (before : MachineData) (p : ℕ) → t < length o →
    run m (take t o) ≡ Some before → event_cell before (slice_index o t) ≡ Some (PageCell p) → Contains (touched_after pages (Some m) o) p
unfolding touched_after run_on
touched_after_has pages m [] t before p h ran cell = absurd (omega arith)
touched_after_has pages m (k ∷ o) zero before p h ran cell =
    touched_after_keeps (with_cell pages (event_cell m k)) (next m k) o p
    (with_cell_has pages (event_cell m k) p (ap (λ a. event_cell a k) (same_Some m before ran) ∙ cell))
touched_after_has pages m (k ∷ o) (suc t) before p h ran cell =
    let first = with_cell pages (event_cell m k) in
    elim (option_cases (next m k)) as (λ _. Contains (touched_after pages (Some m) (k ∷ o)) p) [
      | inl none ↦ absurd (none-some before (sym (ap (λ r. run_on r (take t o)) none) ∙ ran))
      | inr (mid, moved) ↦
          subst (λ (r : Option MachineData). Contains (touched_after first r o) p) (sym moved)
          (touched_after_has first mid o t before p (omega arith) (sym (ap (λ r. run_on r (take t o)) moved) ∙ ran) cell)
    ]

-- the law of which pages they are
pub touched_are : (m : MachineData) (o : List ℕ) (p : ℕ) → Contains (touched m o) p ↔ IsTouched m o p
touched_are m o p = (
  λ has. elim (touched_after_cases [] m o p has) as (λ _. IsTouched m o p) [
    | inl none ↦ absurd (omega (arith, none.1))
    | inr is ↦ is
  ],
  λ is. touched_after_has [] m o is.at is.before p is.within is.ran is.cell,
)
