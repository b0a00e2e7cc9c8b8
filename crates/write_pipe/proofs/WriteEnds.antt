-- What the calls of the saver's end keep.
use Rattle.std.proofs.Common.{◌≡◌, ℕ, ◌<◌, Bool, true, false, true≢false, ◌||◌, List, [], ◌∷◌, ◌++◌, Some, nat_eq, refl, sym, ap, ◌∙◌, subst, arith}
use Rattle.std.specs.Prelude.{get_or, slice_get}
use Rattle.std.proofs.lemmas.List.Elements.{All-from_recursion}
use Rattle.std.proofs.lemmas.List.Folds.{list_any-append}
use Rattle.write_pipe.proofs.Rules.{all_within}
use Rattle.std.specs.Cmp.{nat_eq_equiv}
use Rattle.std.specs.List.{IsDistinct, list_any}
use Rattle.ram_block.specs.PageLinks.{is_listed}
use Rattle.page_cell.specs.Plant.{PlantState}
use Rattle.std.proofs.lemmas.Option.{slice_get-get_or}
use Rattle.write_pipe.specs.Outlet.{OutletData, IsOutlet, LeavesNext}
use Rattle.write_pipe.specs.Rule.{AreBytesOf}
use Rattle.write_pipe.specs.WriteEnd.{WriteData, IsHeld, IsWriteEnd, write_state}
use Rattle.write_pipe.specs.declared.outlet.InHand.{InHand}

-- a page that is listed stays so behind another
pub listed_more : (q : List ℕ) (a p : ℕ) → is_listed q p ≡ true → is_listed (q ++ a ∷ []) p ≡ true
listed_more q a p here = list_any-append (nat_eq p) q (a ∷ []) ∙ ap (λ b. b || list_any (nat_eq p) (a ∷ [])) here

or_true : (b : Bool) → (b || true) ≡ true
or_true true = refl
or_true false = refl

-- the last is listed
pub listed_last : (q : List ℕ) (p : ℕ) → is_listed (q ++ p ∷ []) p ≡ true
listed_last [] p = ap (λ b. b || false) (nat_eq_equiv.refl p)
listed_last (a ∷ q) p = ap (λ b. nat_eq p a || b) (listed_last q p) ∙ or_true (nat_eq p a)

or_parts : (a b : Bool) → a ≡ false → b ≡ false → (a || b) ≡ false
or_parts a b x y = ap (λ c. c || b) x ∙ y

-- where no page stands twice the last isn't listed before
pub fresh : (q : List ℕ) (p : ℕ) → IsDistinct nat_eq (q ++ p ∷ []) → is_listed q p ≡ false
unfolding IsDistinct
fresh [] p once = refl
fresh (a ∷ q) p once = or_parts (nat_eq p a) (is_listed q p) (nat_eq_equiv.symm p a ∙ all_within (λ y. nat_eq a y ≡ false) q p [] (All-from_recursion (λ y. nat_eq a y ≡ false) (q ++ p ∷ []) once.0)) (fresh q p once.1)

module _ {P : Type 0} (total : P → ℕ) (opened : P → List Bool) (stands : P → List (List ℕ) → Type 0) (fits : P → Type 0) where
  abbrev Is : WriteData P → Type 0
  Is d = IsWriteEnd total opened stands fits d

  abbrev State : WriteData P → PlantState (OutletData P)
  State d = write_state total opened stands fits d

  -- ---- A page that came out

  -- the end of the queue, with this page behind those that had come out
  abbrev outlet_with : OutletData P → ℕ → OutletData P
  outlet_with outlet p = record outlet { out = outlet.out ++ p ∷ [] }

  not_open : (d : WriteData P) (p : ℕ) → Is d → IsDistinct nat_eq (d.outlet.out ++ p ∷ []) → (flag : Bool) → slice_get d.writable p ≡ Some flag →
      slice_get d.writable p ≡ Some false
  not_open d p is once false there = there
  not_open d p is once true there = absurd (true≢false (sym (is.came p there) ∙ fresh d.outlet.out p once))

  -- the page that came out now wasn't writable
  waits : (d : WriteData P) (p : ℕ) → Is d → p < total d.outlet.from → IsDistinct nat_eq (d.outlet.out ++ p ∷ []) → slice_get d.writable p ≡ Some false
  waits d p is within once =
      let there : slice_get d.writable p ≡ Some (get_or d.writable p false) = slice_get-get_or d.writable p false (omega (arith, within, is.writable)) in
      not_open d p is once (get_or d.writable p false) there

  held_now : (d : WriteData P) (hand : InHand) → Is d → IsOutlet total stands (outlet_with d.outlet hand.page) → hand.page < total d.outlet.from →
      AreBytesOf total stands d.outlet.from hand.page hand.bytes → IsHeld total opened stands fits (outlet_with d.outlet hand.page) d.writable hand
  held_now d hand is outlet within bytes = record {
    page = within;
    came = listed_last d.outlet.out hand.page;
    waits = waits d hand.page is within outlet.once;
    bytes = bytes;
  }

  -- it is in hand
  with_hand : (d : WriteData P) (hand : InHand) → Is d → IsOutlet total stands (outlet_with d.outlet hand.page) → hand.page < total d.outlet.from →
      AreBytesOf total stands d.outlet.from hand.page hand.bytes → Is (record d { outlet = outlet_with d.outlet hand.page; hand = Some hand })
  with_hand d hand is outlet within bytes = record {
    origin = is.origin;
    protected = is.protected;
    writable = is.writable;
    picked = is.picked;
    came = λ p was. listed_more d.outlet.out hand.page p (is.came p was);
    hand = held_now d hand is outlet within bytes;
    busy = is.busy;
  }

  pub got_keeps : (d : WriteData P) (outlet : OutletData P) (hand : InHand) → Is d → LeavesNext total stands d.outlet (Some hand) outlet → IsOutlet total stands outlet →
      Is (record d { outlet = outlet; hand = Some hand })
  got_keeps d outlet hand is next limits =
      subst (λ (o : OutletData P). Is (record d { outlet = o; hand = Some hand })) (sym next.0)
      (with_hand d hand is (subst (IsOutlet total stands) next.0 limits) next.1 next.2)
