-- What a pick and a take leave of the saver's end as a plant.
use Rattle.std.proofs.Common.{◌≡◌, ℕ, zero, suc, ◌^◌, ◌<◌, ◌≤◌, Bool, true, false, List, [], ◌∷◌, not, slice_set, Some, refl, sym, ◌∙◌, ap, subst, arith}
use Rattle.std.specs.List.{slice_get}
use Rattle.ram_block.specs.Shape.{total_pages_of}
use Rattle.medium.specs.Count.{counted}
use Rattle.flat_machine.specs.Machine.{MachineData, page_of}
use Rattle.page_cell.specs.Core.{is_protected}
use Rattle.page_cell.specs.Plant.{KeepsPlant, LeavesPick, LeavesTake, PickCause, picked_after}
use Rattle.page_cell.specs.declared.plant.Pick.{Pick}
use Rattle.page_cell.specs.declared.plant.Pick.TheVariants as picks
use Rattle.page_cell.specs.declared.plant.Taken.{Taken}
use Rattle.page_cell.specs.declared.plant.Taken.TheVariants as takes
use Rattle.bus_rule.specs.Views.{PassData}
use Rattle.page_bus.specs.Passes.{BusData, IsSaverPass, SaverKey, SaverPassData, book_of, saver_key}
use Rattle.page_bus.specs.Plant.{IsPassOf, end_state}
use Rattle.page_bus.specs.Saves.{LeavesPickAs, LeavesTakeAs, PicksTo, TakesTo, pages_of_book}

counted_more : (n : ℕ) → n < 2 ^ 64 → n ≤ counted n
counted_more n below = grind arith

-- a page that is protected after one was released was protected before
still_protected : (writable : List Bool) (p q : ℕ) → is_protected (slice_set writable p true) q ≡ true → is_protected writable q ≡ true
still_protected [] p q is = is
still_protected (w ∷ writable) zero zero is = absurd (cc)
still_protected (w ∷ writable) zero (suc q) is = is
still_protected (w ∷ writable) (suc p) zero is = is
still_protected (w ∷ writable) (suc p) (suc q) is = still_protected writable p q is

-- the pages that are protected afterwards were so before
abbrev StaysFor : List Bool → List Bool → Type 0
StaysFor old new = (q : ℕ) → is_protected new q ≡ true → is_protected old q ≡ true

module _ (bus other : BusData) (old new : SaverPassData) (fits : IsPassOf bus old) (same : other ≡ bus) (key : saver_key new ≡ saver_key old) (is : IsSaverPass new) where
  instant : (book_of new.view).instant ≡ (book_of old.view).instant
  instant = ap (λ (k : SaverKey). k.instant) key

  keeps : old.view.busy ≤ new.view.busy → StaysFor (book_of old.view).writable (book_of new.view).writable → KeepsPlant (end_state bus old) (end_state other new)
  keeps more stays = record {
    total = ap (λ (m : MachineData). total_pages_of m.shape) instant;
    rest = ap (λ (k : SaverKey). record { bus = other; key = k }) key ∙ ap (λ (d : BusData). record { bus = d; key = saver_key old }) same;
    stands = λ pages stands. record {
      count = stands.count ∙ ap (λ (m : MachineData). total_pages_of m.shape) (sym instant);
      each = λ q still. stands.each q (stays q still) ∙ ap (λ (m : MachineData). Some (page_of m q)) (sym instant);
    };
    fits = record { table = ap (λ (k : SaverKey). k.table) key ∙ fits.table ∙ ap (λ (d : BusData). d.table) (sym same); pass = is };
    never_falls = more;
  }

  -- what a view shows after a call, by the view
  writable_by : (p : PassData) → new.view ≡ p → (book_of new.view).writable ≡ (book_of p).writable
  writable_by p now = ap (λ (v : PassData). (book_of v).writable) now

  picked_by : (p : PassData) → new.view ≡ p → (book_of new.view).picked ≡ (book_of p).picked
  picked_by p now = ap (λ (v : PassData). (book_of v).picked) now

  busy_by : (p : PassData) → new.view ≡ p → new.view.busy ≡ p.busy
  busy_by p now = ap (λ (v : PassData). v.busy) now

  -- the flags are as before
  stays_by : (p : PassData) → new.view ≡ p → (book_of p).writable ≡ (book_of old.view).writable → StaysFor (book_of old.view).writable (book_of new.view).writable
  stays_by p now unchanged q still = subst (λ (ws : List Bool). is_protected ws q ≡ true) (writable_by p now ∙ unchanged) still

  not_more : (p : PassData) → new.view ≡ p → p.busy ≡ old.view.busy → old.view.busy ≤ new.view.busy
  not_more p now unchanged = let e = busy_by p now in omega (arith, e, unchanged)

  is_more : (p : PassData) → new.view ≡ p → p.busy ≡ counted old.view.busy → old.view.busy ≤ new.view.busy
  is_more p now risen = let e = busy_by p now in let m = counted_more old.view.busy fits.pass.busy in subst (λ n. old.view.busy ≤ n) (sym (e ∙ risen)) m

  -- ---- A pick

  module _ (answer : Pick) (p : PassData) (now : new.view ≡ p) (flags : (book_of p).writable ≡ (book_of old.view).writable)
      (picked : (book_of p).picked ≡ picked_after (book_of old.view).picked answer) (more : old.view.busy ≤ new.view.busy)
      (cause : PickCause (pages_of_book (book_of old.view)) old.view.busy new.view.busy answer) (count : new.picks ≡ counted old.picks) (last : new.last ≡ Some answer) where
    pick_so : LeavesPick (end_state bus old) (end_state other new) answer
    pick_so = record {
      keeps = keeps more (stays_by p now flags);
      writable = writable_by p now ∙ flags;
      picked = picked_by p now ∙ picked;
      cause = cause;
      picks = count;
      last = last;
      queue = refl;
    }

  pick_by_answer : (answer : Pick) → PicksTo old.view answer new.view → new.picks ≡ counted old.picks → new.last ≡ Some answer →
      LeavesPick (end_state bus old) (end_state other new) answer
  pick_by_answer (picks.Fault page) to count last =
      pick_so (picks.Fault page) _ to.1 refl refl (not_more _ to.1 refl) to.0 count last
  pick_by_answer picks.Empty to count last = pick_so picks.Empty _ to refl refl (not_more _ to refl) tt count last
  pick_by_answer picks.Busy to count last =
      pick_so picks.Busy _ to refl refl (is_more _ to refl) (let e = busy_by _ to in subst (λ n. counted old.view.busy ≤ n) (sym e) (omega arith)) count last

  -- ---- A take

  module _ (page : ℕ) (before into : List ℕ) (count : new.picks ≡ old.picks) (last : new.last ≡ old.last) where
    take_by_answer : (answer : Taken) → TakesTo old.view page before answer into new.view → LeavesTake (end_state bus old) (end_state other new) page before into answer
    take_by_answer takes.Copied to = record {
      keeps = keeps (not_more _ to.released refl) (λ q still. still_protected (book_of old.view).writable page q (subst (λ (ws : List Bool). is_protected ws q ≡ true) (writable_by _ to.released) still));
      picked = picked_by _ to.released;
      picks = count;
      last = last;
      queue = refl;
      takes = record {
        was = to.was;
        writable = writable_by _ to.released;
        bytes = λ pages stands. stands.each page (protected_here (book_of old.view).writable page to.was) ∙ ap Some (sym to.bytes);
      };
    }
      where
        protected_here : (writable : List Bool) (q : ℕ) → slice_get writable q ≡ Some false → is_protected writable q ≡ true
        protected_here [] q is = absurd (cc)
        protected_here (w ∷ writable) zero is = let e : w ≡ false = cc in ap not e
        protected_here (w ∷ writable) (suc q) is = protected_here writable q is
    take_by_answer takes.Stale to = record {
      keeps = keeps (not_more _ to.same refl) (stays_by _ to.same refl);
      picked = picked_by _ to.same;
      picks = count;
      last = last;
      queue = refl;
      takes = (to.was, record { writable = writable_by _ to.same; buffer = to.buffer });
    }
    take_by_answer takes.Busy to = record {
      keeps = keeps (is_more _ to.found refl) (stays_by _ to.found refl);
      picked = picked_by _ to.found;
      picks = count;
      last = last;
      queue = refl;
      takes = (
        (let e = busy_by _ to.found in subst (λ n. counted old.view.busy ≤ n) (sym e) (omega arith)),
        record { writable = writable_by _ to.found; buffer = to.buffer },
      );
    }

pub pick_leaves : (bus other : BusData) (old new : SaverPassData) (answer : Pick) → IsPassOf bus old → other ≡ bus → LeavesPickAs old answer new → IsSaverPass new →
    LeavesPick (end_state bus old) (end_state other new) answer
pick_leaves bus other old new answer fits same leaves is =
    pick_by_answer bus other old new fits same leaves.key is answer leaves.picks_to leaves.picks leaves.last

pub take_leaves : (bus other : BusData) (old new : SaverPassData) (page : ℕ) (before into : List ℕ) (answer : Taken) → IsPassOf bus old → other ≡ bus →
    LeavesTakeAs old page before answer into new → IsSaverPass new → LeavesTake (end_state bus old) (end_state other new) page before into answer
take_leaves bus other old new page before into answer fits same leaves is =
    take_by_answer bus other old new fits same leaves.key is page before into leaves.picks leaves.last answer leaves.takes
