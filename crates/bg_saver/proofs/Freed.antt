-- The pages left, taken one by one after a failure.
use Rattle.std.proofs.Common.{◌≡◌, inl, inr, ℕ, zero, suc, ◌+◌, ◌<◌, Bool, true, false, not, ◌&&◌, ◌||◌, List, [], ◌∷◌, length, drop, Option, Some, None, option_map, eqb, eq-eqb, get_or, refl, sym, ap, ◌∙◌, subst, arith}
use Rattle.std.specs.Prelude.{slice_get}
use Rattle.std.specs.List.Sorted.{IsStrictlyIncreasing}
use Rattle.std.proofs.lemmas.Bool.{cases_Bool, eqb-true, or_left, or_right}
use Rattle.std.proofs.lemmas.List.{drop-drop}
use Rattle.std.proofs.lemmas.Option.{same_Some, slice_get-get_or, slice_get_within}
use Rattle.ram_block.specs.PageLinks.{is_listed}
use Rattle.ram_block.proofs.LinkedPages.{head_absent}
use Rattle.flat_machine.proofs.Events.{slice_get-set_other, slice_get-set_same}
use Rattle.page_sweep.specs.Sweep.{without}
use Rattle.page_sweep.proofs.Linked.{distinct_ascending}
use Rattle.page_sweep.proofs.Removed.{absent-without, without-absent}
use Rattle.page_cell.specs.Plant.{PlantState, KeepsPlant, LeavesTake}
use Rattle.page_cell.specs.declared.plant.Taken.{Taken}
use Rattle.page_cell.specs.declared.plant.Taken.TheVariants as takes
use Rattle.bg_saver.specs.Saver.{SaverData, IsSaver, total_of}
use Rattle.bg_saver.specs.Save.{IsAmong, IsOfSave, MayRelease}
use Rattle.bg_saver.specs.Release.{ReleasesPages}
use Rattle.bg_saver.specs.declared.save_end.SaveEnd.TheVariants as ends
use Rattle.bg_saver.proofs.Courses.{keeps_same}
use Rattle.bg_saver.proofs.Taken.{differ, listed_other}

-- the first page off the list leaves the rest
without_first : (left : List ℕ) (p : ℕ) → IsStrictlyIncreasing left → slice_get left 0 ≡ Some p → without left p ≡ drop 1 left
without_first [] p ascending is = absurd (cc is)
without_first (a ∷ left) p ascending is =
    let same : a ≡ p = same_Some a p is in
    let test : eqb p a ≡ true = eq-eqb p a (sym same) in
    let absent : is_listed left p ≡ false = subst (λ x. is_listed left x ≡ false) same (head_absent a left (distinct_ascending (a ∷ left) ascending)) in
    rw test (without-absent left p absent)

pub less_left : (left : List ℕ) (p : ℕ) → IsStrictlyIncreasing left → slice_get left 0 ≡ Some p → length (without left p) + 1 ≡ length left
less_left [] p ascending is = absurd (cc is)
less_left (a ∷ left) p ascending is = omega (arith, ap length (without_first (a ∷ left) p ascending is))

first_listed : (left : List ℕ) (p : ℕ) → slice_get left 0 ≡ Some p → is_listed left p ≡ true
first_listed [] p is = absurd (cc is)
first_listed (a ∷ left) p is = or_left (eqb p a) (is_listed left p) (eq-eqb p a (sym (same_Some a p is)))

listed_behind : (n : ℕ) (left : List ℕ) (p : ℕ) → is_listed (drop n left) p ≡ true → is_listed left p ≡ true
listed_behind zero left p is = is
listed_behind (suc n) [] p is = is
listed_behind (suc n) (a ∷ left) p is = or_right (eqb p a) (is_listed left p) (listed_behind n left p is)

no_change : (flag here : Bool) → (flag || (here && not here)) ≡ flag
no_change true here = refl
no_change false true = refl
no_change false false = refl

same_flag : (o : Option Bool) (here : Bool) → o ≡ option_map (λ flag. flag || (here && not here)) o
same_flag (Some flag) here = ap Some (sym (no_change flag here))
same_flag None here = refl

pub none_released : {R : Type 0} (d : SaverData) (plant : PlantState R) → plant.fits → ReleasesPages d plant plant d
none_released d plant fits = record {
  saver = (0, refl);
  keeps = keeps_same plant fits;
  picks = record { picked = refl; picks = refl; last = refl; queue = refl };
  writable = λ p. same_flag (slice_get plant.writable p) (is_listed d.left p);
}

-- the page was there; it is writable now, whether it was protected or not, and the others are as before
record IsFreed {R : Type 0} (mid now : PlantState R) (page : ℕ) : Type 0 where
  was : (flag : Bool) × (slice_get mid.writable page ≡ Some flag)
  is : slice_get now.writable page ≡ Some true
  others : (q : ℕ) → eqb q page ≡ false → slice_get now.writable q ≡ slice_get mid.writable q

freed : {R : Type 0} (mid now : PlantState R) (page : ℕ) (before into : List ℕ) (answer : Taken) → LeavesTake mid now page before into answer → (answer ≡ takes.Busy → ⊥) → IsFreed mid now page
freed mid now page before into takes.Copied take free =
    let copied = take.takes in
    record {
      was = (false, copied.was);
      is = ap (λ (l : List Bool). slice_get l page) copied.writable ∙ slice_get-set_same mid.writable page true (slice_get_within mid.writable page false copied.was);
      others = λ q other. ap (λ (l : List Bool). slice_get l q) copied.writable ∙ slice_get-set_other mid.writable page q true (differ q page other);
    }
freed mid now page before into takes.Stale take free =
    let stale = take.takes in
    record {
      was = (true, stale.0);
      is = ap (λ (l : List Bool). slice_get l page) stale.1.writable ∙ stale.0;
      others = λ q other. ap (λ (l : List Bool). slice_get l q) stale.1.writable;
    }
freed mid now page before into takes.Busy take free = absurd (free refl)

had_flag : (o : Option Bool) (f : Bool → Bool) (flag : Bool) → option_map f o ≡ Some flag → (b : Bool) × (o ≡ Some b)
had_flag (Some b) f flag is = (b, refl)
had_flag None f flag is = absurd (cc is)

or_true : (a b : Bool) → b ≡ true → (a || b) ≡ true
or_true true b is = refl
or_true false b is = is

keeps_on : {R : Type 0} (a b c : PlantState R) → KeepsPlant a b → KeepsPlant b c → KeepsPlant a c
keeps_on a b c one two = record {
  total = two.total ∙ one.total;
  rest = two.rest ∙ one.rest;
  stands = λ pages stands. two.stands pages (one.stands pages stands);
  fits = two.fits;
  never_falls = omega (arith, one.never_falls, two.never_falls);
}

module _ {R : Type 0} (old : SaverData) (plant mid now : PlantState R) (cur : SaverData) (page : ℕ) (before into : List ℕ) (answer : Taken) (so_far : ReleasesPages old plant mid cur) (limits : IsSaver cur)
    (some : slice_get cur.left 0 ≡ Some page) (take : LeavesTake mid now page before into answer) (free : answer ≡ takes.Busy → ⊥) where
  n : ℕ
  n = so_far.saver.0

  left_is : cur.left ≡ drop n old.left
  unfolding n
  left_is = ap (λ (s : SaverData). s.left) so_far.saver.1

  next_left : without cur.left page ≡ drop (n + 1) old.left
  next_left = without_first cur.left page limits.sweep.ascending some ∙ ap (drop 1) left_is ∙ drop-drop 1 n old.left

  saver_now : record cur { left = without cur.left page } ≡ record old { left = drop (n + 1) old.left }
  unfolding n
  saver_now = (λ j. record (so_far.saver.1 j) { left = without cur.left page }) ∙ (λ j. record old { left = next_left j })

  in_old : is_listed old.left page ≡ true
  in_old = listed_behind n old.left page (subst (λ (l : List ℕ). is_listed l page ≡ true) left_is (first_listed cur.left page some))

  free_page : IsFreed mid now page
  free_page = freed mid now page before into answer take free

  writable_on : (p : ℕ) → slice_get now.writable p ≡ option_map (λ flag. flag || (is_listed old.left p && not (is_listed (without cur.left page) p))) (slice_get plant.writable p)
  writable_on p = elim (cases_Bool (eqb p page)) [
    | inl same ↦
        let had = had_flag (slice_get plant.writable page) (λ flag. flag || (is_listed old.left page && not (is_listed cur.left page))) free_page.was.0 (sym (so_far.writable page) ∙ free_page.was.1) in
        let gone : (is_listed old.left page && not (is_listed (without cur.left page) page)) ≡ true = ap (λ b. b && not (is_listed (without cur.left page) page)) in_old ∙ ap not (absent-without cur.left page) in
        subst (λ x. slice_get now.writable x ≡ option_map (λ flag. flag || (is_listed old.left x && not (is_listed (without cur.left page) x))) (slice_get plant.writable x)) (sym (eqb-true p page same))
        (free_page.is ∙ sym (ap (option_map (λ flag. flag || (is_listed old.left page && not (is_listed (without cur.left page) page)))) had.1 ∙ ap Some (or_true had.0 _ gone)))
    | inr other ↦
        free_page.others p other ∙ so_far.writable p
        ∙ ap (λ b. option_map (λ flag. flag || (is_listed old.left p && not b)) (slice_get plant.writable p)) (sym (listed_other cur.left page p other))
  ]

  pub released_more : ReleasesPages old plant now (record cur { left = without cur.left page })
  released_more = record {
    saver = (n + 1, saver_now);
    keeps = keeps_on plant mid now so_far.keeps take.keeps;
    picks = record {
      picked = take.picked ∙ so_far.picks.picked;
      picks = take.picks ∙ so_far.picks.picks;
      last = take.last ∙ so_far.picks.last;
      queue = take.queue ∙ so_far.picks.queue;
    };
    writable = writable_on;
  }

-- a page that was held is as before
pub released_busy : {R : Type 0} (old : SaverData) (plant mid now : PlantState R) (cur : SaverData) (page : ℕ) (before into : List ℕ) → ReleasesPages old plant mid cur
    → LeavesTake mid now page before into takes.Busy → ReleasesPages old plant now cur
released_busy old plant mid now cur page before into so_far take = record {
  saver = so_far.saver;
  keeps = keeps_on plant mid now so_far.keeps take.keeps;
  picks = record {
    picked = take.picked ∙ so_far.picks.picked;
    picks = take.picks ∙ so_far.picks.picks;
    last = take.last ∙ so_far.picks.last;
    queue = take.queue ∙ so_far.picks.queue;
  };
  writable = λ p. ap (λ (l : List Bool). slice_get l p) take.takes.1.writable ∙ so_far.writable p;
}

-- ---- At the end

module _ {R : Type 0} (old : SaverData) (plant now : PlantState R) (cur : SaverData) (may : MayRelease old plant) (flags : length plant.writable ≡ plant.total) (released : ReleasesPages old plant now cur) where
  pub free_now : (p : ℕ) → p < total_of old → is_listed cur.left p ≡ false → slice_get now.writable p ≡ Some true
  free_now p lt out = elim (cases_Bool (is_listed old.left p)) [
    | inl here ↦
        let within : p < length plant.writable = omega (arith, lt, flags, may.total) in
        let gone : (is_listed old.left p && not (is_listed cur.left p)) ≡ true = ap (λ b. b && not (is_listed cur.left p)) here ∙ ap not out in
        released.writable p ∙ ap (option_map (λ flag. flag || (is_listed old.left p && not (is_listed cur.left p)))) (slice_get-get_or plant.writable p false within)
        ∙ ap Some (or_true (get_or plant.writable p false) _ gone)
    | inr free ↦ released.writable p ∙ ap (option_map (λ flag. flag || (is_listed old.left p && not (is_listed cur.left p)))) (may.writable p lt free)
  ]

  same_total : total_of cur ≡ total_of old
  same_total = ap total_of released.saver.1

  pub may_go_on : MayRelease cur now
  may_go_on = record {
    end = ap (λ (s : SaverData). s.end) released.saver.1 ∙ may.end;
    fits = released.keeps.fits;
    total = released.keeps.total ∙ may.total ∙ sym same_total;
    writable = λ p lt out. free_now p (omega (arith, lt, same_total)) out;
  }

  pub all_free : cur.left ≡ [] → (p : ℕ) → p < now.total → slice_get now.writable p ≡ Some true
  all_free none p lt = free_now p (omega (arith, lt, released.keeps.total, may.total)) (ap (λ (l : List ℕ). is_listed l p) none)

  -- the plant stays that of the save
  pub of_save_on : IsOfSave old plant → IsOfSave cur now
  of_save_on of_save = record {
    fits = released.keeps.fits;
    total = released.keeps.total ∙ may.total ∙ sym same_total;
    writable = λ goes. absurd (let both : Some ends.Failed ≡ None = sym may_go_on.end ∙ goes in cc both);
    picked = λ q flag. ap (λ (l : List Bool). slice_get l q) released.picks.picked ∙ of_save.picked q (sym (ap (λ (s : SaverData). slice_get s.faulted q) released.saver.1) ∙ flag);
    hand = subst (λ (l : List Bool). IsAmong l cur.hand) (sym released.picks.picked)
        (subst (λ (s : SaverData). IsAmong plant.picked s.hand) (sym released.saver.1) of_save.hand);
  }
