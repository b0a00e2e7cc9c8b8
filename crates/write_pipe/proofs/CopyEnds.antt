-- What the copier's end keeps when a page is copied.
use Rattle.std.proofs.Common.{◌≡◌, ◌≢◌, inl, inr, ℕ, ◌+◌, ◌<◌, ◌≤◌, eq-eqb, Bool, true, false, List, length, get_or, eqb, refl, sym, ap, ◌∙◌, subst, arith}
use Rattle.std.specs.Prelude.{slice_get, slice_set, Some, None, IfSome, if◌then◌else◌}
use Rattle.std.specs.List.{count_by}
use Rattle.std.proofs.lemmas.Bool.{cases_Bool, true≢false, eqb-true}
use Rattle.std.proofs.lemmas.List.{length-set}
use Rattle.std.proofs.lemmas.List.Sums.{sum_by-set}
use Rattle.std.proofs.lemmas.Option.{slice_get-get_or}
use Rattle.ram_block.specs.PageLinks.{is_listed}
use Rattle.flat_machine.proofs.Events.{slice_get-set_other}
use Rattle.page_sweep.specs.Sweep.{IsSweep, without}
use Rattle.page_sweep.proofs.Linked.{distinct_ascending}
use Rattle.page_sweep.proofs.Removed.{absent-without, length-without}
use Rattle.bg_saver.proofs.Limits.{not_left}
use Rattle.page_cell.specs.Plant.{PlantState, CopiesOut}
use Rattle.bg_saver.specs.declared.counts.Counts.{Counts}
use Rattle.write_pipe.specs.declared.copy_end.Wanted.{Wanted}
use Rattle.write_pipe.specs.CopyEnd.{CopyData, IsCopied, IsCopyEnd, IsOfCopy, without_page}

-- one flag more
count_set : (flags : List Bool) (p : ℕ) → p < length flags → (slice_get flags p ≡ Some true → ⊥) → count_by (λ (flag : Bool). flag) (slice_set flags p true) ≡ count_by (λ (flag : Bool). flag) flags + 1
count_set flags p within clear = elim (cases_Bool (get_or flags p false)) [
  | inl set ↦ absurd (clear (slice_get-get_or flags p false within ∙ ap Some set))
  | inr unset ↦
      let one : Bool → ℕ = λ flag. if flag then 1 else 0 in
      let sum : count_by (λ (flag : Bool). flag) (slice_set flags p true) + one (get_or flags p false) ≡ count_by (λ (flag : Bool). flag) flags + 1 = sum_by-set one flags p true false within in
      let none : one (get_or flags p false) ≡ 0 = ap one unset in
      omega (arith, sum, none)
]

module _ {P : Type 0} (count : P → ℕ) (stood : P → List (List ℕ) → Type 0) (d : CopyData P) (p : ℕ) (is : IsCopyEnd count stood d) (none : d.hand ≡ None) (page : p < count d.inlet.from)
    (here : is_listed d.left p ≡ true) (sweep : IsSweep (record { pages = count d.inlet.from; list = without d.left p })) where
  one_less : length d.left ≡ length (without d.left p) + 1
  one_less = length-without d.left p (distinct_ascending d.left is.sweep.ascending) here

  -- so one page more can be counted
  pub room_to_count : d.counts.faults + d.counts.sweep + 1 ≤ count d.inlet.from
  room_to_count = omega (arith, is.all, one_less)

  not_counted : slice_get d.faulted p ≡ Some true → ⊥
  not_counted counted = true≢false (sym here ∙ is.copied p counted)

  copied_now : (q : ℕ) → slice_get (slice_set d.faulted p true) q ≡ Some true → is_listed (without d.left p) q ≡ false
  copied_now q flag = elim (cases_Bool (eqb q p)) [
    | inl same ↦ subst (λ x. is_listed (without d.left p) x ≡ false) (sym (eqb-true q p same)) (absent-without d.left p)
    | inr other ↦
        let apart : q ≢ p = λ is_p. (let t : eqb q p ≡ true = subst (λ x. eqb q x ≡ true) is_p (eq-eqb q q refl) in true≢false (sym t ∙ other)) in
        not_left d.left p q (is.copied q (sym (slice_get-set_other d.faulted p q true apart) ∙ flag))
  ]

  pub copied_limits : (picked : Bool) → IsCopyEnd count stood (without_page d (record { page = p; picked = picked }))
  copied_limits true = record {
    sweep = sweep;
    sent = λ q was. not_left d.left p q (is.sent q was);
    hand = subst (λ h. IfSome h (IsCopied count stood d.inlet (without d.left p))) (sym none) tt;
    wanted = tt;
    faulted = length-set d.faulted p true ∙ is.faulted;
    faults = omega (arith, is.faults, count_set d.faulted p (omega (arith, is.faulted, page)) not_counted);
    copied = copied_now;
    all = omega (arith, is.all, one_less);
  }
  copied_limits false = record {
    sweep = sweep;
    sent = λ q was. not_left d.left p q (is.sent q was);
    hand = subst (λ h. IfSome h (IsCopied count stood d.inlet (without d.left p))) (sym none) tt;
    wanted = tt;
    faulted = is.faulted;
    faults = is.faults;
    copied = λ q flag. not_left d.left p q (is.copied q flag);
    all = omega (arith, is.all, one_less);
  }

module _ {P : Type 0} (count : P → ℕ) (stood : P → List (List ℕ) → Type 0) where
  -- what the end keeps, where its parts are the same
  pub same_end : (d : CopyData P) (left : List ℕ) (counts : Counts) (faulted : List Bool) → IsCopyEnd count stood d → left ≡ d.left → counts ≡ d.counts → faulted ≡ d.faulted →
      IsCopyEnd count stood (record d { left = left; counts = counts; faulted = faulted })
  same_end d left counts faulted is l c f = subst (IsCopyEnd count stood) (λ j. record d { left = sym l j; counts = sym c j; faulted = sym f j }) is

  -- a page that is left wasn't sent
  pub not_sent : (d : CopyData P) (p : ℕ) → IsCopyEnd count stood d → is_listed d.left p ≡ true → is_listed d.inlet.sent p ≡ false
  not_sent d p is here = elim (cases_Bool (is_listed d.inlet.sent p)) [
    | inl was ↦ absurd (true≢false (sym here ∙ is.sent p was))
    | inr never ↦ never
  ]

  -- the page that was copied may be pushed
  pub may_push : {R : Type 0} (d : CopyData P) (plant now : PlantState R) (taken : Wanted) (bytes : List ℕ) → IsCopyEnd count stood d → IsOfCopy count stood (record d { wanted = None }) plant →
      taken.page < count d.inlet.from → is_listed d.left taken.page ≡ true → CopiesOut plant now taken.page bytes →
      IsCopied count stood d.inlet (without d.left taken.page) (record { page = taken.page; bytes = bytes })
  may_push d plant now taken bytes is of within here copies = record {
    page = within;
    first = not_sent d taken.page is here;
    copied = absent-without d.left taken.page;
    bytes = λ pages stands. copies.bytes pages (of.stands pages stands);
  }
