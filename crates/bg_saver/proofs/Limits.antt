-- What each saver keeps when a page is copied, and when it ends.
use Rattle.std.proofs.Common.{◌≡◌, ◌≢◌, inl, inr, ℕ, ◌+◌, ◌<◌, ◌≤◌, eq-eqb, Bool, true, false, List, [], ◌∷◌, length, get_or, eqb, refl, sym, ap, ◌∙◌, subst, arith}
use Rattle.std.specs.Prelude.{slice_get, slice_set, Some, None, if◌then◌else◌}
use Rattle.std.specs.List.{count_by}
use Rattle.std.proofs.lemmas.Bool.{cases_Bool, true≢false, eqb-true}
use Rattle.std.proofs.lemmas.List.{length-set}
use Rattle.std.proofs.lemmas.List.Sums.{sum_by-set}
use Rattle.std.proofs.lemmas.Option.{slice_get-get_or}
use Rattle.ram_block.specs.PageLinks.{is_listed}
use Rattle.flat_machine.proofs.Events.{slice_get-set_other}
use Rattle.page_sweep.specs.Sweep.{IsSweep, SweepData, without}
use Rattle.page_sweep.proofs.Linked.{distinct_ascending, left_without}
use Rattle.page_sweep.proofs.Removed.{absent-without, length-without}
use Rattle.bg_saver.specs.Saver.{SaverData, IsSaver, total_of}
use Rattle.bg_saver.specs.Turn.{after_fault, after_save}
use Rattle.bg_saver.specs.declared.counts.Counts.{Counts}
use Rattle.bg_saver.specs.declared.save_end.SaveEnd.TheVariants as ends

-- a page that isn't left is never left again
pub not_left : (q : List ℕ) (p x : ℕ) → is_listed q x ≡ false → is_listed (without q p) x ≡ false
not_left q p x none = elim (cases_Bool (is_listed (without q p) x)) [
  | inl here ↦ absurd (true≢false (sym (left_without q p x here) ∙ none))
  | inr out ↦ out
]

-- one flag more
count_set : (flags : List Bool) (p : ℕ) → p < length flags → (slice_get flags p ≡ Some true → ⊥) → count_by (λ (flag : Bool). flag) (slice_set flags p true) ≡ count_by (λ (flag : Bool). flag) flags + 1
count_set flags p within clear = elim (cases_Bool (get_or flags p false)) [
  | inl set ↦ absurd (clear (slice_get-get_or flags p false within ∙ ap Some set))
  | inr unset ↦
      let one : Bool → ℕ = λ flag. if flag then 1 else 0 in
      let sum : count_by (λ (flag : Bool). flag) (slice_set flags p true) + one (get_or flags p false) ≡ count_by (λ (flag : Bool). flag) flags + 1 = sum_by-set one flags p true false within in
      let none : one (get_or flags p false) ≡ 0 = ap one unset in
      omega (arith, sum, none)
]

length_bits : (bits : List Bool) (p : ℕ) (zeros : Bool) → length (if zeros then bits else slice_set bits p true) ≡ length bits
length_bits bits p true = refl
length_bits bits p false = length-set bits p true

module _ (d : SaverData) (p : ℕ) (limits : IsSaver d) (runs : d.end ≡ None) (page : p < total_of d) (here : is_listed d.left p ≡ true) (sweep : IsSweep (record { pages = total_of d; list = without d.left p })) where
  goes_on : d.end ≡ Some ends.Failed → ⊥
  goes_on failed = let both : None ≡ Some ends.Failed = sym runs ∙ failed in cc both

  one_less : length d.left ≡ length (without d.left p) + 1
  one_less = length-without d.left p (distinct_ascending d.left limits.sweep.ascending) here

  not_counted : slice_get d.faulted p ≡ Some true → ⊥
  not_counted counted = true≢false (sym here ∙ limits.copied p counted)

  copied_now : (q : ℕ) → slice_get (slice_set d.faulted p true) q ≡ Some true → is_listed (without d.left p) q ≡ false
  copied_now q flag = elim (cases_Bool (eqb q p)) [
    | inl same ↦ subst (λ x. is_listed (without d.left p) x ≡ false) (sym (eqb-true q p same)) (absent-without d.left p)
    | inr other ↦
        let apart : q ≢ p = λ is. (let t : eqb q p ≡ true = subst (λ x. eqb q x ≡ true) is (eq_self q) in true≢false (sym t ∙ other)) in
        not_left d.left p q (limits.copied q (sym (slice_get-set_other d.faulted p q true apart) ∙ flag))
  ]
    where
      eq_self : (x : ℕ) → eqb x x ≡ true
      eq_self x = eq-eqb x x refl

  pub saved_limits : (picked zeros : Bool) → IsSaver (after_save d (record { page = p; picked = picked }) zeros)
  saved_limits true zeros = record {
    shape = limits.shape;
    bits = length_bits d.bits p zeros ∙ limits.bits;
    sweep = sweep;
    hand = tt;
    faulted = length-set d.faulted p true ∙ limits.faulted;
    faults = omega (arith, limits.faults, count_set d.faulted p (omega (arith, limits.faulted, page)) not_counted);
    copied = copied_now;
    most = omega (arith, limits.most, one_less);
    all = λ _. omega (arith, limits.all goes_on, one_less);
  }
  saved_limits false zeros = record {
    shape = limits.shape;
    bits = length_bits d.bits p zeros ∙ limits.bits;
    sweep = sweep;
    hand = tt;
    faulted = limits.faulted;
    faults = limits.faults;
    copied = λ q flag. not_left d.left p q (limits.copied q flag);
    most = omega (arith, limits.most, one_less);
    all = λ _. omega (arith, limits.all goes_on, one_less);
  }

-- a page that is taken off the list after a failure
length_less : (q : List ℕ) (p : ℕ) → length (without q p) ≤ length q
length_less [] p = omega arith
length_less (a ∷ q) p = elim (cases_Bool (eqb p a)) [
  | inl same ↦ rw same (omega (arith, length_less q p))
  | inr other ↦ rw other (omega (arith, length_less q p))
]

pub fault_limits : (d : SaverData) (p : ℕ) → IsSaver d → IsSweep (record { pages = total_of d; list = without d.left p }) → IsSaver (after_fault d p)
fault_limits d p limits sweep = record {
  shape = limits.shape;
  bits = length-set d.bits p true ∙ limits.bits;
  sweep = sweep;
  hand = tt;
  faulted = limits.faulted;
  faults = limits.faults;
  copied = λ q flag. not_left d.left p q (limits.copied q flag);
  most = omega (arith, limits.most, length_less d.left p);
  all = λ runs. absurd (runs refl);
}

pub let_go_limits : (d : SaverData) (p : ℕ) → IsSaver d → d.end ≡ Some ends.Failed → IsSweep (record { pages = total_of d; list = without d.left p }) → IsSaver (record d { left = without d.left p })
let_go_limits d p limits failed sweep = record {
  shape = limits.shape;
  bits = limits.bits;
  sweep = sweep;
  hand = limits.hand;
  faulted = limits.faulted;
  faults = limits.faults;
  copied = λ q flag. not_left d.left p q (limits.copied q flag);
  most = omega (arith, limits.most, length_less d.left p);
  all = λ runs. absurd (runs failed);
}

-- what each saver keeps, where its parts are the same
pub same_limits : (d : SaverData) (bits : List Bool) (left : List ℕ) (counts : Counts) (faulted : List Bool) → IsSaver d → bits ≡ d.bits → left ≡ d.left → counts ≡ d.counts → faulted ≡ d.faulted
    → IsSaver (record d { bits = bits; left = left; counts = counts; faulted = faulted })
same_limits d bits left counts faulted limits b l c f =
    subst IsSaver (λ j. record d { bits = sym b j; left = sym l j; counts = sym c j; faulted = sym f j }) limits

-- the sweep over all pages, without one
pub swept : (total : ℕ) (old now : SweepData) (p : ℕ) → old.pages ≡ total → now ≡ record { pages = old.pages; list = without old.list p } → IsSweep now
    → IsSweep (record { pages = total; list = without old.list p })
swept total old now p pages is kept = subst IsSweep (is ∙ ap (λ n. record { pages = n; list = without old.list p }) pages) kept
