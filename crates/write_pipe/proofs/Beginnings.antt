-- The end of the copier begins with all pages left, over a plant of which no page is writable.
use Rattle.std.proofs.Common.{◌≡◌, ℕ, zero, suc, ◌<◌, Bool, false, not, List, [], All, Some, length, replicate, refl, sym, ap, ◌∙◌, subst, arith}
use Rattle.std.specs.List.{count_by, range_with_len}
use Rattle.std.proofs.lemmas.List.{length-replicate}
use Rattle.std.proofs.lemmas.List.FromFn.{length-range_with_len}
use Rattle.std.proofs.lemmas.Bool.{true≢false}
use Rattle.ram_block.specs.PageLinks.{is_listed}
use Rattle.page_sweep.specs.Sweep.{IsSweep, SweepData}
use Rattle.std.proofs.lemmas.Option.{slice_get-get_or}
use Rattle.page_cell.specs.Plant.{PlantState}
use Rattle.bg_saver.proofs.Begun.{all_left, clear_flag}
use Rattle.write_pipe.specs.CopyEnd.{CopyData, IsCopyEnd, IsOfCopy}
use Rattle.write_pipe.specs.Inlet.{InletData}
use Rattle.write_pipe.specs.Opening.{copies_all}

none_counted : (n : ℕ) → 0 ≡ count_by (λ (flag : Bool). flag) (replicate n false)
none_counted zero = refl
none_counted (suc n) = none_counted n

module _ {P : Type 0} (count : P → ℕ) (stood : P → List (List ℕ) → Type 0) (inlet : InletData P) (n : ℕ) (none : inlet.sent ≡ []) (total : n ≡ count inlet.from) where
  begins_all : IsSweep (record { pages = n; list = range_with_len 0 n }) → IsCopyEnd count stood (copies_all inlet n)
  begins_all sweep = record {
    sweep = subst (λ t. IsSweep (record { pages = t; list = range_with_len 0 n })) total sweep;
    sent = λ p was. absurd (true≢false (sym was ∙ ap (λ l. is_listed l p) none));
    hand = tt;
    wanted = tt;
    faulted = length-replicate n false ∙ total;
    faults = none_counted n;
    copied = λ p set. absurd (clear_flag n p set);
    all = omega (arith, length-range_with_len 0 n, total);
  }

  pub begins_copying : (sweep : SweepData) (faulted : List Bool) → sweep ≡ record { pages = n; list = range_with_len 0 n } → IsSweep sweep → faulted ≡ replicate n false →
      IsCopyEnd count stood (record (copies_all inlet n) { left = sweep.list; faulted = faulted })
  begins_copying sweep faulted all is clear =
      subst (λ (f : List Bool). IsCopyEnd count stood (record (copies_all inlet n) { left = sweep.list; faulted = f })) (sym clear)
      (subst (λ (s : SweepData). IsCopyEnd count stood (record (copies_all inlet n) { left = s.list })) (sym all) (begins_all (subst IsSweep all is)))

module _ {P R : Type 0} (count : P → ℕ) (stood : P → List (List ℕ) → Type 0) where
  -- the end of the copier is that of a plant of which no page is writable
  pub of_all : (d : CopyData P) (inlet : InletData P) (n : ℕ) (plant : PlantState R) → d ≡ copies_all inlet n → plant.fits → plant.total ≡ count inlet.from → n ≡ plant.total →
      ((pages : List (List ℕ)) → stood inlet.from pages → plant.stands pages) → length plant.writable ≡ plant.total → All (λ w. w ≡ false) plant.writable → IsOfCopy count stood d plant
  of_all d inlet n plant is fits total pages stands flags clear = subst (λ (e : CopyData P). IsOfCopy count stood e plant) (sym is) (record {
    fits = fits;
    total = total;
    stands = stands;
    writable = λ p below.
        (let within : p < length plant.writable = omega (arith, below, flags, total) in
        let left : p < n = omega (arith, below, pages, total) in
        slice_get-get_or plant.writable p false within ∙ ap Some (clear p false within) ∙ ap (λ b. Some (not b)) (sym (all_left n p left)));
    picked = λ p set. absurd (clear_flag n p set);
    wanted = tt;
  })
