-- Turns one after another, by what they make of the file.
use Rattle.std.proofs.Common.{◌≡◌, inl, inr, ℕ, true, false, List, Option, Some, None, refl, sym, ◌∙◌, subst, arith}
use Rattle.std.specs.Prelude.{◌⊎◌, IfSome, IsSome}
use Rattle.std.proofs.lemmas.Option.{none-some}
use Rattle.medium.specs.Count.{HasRisen}
use Rattle.medium.specs.Members.{file_state}
use Rattle.medium.specs.declared.readable.Readable as readable
use Rattle.medium.proofs.Runs.{run_on}
use Rattle.flat_machine.specs.Machine.{MachineData}
use Rattle.bg_saver.specs.Save.{IsWhole}
use Rattle.bg_saver.specs.Writes.{IsRefusedOr, LeavesSince}
use Rattle.bg_saver.specs.declared.save_end.SaveEnd.{SaveEnd}
use Rattle.bg_saver.specs.declared.save_end.SaveEnd.TheVariants.{Complete, Failed}
use Rattle.sliced_run.specs.Sliced.{IsSyncedBy, IsWritten, SlicedData, WritesOn}

-- what holds where the bytes are told
told_both : (told other : Option (List ℕ)) (P Q R : Type 0) → IfSome told (λ _. IsSome other) → IfSome told (λ _. P) → IfSome other (λ _. Q) → (P → Q → R) → IfSome told (λ _. R)
told_both None other P Q R telling first second f = tt
told_both (Some bytes) None P Q R telling first second f = absurd (let no : false ≡ true = telling in cc)
told_both (Some bytes) (Some others) P Q R telling first second f = f first second

telling_on : (a b c : Option (List ℕ)) → IfSome a (λ _. IsSome b) → IfSome b (λ _. IsSome c) → IfSome a (λ _. IsSome c)
telling_on None b c first second = tt
telling_on (Some bytes) None c first second = absurd (let no : false ≡ true = first in cc)
telling_on (Some bytes) (Some others) c first second = second

-- what the last file has, the first one being told
whole_on : (a b : Option (List ℕ)) (i : MachineData) (P : Type 0) → IfSome a (λ _. IsSome b) → IfSome b (λ _. P) → IfSome a (λ _. P)
whole_on None b i P telling whole = tt
whole_on (Some bytes) None i P telling whole = absurd (let no : false ≡ true = telling in cc)
whole_on (Some bytes) (Some others) i P telling whole = whole

module _ {M : Type 0} (g : readable.Ghosts M) (i : MachineData) where
  crash_on : (a b c : M) → (b ≡ a) ⊎ LeavesSince (file_state g a) (file_state g b) (IsRefusedOr i) → (c ≡ b) ⊎ LeavesSince (file_state g b) (file_state g c) (IsRefusedOr i) →
      (c ≡ a) ⊎ LeavesSince (file_state g a) (file_state g c) (IsRefusedOr i)
  crash_on a b c (inl same) (inl also) = inl (also ∙ same)
  crash_on a b c (inl same) (inr since) = inr (subst (λ (m : M). LeavesSince (file_state g m) (file_state g c) (IsRefusedOr i)) same since)
  crash_on a b c (inr since) (inl also) = inr (subst (λ (m : M). LeavesSince (file_state g a) (file_state g m) (IsRefusedOr i)) (sym also) since)
  crash_on a b c (inr since) (inr later) = inr (run_on since later)

  -- no turn
  pub writes_none : (x : SlicedData) (file : M) → IsWritten i x (file_state g file) → WritesOn g i x x file file
  writes_none x file way = record {
    ended = λ _. (refl, refl);
    way = way;
    whole = λ none complete. absurd (none-some Complete (sym none ∙ complete));
    failed = λ none failed. absurd (none-some Failed (sym none ∙ failed));
    never_falls = omega arith;
    syncs = λ none. subst (λ o. IsSyncedBy o (g.syncs file) (g.syncs file)) (sym none) refl;
    telling = tells (g.told file);
    crash = same (g.told file);
  }
    where
      tells : (told : Option (List ℕ)) → IfSome told (λ _. IsSome told)
      tells None = tt
      tells (Some bytes) = refl

      same : (told : Option (List ℕ)) → IfSome told (λ _. (file ≡ file) ⊎ LeavesSince (file_state g file) (file_state g file) (IsRefusedOr i))
      same None = tt
      same (Some bytes) = inl refl

  -- turns, and turns behind them
  pub writes_then : (x y z : SlicedData) (a b c : M) → WritesOn g i x y a b → WritesOn g i y z b c → WritesOn g i x z a c
  writes_then x y z a b c one two = record {
    ended = λ over.
        (let first = one.ended over in
        let second = two.ended (λ none. over (sym first.0 ∙ none)) in
        (second.0 ∙ first.0, second.1 ∙ first.1));
    way = two.way;
    whole = λ none complete. whole_by y.saved refl none complete;
    failed = λ none failed. failed_by y.saved refl none failed;
    never_falls = omega (arith, one.never_falls, two.never_falls);
    syncs = λ none. synced_by y.saved refl none;
    telling = telling_on (g.told a) (g.told b) (g.told c) one.telling two.telling;
    crash = told_both (g.told a) (g.told b) _ _ _ one.telling one.crash two.crash (crash_on a b c);
  }
    where
      whole_by : (o : Option SaveEnd) → y.saved ≡ o → x.saved ≡ None → z.saved ≡ Some Complete → IsWhole i (g.told a) (file_state g c)
      whole_by None is none complete = whole_on (g.told a) (g.told b) i _ one.telling (two.whole is complete)
      whole_by (Some end) is none complete =
          let over = two.ended (λ gone. none-some end (sym gone ∙ is)) in
          subst (λ (m : M). IsWhole i (g.told a) (file_state g m)) (sym over.1) (one.whole none (sym over.0 ∙ complete))

      failed_by : (o : Option SaveEnd) → y.saved ≡ o → x.saved ≡ None → z.saved ≡ Some Failed → HasRisen (g.faults a) (g.faults c)
      failed_by None is none failed = omega (arith, one.never_falls, two.failed is failed)
      failed_by (Some end) is none failed =
          let over = two.ended (λ gone. none-some end (sym gone ∙ is)) in
          subst (λ (m : M). HasRisen (g.faults a) (g.faults m)) (sym over.1) (one.failed none (sym over.0 ∙ failed))

      synced_by : (o : Option SaveEnd) → y.saved ≡ o → x.saved ≡ None → IsSyncedBy z.saved (g.syncs a) (g.syncs c)
      synced_by None is none =
          let same : g.syncs b ≡ g.syncs a = subst (λ o. IsSyncedBy o (g.syncs a) (g.syncs b)) is (one.syncs none) in
          subst (λ n. IsSyncedBy z.saved n (g.syncs c)) same (two.syncs is)
      synced_by (Some end) is none =
          let over = two.ended (λ gone. none-some end (sym gone ∙ is)) in
          subst (λ o. IsSyncedBy o (g.syncs a) (g.syncs c)) (sym over.0) (subst (λ (m : M). IsSyncedBy y.saved (g.syncs a) (g.syncs m)) (sym over.1) (one.syncs none))
