-- The file over the turns of a save, one after another.
use Rattle.std.proofs.Common.{◌≡◌, inl, inr, ⊎_elim, ℕ, ◌≤◌, true, false, List, [], ◌∷◌, Option, Some, None, refl, subst, arith}
use Rattle.std.specs.Prelude.{IfSome, IsSome}
use Rattle.std.proofs.lemmas.Option.{none-some}
use Rattle.medium.specs.Count.{HasRisen}
use Rattle.medium.specs.States.{FileState}
use Rattle.flat_machine.specs.Machine.{MachineData}
use Rattle.bg_saver.specs.Save.{IsWhole}
use Rattle.bg_saver.specs.Turn.{MayBeLeft}
use Rattle.bg_saver.specs.Writes.{IsRefusedOr, LeavesSince}
use Rattle.bg_saver.specs.declared.save_end.SaveEnd.{SaveEnd}
use Rattle.bg_saver.specs.declared.save_end.SaveEnd.TheVariants.{Complete, Failed}
use Rattle.sliced_run.specs.Phase.{AddsOnly, LeavesFile}
use Rattle.sliced_run.specs.Sliced.{IsSyncedBy}

-- what holds where the bytes are told
told_both : (told other : Option (List ℕ)) (P Q R : Type 0) → IfSome told (λ _. IsSome other) → IfSome told (λ _. P) → IfSome other (λ _. Q) → (P → Q → R) → IfSome told (λ _. R)
told_both None other P Q R telling first second f = tt
told_both (Some bytes) None P Q R telling first second f = absurd (let no : false ≡ true = telling in cc)
told_both (Some bytes) (Some others) P Q R telling first second f = f first second

pub telling_on : (a b c : Option (List ℕ)) → IfSome a (λ _. IsSome b) → IfSome b (λ _. IsSome c) → IfSome a (λ _. IsSome c)
telling_on None b c first second = tt
telling_on (Some bytes) None c first second = absurd (let no : false ≡ true = first in cc)
telling_on (Some bytes) (Some others) c first second = second

-- what the last file has, the first one being told
whole_on : (a b : Option (List ℕ)) (P : Type 0) → IfSome a (λ _. IsSome b) → IfSome b (λ _. P) → IfSome a (λ _. P)
whole_on None b P telling whole = tt
whole_on (Some bytes) None P telling whole = absurd (let no : false ≡ true = telling in cc)
whole_on (Some bytes) (Some others) P telling whole = whole

pub tells : (told : Option (List ℕ)) → IfSome told (λ _. IsSome told)
tells None = tt
tells (Some bytes) = refl

module _ (i : MachineData) where
  refused_or : (left : List ℕ) (image : List ℕ) → MayBeLeft left i image → IsRefusedOr i image
  refused_or [] image safe = safe
  refused_or (p ∷ left) image safe = inl safe

  adds_none : (told : Option (List ℕ)) (a : FileState) → IfSome told (λ _. AddsOnly i a a)
  adds_none None a = tt
  adds_none (Some bytes) a = record { later = omega arith; nothing_else = λ t image le left. inl left }

  -- a run, and a turn behind it
  adds_then : (left : List ℕ) (a b c : FileState) → AddsOnly i a b → LeavesSince b c (MayBeLeft left i) → AddsOnly i a c
  adds_then left a b c one since = record {
    later = omega (arith, one.later, since.later);
    nothing_else = λ t image le now.
        ⊎_elim (λ before. one.nothing_else t image le before) (λ safe. inr (refused_or left image safe)) (since.earlier t image (omega (arith, le, one.later)) now);
  }

  -- no turn
  pub leaves_none : (a : FileState) → LeavesFile i None a a
  leaves_none a = record {
    whole = λ complete. absurd (none-some Complete complete);
    failed = λ failed. absurd (none-some Failed failed);
    never_falls = omega arith;
    syncs = refl;
    crash = adds_none a.told a;
  }

  -- turns of a save that goes on, and one behind them
  pub leaves_then : (saved : Option SaveEnd) (left : List ℕ) (a b c : FileState) → LeavesFile i None a b → IfSome a.told (λ _. IsSome b.told) → b.faults ≤ c.faults →
      (saved ≡ Some Complete → IsWhole i b.told c) → (saved ≡ Some Failed → HasRisen b.faults c.faults) → IsSyncedBy saved b.syncs c.syncs →
      IfSome b.told (λ _. LeavesSince b c (MayBeLeft left i)) → LeavesFile i saved a c
  leaves_then saved left a b c one telling falls whole failed syncs crash = record {
    whole = λ complete. whole_on a.told b.told _ telling (whole complete);
    failed = λ is. (let f = failed is in let n = one.never_falls in omega (arith, n, f));
    never_falls = (let n = one.never_falls in omega (arith, n, falls));
    syncs = subst (λ n. IsSyncedBy saved n c.syncs) one.syncs syncs;
    crash = told_both a.told b.told _ _ _ telling one.crash crash (adds_then left a b c);
  }
