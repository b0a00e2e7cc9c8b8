-- How a save begins: the saver at the instant, and the file with its gate byte shut.
use Rattle.std.proofs.Common.{◌≡◌, inl, inr, ℕ, zero, suc, ◌+◌, ◌<◌, ◌≤◌, Bool, true, false, not, ◌&&◌, List, [], ◌∷◌, length, drop, replicate, Option, Some, None, option_map, eqb, eq-eqb, refl, sym, ap, ◌∙◌, subst, arith}
use Rattle.std.specs.Prelude.{slice_get, IfSome, Result, Ok, Err}
use Rattle.std.specs.Result.{IsErrAnd}
use Rattle.std.specs.List.{count_by, range_with_len}
use Rattle.std.proofs.lemmas.Bool.{cases_Bool, or_left, or_right, true≢false}
use Rattle.std.proofs.lemmas.List.{get_or-replicate, length-replicate, length-drop, nil_from_length}
use Rattle.std.proofs.lemmas.List.FromFn.{length-range_with_len}
use Rattle.std.proofs.lemmas.Option.{same_Some, slice_get-get_or, slice_get_within}
use Rattle.ram_block.specs.PageLinks.{is_listed}
use Rattle.ram_block.specs.Shape.{total_pages_of}
use Rattle.page_sweep.specs.Sweep.{IsSweep}
use Rattle.medium.specs.Bytes.{written, BecomesTold}
use Rattle.medium.specs.Count.{HasRisen, counted}
use Rattle.medium.specs.Crash.{Elapses, Follows, Only, Torn}
use Rattle.medium.specs.Laws.{torn_same, torn_written}
use Rattle.medium.specs.States.{FileState, Leaves}
use Rattle.medium.proofs.Leaves.{look_on}
use Rattle.medium.proofs.Runs.{goes_on, leaves_weaker, started}
use Rattle.medium.proofs.Told.{when_told}
use Rattle.flat_machine.specs.Machine.{MachineData, IsMachine, Rest}
use Rattle.file_plan.specs.Layout.{is_saved}
use Rattle.bg_saver.specs.Begin.{Begins, FailsToBegin, IsFirstByte, IsTornGate, LeavesBegin}
use Rattle.bg_saver.specs.Save.{IsBeforeAll, Saves, saver_at}
use Rattle.bg_saver.specs.Saver.{SaverData, IsSaver}
use Rattle.bg_saver.specs.Steps.{LeavesSync}
use Rattle.bg_saver.specs.Writes.{LeavesSince, LeavesWrite}
use Rattle.bg_saver.specs.declared.save_fault.SaveFault.{SaveFault}
use Rattle.bg_saver.specs.declared.save_fault.SaveFault.TheVariants.{FileFault}
use Rattle.bg_saver.proofs.Torn.{short_refused}

-- ---- The saver

pub clear_flag : (n p : ℕ) → slice_get (replicate n false) p ≡ Some true → ⊥
clear_flag n p set =
    let within : p < n = omega (arith, slice_get_within (replicate n false) p true set, length-replicate n false) in
    let flag : slice_get (replicate n false) p ≡ Some false = slice_get-get_or (replicate n false) p false (omega (arith, within, length-replicate n false)) ∙ ap Some (get_or-replicate n p false false within) in
    true≢false (same_Some true false (sym set ∙ flag))

none_counted : (n : ℕ) → 0 ≡ count_by (λ (flag : Bool). flag) (replicate n false)
none_counted zero = refl
none_counted (suc n) = none_counted n

pub first_limits : (i : MachineData) → IsMachine i → IsSweep (record { pages = total_pages_of i.shape; list = range_with_len 0 (total_pages_of i.shape) }) → IsSaver (saver_at i)
first_limits i machine sweep =
    let total = total_pages_of i.shape in
    record {
      shape = machine.shape;
      bits = length-replicate total false;
      sweep = sweep;
      hand = tt;
      faulted = length-replicate total false;
      faults = none_counted total;
      copied = λ p set. absurd (clear_flag total p set);
      most = omega (arith, length-range_with_len 0 total);
      all = λ _. omega (arith, length-range_with_len 0 total);
    }

-- each page is left
listed_from : (a n p : ℕ) → a ≤ p → p < a + n → is_listed (range_with_len a n) p ≡ true
listed_from a zero p low high = absurd (omega arith)
listed_from a (suc n) p low high = elim (cases_Bool (eqb p a)) [
  | inl here ↦ or_left (eqb p a) (is_listed (range_with_len (a + 1) n) p) here
  | inr other ↦
      let apart : p ≡ a → ⊥ = λ same. true≢false (sym (eq-eqb p a same) ∙ other) in
      let more : a < p = omega (arith, low, apart) in
      or_right (eqb p a) (is_listed (range_with_len (a + 1) n) p) (listed_from (a + 1) n p (omega arith) (omega arith))
]

pub all_left : (n p : ℕ) → p < n → is_listed (range_with_len 0 n) p ≡ true
all_left n p lt = listed_from 0 n p (omega arith) (omega arith)

pub clear_bit : (n p : ℕ) → p < n → slice_get (replicate n false) p ≡ Some false
clear_bit n p lt = slice_get-get_or (replicate n false) p false (omega (arith, lt, length-replicate n false)) ∙ ap Some (get_or-replicate n p false false lt)

pub first_saves : (i : MachineData) → IsMachine i → Rest i → Saves (saver_at i) i
first_saves i machine rest = record {
  machine = machine;
  rest = rest;
  shape = refl;
  devices = refl;
  bits = λ p lt. clear_bit (total_pages_of i.shape) p lt ∙ ap (λ b. Some (not b && is_saved i p)) (sym (all_left (total_pages_of i.shape) p lt));
}

pub before_all : (d : SaverData) (i : MachineData) → d ≡ saver_at i → IsMachine i → Rest i → IsBeforeAll d i
before_all d i is machine rest = record { saver = is; saves = subst (λ (s : SaverData). Saves s i) (sym is) (first_saves i machine rest) }

-- ---- What a crash leaves

module _ (old : FileState) (only_now : (image : List ℕ) → old.left_since old.moment image → old.may_leave image) where
  same : (image : List ℕ) → old.may_leave image → IsTornGate old image
  same image left = (image, left, torn_same 0 1 image)

  pub none_since : LeavesSince old old (IsTornGate old)
  none_since = started only_now same

  pub look_since : (mid : FileState) → Leaves old mid → LeavesSince old mid (IsTornGate old)
  look_since mid looked = look_on none_since looked same

  gate_images : (mid new : FileState) → Leaves old mid → Follows (Torn 0 1) mid.may_leave new.may_leave → (image : List ℕ) → new.may_leave image → IsTornGate old image
  gate_images mid new looked follows image left = let from = follows image left in (from.0, (looked.images from.0).0 from.1, from.2)

  pub gate_since : (mid new : FileState) → Leaves old mid → Follows (Torn 0 1) mid.may_leave new.may_leave → Elapses mid.moment new.moment mid.left_since new.left_since new.may_leave → LeavesSince old new (IsTornGate old)
  gate_since mid new looked follows time = goes_on (look_since mid looked) time (gate_images mid new looked follows)

  pub sync_since : (mid wrote new : FileState) → Leaves old mid → Follows (Torn 0 1) mid.may_leave wrote.may_leave → Elapses mid.moment wrote.moment mid.left_since wrote.left_since wrote.may_leave
      → ((image : List ℕ) → new.may_leave image → wrote.may_leave image) → Elapses wrote.moment new.moment wrote.left_since new.left_since new.may_leave → LeavesSince old new (IsTornGate old)
  sync_since mid wrote new looked follows time no_more later = goes_on (gate_since mid wrote looked follows time) later (λ image left. gate_images mid wrote looked follows image (no_more image left))

pub first_byte : (old new : FileState) → LeavesSince old new (IsTornGate old) → Only [] old.may_leave → LeavesSince old new IsFirstByte
first_byte old new since only = leaves_weaker (λ image torn.
    let none : torn.0 ≡ [] = only torn.0 torn.1 in
    let after : drop 1 image ≡ drop 1 torn.0 = torn.2.after in
    let few : length image ≤ 1 = omega (arith, ap length after, length-drop 1 image, length-drop 1 torn.0, ap length none) in
    (few, short_refused image few)) since

-- ---- What each answer leaves

module _ (old mid : FileState) (looked : Leaves old mid) where
  told_same : (P : Option (List ℕ) → Type 0) → P mid.told → P old.told
  told_same P p = subst P looked.told p

  pub fails_to_look : HasRisen old.faults mid.faults → FailsToBegin old mid
  fails_to_look rose = record {
    rose = rose;
    syncs = looked.syncs;
    told = torn_told old.told mid.told looked.told;
    full = when_told old.told _ (λ bytes is some. looked);
  }
    where
      torn_told : (a b : Option (List ℕ)) → b ≡ a → BecomesTold (Torn 0 1) a b
      torn_told (Some bytes) b is = subst (λ (o : Option (List ℕ)). BecomesTold (Torn 0 1) (Some bytes) o) (sym is) (torn_same 0 1 bytes)
      torn_told None b is = is

  module _ (n : ℕ) (answer : IfSome old.told (λ bytes. n ≡ length bytes)) (none : n ≤ 0) where
    empty : (bytes : List ℕ) → old.told ≡ Some bytes → bytes ≡ []
    empty bytes is =
        let count : n ≡ length bytes = subst (λ (o : Option (List ℕ)). IfSome o (λ b. n ≡ length b)) is answer in
        nil_from_length bytes (omega (arith, count, none))

    full : (new : FileState) → IfSome old.told (λ bytes. 0 < length bytes → Leaves old new)
    full new = when_told old.told _ (λ bytes is some. absurd (omega (arith, some, ap length (empty bytes is))))

    pub fails_to_write : (new : FileState) → BecomesTold (Torn 0 1) mid.told new.told → HasRisen mid.faults new.faults → new.syncs ≡ mid.syncs → FailsToBegin old new
    fails_to_write new torn rose syncs = record {
      rose = omega (arith, looked.never_falls, rose);
      syncs = syncs ∙ looked.syncs;
      told = subst (λ (o : Option (List ℕ)). BecomesTold (Torn 0 1) o new.told) looked.told torn;
      full = full new;
    }

    written_torn : (a b : Option (List ℕ)) → b ≡ option_map (written 0 (0 ∷ [])) a → BecomesTold (Torn 0 1) a b
    written_torn (Some bytes) b is = subst (λ (o : Option (List ℕ)). BecomesTold (Torn 0 1) (Some bytes) o) (sym is) (torn_written 0 (0 ∷ []) bytes)
    written_torn None b is = is

    pub fails_to_sync : (wrote new : FileState) → LeavesWrite 0 (0 ∷ []) true mid wrote → LeavesSync false wrote new → FailsToBegin old new
    fails_to_sync wrote new write sync = record {
      rose = omega (arith, looked.never_falls, write.never_falls, sync.rose refl);
      syncs = sync.syncs ∙ write.syncs ∙ looked.syncs;
      told = written_torn old.told new.told (sync.told ∙ write.told ∙ ap (option_map (written 0 (0 ∷ []))) looked.told);
      full = full new;
    }

    just_begun : (wrote new : FileState) → LeavesWrite 0 (0 ∷ []) true mid wrote → LeavesSync true wrote new → IfSome new.told (λ bytes. (bytes ≡ 0 ∷ []) × Only (0 ∷ []) new.may_leave)
    just_begun wrote new write sync = begun_told old.told refl
      where
        begun_told : (o : Option (List ℕ)) → old.told ≡ o → IfSome new.told (λ bytes. (bytes ≡ 0 ∷ []) × Only (0 ∷ []) new.may_leave)
        begun_told None is = subst (λ (o : Option (List ℕ)). IfSome o (λ bytes. (bytes ≡ 0 ∷ []) × Only (0 ∷ []) new.may_leave))
            (sym (sync.told ∙ write.told ∙ ap (option_map (written 0 (0 ∷ []))) (looked.told ∙ is))) tt
        begun_told (Some bytes) is =
            let gate : wrote.told ≡ Some (0 ∷ []) = write.told ∙ ap (option_map (written 0 (0 ∷ []))) (looked.told ∙ is ∙ ap Some (empty bytes is)) in
            let only = subst (λ (o : Option (List ℕ)). IfSome o (λ b. Only b new.may_leave)) gate (sync.durable refl) in
            subst (λ (o : Option (List ℕ)). IfSome o (λ bytes. (bytes ≡ 0 ∷ []) × Only (0 ∷ []) new.may_leave)) (sym (sync.told ∙ gate)) (refl, only)

    pub begins : (i : MachineData) (wrote new : FileState) (d : SaverData) → LeavesWrite 0 (0 ∷ []) true mid wrote → LeavesSync true wrote new → IsBeforeAll d i → IsSaver d → Begins i old new d
    begins i wrote new d write sync before limits = record {
      begun = record { saver = before; told = just_begun wrote new write sync };
      empty = when_told old.told _ empty;
      syncs = sync.syncs ∙ ap counted (write.syncs ∙ looked.syncs);
      never_falls = omega (arith, looked.never_falls, write.never_falls, sync.never_falls);
      limits = limits;
    }

-- a call that failed
pub by_fault : (i : MachineData) (same_file : Type 0) (old new : FileState) (result : Result SaverData SaveFault) → IsErrAnd result (λ fault. fault ≡ FileFault) → FailsToBegin old new
    → LeavesBegin i same_file old new result
by_fault i same_file old new (Ok d) is fails = absurd is
by_fault i same_file old new (Err fault) is fails = subst (λ f. LeavesBegin i same_file old new (Err f)) (sym is) fails
