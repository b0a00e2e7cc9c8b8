-- What each list of calls keeps: a file that tells its bytes goes on telling them, and faults never fall.
use Rattle.std.proofs.Common.{◌≡◌, inl, inr, ◌≤◌, true, false, ℕ, List, [], ◌∷◌, Option, Some, None, option_map, refl, sym, ap, subst, arith}
use Rattle.std.specs.Prelude.{Bool, IfSome, IsSome}
use Rattle.medium.specs.Bytes.{BecomesTold}
use Rattle.medium.specs.Count.{HasRisen}
use Rattle.medium.specs.Members.{file_state}
use Rattle.medium.specs.States.{FileState}
use Rattle.medium.specs.declared.readable.Readable as readable
use Rattle.bg_saver.specs.Saver.{SaverData}
use Rattle.bg_saver.specs.Steps.{FileCall, Write, Sync, LeavesCall, AllGoWell, IsCutShort, finish_calls}
use Rattle.bg_saver.specs.Turn.{LeavesFile, turn_at}
use Rattle.bg_saver.specs.declared.save_end.SaveEnd.{SaveEnd}
use Rattle.bg_saver.specs.declared.save_end.SaveEnd.TheVariants as ends
use Rattle.bg_saver.specs.declared.turn.Turn.TheVariants as turns

abbrev GoesOnTelling : Option (List ℕ) → Option (List ℕ) → Type 0
GoesOnTelling a b = IfSome a (λ bytes. IsSome b)

after_map : (f : List ℕ → List ℕ) (a b : Option (List ℕ)) → b ≡ option_map f a → GoesOnTelling a b
after_map f (Some bytes) b is = subst (λ (o : Option (List ℕ)). IsSome o) (sym is) refl
after_map f None b is = tt

after_torn : (step : List ℕ → List ℕ → Type 0) (a b : Option (List ℕ)) → BecomesTold step a b → GoesOnTelling a b
after_torn step (Some bytes) (Some later) is = refl
after_torn step (Some bytes) None is = absurd is
after_torn step None b is = tt

after_same : (a b : Option (List ℕ)) → b ≡ a → GoesOnTelling a b
after_same (Some bytes) b is = subst (λ (o : Option (List ℕ)). IsSome o) (sym is) refl
after_same None b is = tt

after_both : (a b c : Option (List ℕ)) → GoesOnTelling a b → GoesOnTelling b c → GoesOnTelling a c
after_both None b c one two = tt
after_both (Some bytes) (Some later) c one two = two
after_both (Some bytes) None c one two = absurd (cc one)

call_tells : (call : FileCall) (went_well : Bool) (old new : FileState) → LeavesCall call went_well old new → GoesOnTelling old.told new.told
call_tells (Write at bytes) true old new call = after_map _ old.told new.told call.told
call_tells (Write at bytes) false old new call = after_torn _ old.told new.told call.told
call_tells Sync went_well old new call = after_same old.told new.told call.told

call_faults : (call : FileCall) (went_well : Bool) (old new : FileState) → LeavesCall call went_well old new → old.faults ≤ new.faults
call_faults (Write at bytes) went_well old new call = call.never_falls
call_faults Sync went_well old new call = call.never_falls

call_rose : (call : FileCall) (old new : FileState) → LeavesCall call false old new → HasRisen old.faults new.faults
call_rose (Write at bytes) old new call = call.rose refl
call_rose Sync old new call = call.rose refl

module _ {M : Type 0} (g : readable.Ghosts M) where
  all_tell : (calls : List FileCall) (old new : M) → AllGoWell g calls old new → GoesOnTelling (file_state g old).told (file_state g new).told
  all_tell [] old new all = after_same (file_state g old).told (file_state g new).told (ap (λ m. (file_state g m).told) all)
  all_tell (call ∷ calls) old new all =
      after_both (file_state g old).told (file_state g all.0).told (file_state g new).told (call_tells call true (file_state g old) (file_state g all.0) all.1) (all_tell calls all.0 new all.2)

  cut_tells : (calls : List FileCall) (old new : M) → IsCutShort g calls old new → GoesOnTelling (file_state g old).told (file_state g new).told
  cut_tells [] old new cut = absurd cut
  cut_tells (call ∷ calls) old new (inl here) = call_tells call false (file_state g old) (file_state g new) here
  cut_tells (call ∷ calls) old new (inr later) =
      after_both (file_state g old).told (file_state g later.0).told (file_state g new).told (call_tells call true (file_state g old) (file_state g later.0) later.1) (cut_tells calls later.0 new later.2)

  all_faults : (calls : List FileCall) (old new : M) → AllGoWell g calls old new → (file_state g old).faults ≤ (file_state g new).faults
  all_faults [] old new all = omega (arith, ap (λ m. (file_state g m).faults) all)
  all_faults (call ∷ calls) old new all = omega (arith, call_faults call true (file_state g old) (file_state g all.0) all.1, all_faults calls all.0 new all.2)

  cut_rose : (calls : List FileCall) (old new : M) → IsCutShort g calls old new → HasRisen (file_state g old).faults (file_state g new).faults
  cut_rose [] old new cut = absurd cut
  cut_rose (call ∷ calls) old new (inl here) = call_rose call (file_state g old) (file_state g new) here
  cut_rose (call ∷ calls) old new (inr later) = omega (arith, call_faults call true (file_state g old) (file_state g later.0) later.1, cut_rose calls later.0 new later.2)

  cut_faults : (calls : List FileCall) (old new : M) → IsCutShort g calls old new → (file_state g old).faults ≤ (file_state g new).faults
  cut_faults [] old new cut = absurd cut
  cut_faults (call ∷ calls) old new (inl here) = call_faults call false (file_state g old) (file_state g new) here
  cut_faults (call ∷ calls) old new (inr later) = omega (arith, call_faults call true (file_state g old) (file_state g later.0) later.1, cut_faults calls later.0 new later.2)

  pub finish_tells : (d : SaverData) (old new : M) (end : SaveEnd) → LeavesFile g d old new end → IfSome (file_state g old).told (λ bytes. IsSome (file_state g new).told)
  finish_tells d old new ends.Complete file = all_tell (finish_calls d) old new file
  finish_tells d old new ends.Failed file = cut_tells (finish_calls d) old new file

  pub finish_faults : (d : SaverData) (old new : M) (end : SaveEnd) → LeavesFile g d old new end → (file_state g old).faults ≤ (file_state g new).faults
  finish_faults d old new ends.Complete file = all_faults (finish_calls d) old new file
  finish_faults d old new ends.Failed file = cut_faults (finish_calls d) old new file

  pub finish_rose : (d : SaverData) (old new : M) (end : SaveEnd) → LeavesFile g d old new end → turn_at end ≡ turns.Failed → HasRisen (file_state g old).faults (file_state g new).faults
  finish_rose d old new ends.Complete file is = absurd (cc is)
  finish_rose d old new ends.Failed file is = cut_rose (finish_calls d) old new file
