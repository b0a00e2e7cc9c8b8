-- A file under way through the calls of a list: what it has, and what a crash leaves.
use Rattle.std.proofs.Common.{◌≡◌, inl, inr, ℕ, ◌<◌, Bool, true, false, List, [], ◌∷◌, length, Option, Some, option_map, refl, sym, ap, ◌∙◌, subst}
use Rattle.std.specs.Prelude.{IfSome}
use Rattle.medium.specs.Bytes.{written}
use Rattle.medium.specs.Crash.{Only}
use Rattle.medium.specs.Members.{file_state}
use Rattle.medium.specs.States.{FileState}
use Rattle.medium.specs.declared.readable.Readable as readable
use Rattle.medium.proofs.Runs.{goes_on, after_synced_step, leaves_weaker}
use Rattle.flat_machine.specs.Machine.{MachineData}
use Rattle.file_plan.specs.Layout.{Lay, StandsAt, file_of}
use Rattle.file_plan.specs.UnderWay.{IsLaidSoFar, IsShutFile}
use Rattle.file_plan.specs.declared.format.TheConstants.{GATE}
use Rattle.file_plan.proofs.UnderWay.{piece_more}
use Rattle.bg_saver.specs.Steps.{FileCall, Write, Sync, LeavesCall, LeavesSync, AllGoWell, IsCutShort}
use Rattle.bg_saver.specs.Writes.{IsRefusedOr, IsShut, IsShutNow, LeavesSince, LeavesWrite}
use Rattle.bg_saver.proofs.Torn.{gate_image, shut_refused, torn_shut}

-- a write of a piece behind the gate byte, or a sync
abbrev pub IsPieceCall : MachineData → FileCall → Type 0
IsPieceCall i (Write at bytes) = (0 < at) × (0 < length bytes) × StandsAt (file_of i) at bytes
IsPieceCall i Sync = Unit {0}

abbrev pub ArePieceCalls : MachineData → List FileCall → Type 0
ArePieceCalls i [] = Unit {0}
ArePieceCalls i (call ∷ calls) = IsPieceCall i call × ArePieceCalls i calls

-- the ranges that are written after such calls
abbrev pub ranges_after : List FileCall → List (ℕ × ℕ) → List (ℕ × ℕ)
ranges_after [] ranges = ranges
ranges_after (Write at bytes ∷ calls) ranges = ranges_after calls ((at, length bytes) ∷ ranges)
ranges_after (Sync ∷ calls) ranges = ranges_after calls ranges

-- the file now, of a run that began there: its bytes are the machine's so far, and a crash leaves its gate shut
pub record IsOnWay (i : MachineData) (ranges : List (ℕ × ℕ)) (start now : FileState) : Type 0 where
  pub told : (bytes : List ℕ) × (now.told ≡ Some bytes) × IsLaidSoFar bytes i ranges
  pub shut : IsShutNow now
  pub since : LeavesSince start now IsShut

-- after one call, whatever it answered, a crash leaves the gate shut
pub write_shut : (at : ℕ) (bytes : List ℕ) (went_well : Bool) (old new : FileState) → 0 < at → IsShutNow old → LeavesWrite at bytes went_well old new → IsShutNow new
write_shut at bytes went_well old new behind shut call image left = let from = call.images image left in torn_shut at (length bytes) from.0 image behind (shut from.0 from.1) from.2

pub call_shut : (i : MachineData) (call : FileCall) (went_well : Bool) (start old new : FileState) → IsPieceCall i call → IsShutNow old → LeavesSince start old IsShut → LeavesCall call went_well old new
    → IsShutNow new × LeavesSince start new IsShut
call_shut i (Write at bytes) went_well start old new piece shut since call =
    let now : IsShutNow new = write_shut at bytes went_well old new piece.0 shut call in
    (now, goes_on since call.time now)
call_shut i Sync went_well start old new piece shut since call =
    let now : IsShutNow new = λ image left. shut image (call.no_more image left) in
    (now, goes_on since call.time now)

told_written : (f : List ℕ → List ℕ) (old new : Option (List ℕ)) (bytes : List ℕ) → new ≡ option_map f old → old ≡ Some bytes → new ≡ Some (f bytes)
told_written f old new bytes step is = step ∙ ap (option_map f) is

pub call_on : (i : MachineData) (ranges : List (ℕ × ℕ)) (call : FileCall) (start old new : FileState) → IsPieceCall i call → IsOnWay i ranges start old → LeavesCall call true old new
    → IsOnWay i (ranges_after (call ∷ []) ranges) start new
call_on i ranges (Write at bytes) start old new piece way call =
    let file = way.told in
    let shut = call_shut i (Write at bytes) true start old new piece way.shut way.since call in
    record {
      told = (written at bytes file.0, told_written (written at bytes) old.told new.told file.0 call.told file.1, piece_more file.0 bytes i ranges at file.2 piece.0 piece.1 piece.2);
      shut = shut.0;
      since = shut.1;
    }
call_on i ranges Sync start old new piece way call =
    let file = way.told in
    let shut = call_shut i Sync true start old new piece way.shut way.since call in
    record { told = (file.0, call.told ∙ file.1, file.2); shut = shut.0; since = shut.1 }

after_one : (call : FileCall) (calls : List FileCall) (ranges : List (ℕ × ℕ)) → ranges_after calls (ranges_after (call ∷ []) ranges) ≡ ranges_after (call ∷ calls) ranges
after_one (Write at bytes) calls ranges = refl
after_one Sync calls ranges = refl

module _ {M : Type 0} (g : readable.Ghosts M) (i : MachineData) (start : FileState) where
  pub all_on : (calls : List FileCall) (ranges : List (ℕ × ℕ)) (old new : M) → ArePieceCalls i calls → IsOnWay i ranges start (file_state g old) → AllGoWell g calls old new
      → IsOnWay i (ranges_after calls ranges) start (file_state g new)
  all_on [] ranges old new pieces way all = subst (λ m. IsOnWay i ranges start (file_state g m)) (sym all) way
  all_on (call ∷ calls) ranges old new pieces way all =
      let here = call_on i ranges call start (file_state g old) (file_state g all.0) pieces.0 way all.1 in
      subst (λ (r : List (ℕ × ℕ)). IsOnWay i r start (file_state g new)) (after_one call calls ranges) (all_on calls (ranges_after (call ∷ []) ranges) all.0 new pieces.1 here all.2)

  pub cut_since : (calls : List FileCall) (ranges : List (ℕ × ℕ)) (old new : M) → ArePieceCalls i calls → IsOnWay i ranges start (file_state g old) → IsCutShort g calls old new
      → LeavesSince start (file_state g new) IsShut
  cut_since [] ranges old new pieces way cut = absurd cut
  cut_since (call ∷ calls) ranges old new pieces way (inl here) = (call_shut i call false start (file_state g old) (file_state g new) pieces.0 way.shut way.since here).1
  cut_since (call ∷ calls) ranges old new pieces way (inr later) =
      cut_since calls (ranges_after (call ∷ []) ranges) later.0 new pieces.1 (call_on i ranges call start (file_state g old) (file_state g later.0) pieces.0 way later.1) later.2

  -- ---- The end of a file

  shut_or : (now : FileState) → LeavesSince start now IsShut → LeavesSince start now (IsRefusedOr i)
  shut_or now since = leaves_weaker (λ image shut. inl (shut_refused image shut)) since

  -- a sync, the gate and a sync
  abbrev last_calls : List FileCall
  last_calls = Sync ∷ (Write 0 (GATE ∷ []) ∷ (Sync ∷ []))

  module _ (bytes : List ℕ) (lays : Lay (file_of i) i) (whole : IsShutFile bytes i) where
    -- the first sync
    first_since : (went_well : Bool) (old new : FileState) → IsShutNow old → LeavesSince start old IsShut → LeavesSync went_well old new → LeavesSince start new (IsRefusedOr i)
    first_since went_well old new shut since call = shut_or new (goes_on since call.time (λ image left. shut image (call.no_more image left)))

    only_now : (old new : FileState) → old.told ≡ Some bytes → LeavesSync true old new → Only bytes new.may_leave
    only_now old new told call = subst (λ (o : Option (List ℕ)). IfSome o (λ b. Only b new.may_leave)) told (call.durable refl)

    gate_now : (went_well : Bool) (old new : FileState) → Only bytes old.may_leave → LeavesWrite 0 (GATE ∷ []) went_well old new → (image : List ℕ) → new.may_leave image → IsRefusedOr i image
    gate_now went_well old new only call image left = gate_image i bytes image lays whole (after_synced_step only call.images image left)

    pub end_cut : (old new : M) → (file_state g old).told ≡ Some bytes → IsShutNow (file_state g old) → LeavesSince start (file_state g old) IsShut → IsCutShort g last_calls old new
        → LeavesSince start (file_state g new) (IsRefusedOr i)
    end_cut old new told shut since (inl first) = first_since false (file_state g old) (file_state g new) shut since first
    end_cut old new told shut since (inr (one, sync, inl gate)) =
        let only = only_now (file_state g old) (file_state g one) told sync in
        goes_on (first_since true (file_state g old) (file_state g one) shut since sync) gate.time (gate_now false (file_state g one) (file_state g new) only gate)
    end_cut old new told shut since (inr (one, sync, inr (two, gate, inl last))) =
        let only = only_now (file_state g old) (file_state g one) told sync in
        let now = gate_now true (file_state g one) (file_state g two) only gate in
        goes_on (goes_on (first_since true (file_state g old) (file_state g one) shut since sync) gate.time now) last.time (λ image left. now image (last.no_more image left))
    end_cut old new told shut since (inr (one, sync, inr (two, gate, inr (three, last, none)))) = absurd none

    pub record IsEnded (now : FileState) : Type 0 where
      pub since : LeavesSince start now (IsRefusedOr i)
      pub told : now.told ≡ Some (file_of i)
      pub only : Only (file_of i) now.may_leave

    pub end_all : (old new : M) → (file_state g old).told ≡ Some bytes → IsShutNow (file_state g old) → LeavesSince start (file_state g old) IsShut → AllGoWell g last_calls old new
        → IsEnded (file_state g new)
    end_all old new told shut since (one, sync, (two, gate, (three, last, same))) =
        let only = only_now (file_state g old) (file_state g one) told sync in
        let now = gate_now true (file_state g one) (file_state g two) only gate in
        let one_told : (file_state g one).told ≡ Some bytes = sync.told ∙ told in
        let two_told : (file_state g two).told ≡ Some (file_of i) = told_written (written 0 (GATE ∷ [])) (file_state g one).told (file_state g two).told bytes gate.told one_told ∙ ap Some (sym whole.opens) in
        subst (λ m. IsEnded (file_state g m)) (sym same) (record {
          since = goes_on (goes_on (first_since true (file_state g old) (file_state g one) shut since sync) gate.time now) last.time (λ image left. now image (last.no_more image left));
          told = last.told ∙ two_told;
          only = subst (λ (o : Option (List ℕ)). IfSome o (λ b. Only b (file_state g three).may_leave)) two_told (last.durable refl);
        })
