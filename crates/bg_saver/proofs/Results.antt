-- What holds where a call failed, and what one call on a file leaves by its answer.
use Rattle.std.proofs.Common.{◌≡◌, ℕ, Bool, List, length, true, false, Result, Ok, Err, OnErr, option_map, IfSome, refl, subst}
use Rattle.medium.specs.Bytes.{written, BecomesTold}
use Rattle.medium.specs.Count.{HasCause, counted}
use Rattle.medium.specs.Crash.{Torn, Follows, Only, Elapses}
use Rattle.medium.specs.States.{FileState}
use Rattle.medium.specs.declared.failed.Failed.{Failed}
use Rattle.bg_saver.specs.Steps.{LeavesSync}
use Rattle.bg_saver.specs.Writes.{LeavesWrite}

pub on_err : {T E : Type 0} (result : Result T E) (P : Type 0) → P → OnErr result P
on_err (Ok value) P p = tt
on_err (Err fault) P p = p

-- the same write, by its place and its bytes
pub same_write : (at place : ℕ) (bytes text : List ℕ) (went_well : Bool) (old new : FileState) → at ≡ place → bytes ≡ text → LeavesWrite at bytes went_well old new → LeavesWrite place text went_well old new
same_write at place bytes text went_well old new a b w = subst (λ p. LeavesWrite p text went_well old new) a (subst (λ (l : List ℕ). LeavesWrite at l went_well old new) b w)

pub wrote : {T : Type 0} (value : T) (at : ℕ) (bytes : List ℕ) (old new : FileState) → new.told ≡ option_map (written at bytes) old.told → HasCause {T = T} old.faults new.faults (Ok value)
    → new.syncs ≡ old.syncs → Follows (Torn at (length bytes)) old.may_leave new.may_leave → Elapses old.moment new.moment old.left_since new.left_since new.may_leave → LeavesWrite at bytes true old new
wrote value at bytes old new whole cause syncs images time =
    record { told = whole; never_falls = cause.never_falls; rose = λ is. absurd (cc is); syncs = syncs; images = images; time = time }

pub write_failed : {T : Type 0} (fault : Failed) (at : ℕ) (bytes : List ℕ) (old new : FileState) → BecomesTold (Torn at (length bytes)) old.told new.told
    → HasCause {T = T} old.faults new.faults (Err fault) → new.syncs ≡ old.syncs → Follows (Torn at (length bytes)) old.may_leave new.may_leave
    → Elapses old.moment new.moment old.left_since new.left_since new.may_leave → LeavesWrite at bytes false old new
write_failed fault at bytes old new torn cause syncs images time =
    record { told = torn; never_falls = cause.never_falls; rose = λ is. cause.rose refl; syncs = syncs; images = images; time = time }

pub made_sure : {T : Type 0} (value : T) (old new : FileState) → IfSome old.told (λ bytes. Only bytes new.may_leave) → HasCause {T = T} old.faults new.faults (Ok value) → new.syncs ≡ counted old.syncs
    → new.told ≡ old.told → ((image : List ℕ) → new.may_leave image → old.may_leave image) → Elapses old.moment new.moment old.left_since new.left_since new.may_leave → LeavesSync true old new
made_sure value old new durable cause syncs told no_more time =
    record { told = told; never_falls = cause.never_falls; rose = λ is. absurd (cc is); syncs = syncs; durable = λ _. durable; no_more = no_more; time = time }

pub sync_failed : {T : Type 0} (fault : Failed) (old new : FileState) → HasCause {T = T} old.faults new.faults (Err fault) → new.syncs ≡ old.syncs → new.told ≡ old.told
    → ((image : List ℕ) → new.may_leave image → old.may_leave image) → Elapses old.moment new.moment old.left_since new.left_since new.may_leave → LeavesSync false old new
sync_failed fault old new cause syncs told no_more time =
    record { told = told; never_falls = cause.never_falls; rose = λ is. cause.rose refl; syncs = syncs; durable = λ is. absurd (cc is); no_more = no_more; time = time }
