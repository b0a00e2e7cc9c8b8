-- The images of a file in memory, and those since an earlier moment.
use Rattle.std.proofs.Common.{inl, inr, ⊎_elim, ℕ, List, [], ◌∷◌, length, sym, subst, arith}
use Rattle.medium.specs.Crash.{Torn, Follows, Only, Elapses}
use Rattle.medium.specs.History.{Event, Wrote, Synced, bytes_after, MayLeave, MightHaveLeft, synced}
use Rattle.medium.specs.Memory.{MediumData, images_of}
use Rattle.medium.specs.Laws.{torn_same, whole_image}

-- one event more
pub elapses_event : (first : List ℕ) (past : List Event) (event : Event)
    → Elapses (length past) (length (event ∷ past)) (MightHaveLeft first past) (MightHaveLeft first (event ∷ past)) (MayLeave first (event ∷ past))
elapses_event first past event = record {
  later = omega arith;
  nothing_else = λ t image le left. ⊎_elim (λ now. inr now) (λ before. inl before.1) left;
  keeps = λ t image le left. inr (le, left);
}

-- a sync, of which a second one behind the first is none
pub elapses_sync : (first : List ℕ) (past : List Event)
    → Elapses (length past) (length (synced past)) (MightHaveLeft first past) (MightHaveLeft first (synced past)) (MayLeave first (synced past))
elapses_sync first [] = record { later = omega arith; nothing_else = λ t image le left. inl left; keeps = λ t image le left. left }
elapses_sync first (Wrote at bytes ∷ past) = elapses_event first (Wrote at bytes ∷ past) Synced
elapses_sync first (Synced ∷ past) = record { later = omega arith; nothing_else = λ t image le left. inl left; keeps = λ t image le left. left }

-- after a sync there is one image, the bytes
pub only_synced : (first : List ℕ) (past : List Event) → Only (bytes_after first past) (MayLeave first (synced past))
only_synced first [] image left = left
only_synced first (Wrote at bytes ∷ past) image left = left
only_synced first (Synced ∷ past) image left = left

pub no_more_synced : (first : List ℕ) (past : List Event) (image : List ℕ) → MayLeave first (synced past) image → MayLeave first past image
no_more_synced first past image left = subst (MayLeave first past) (sym (only_synced first past image left)) (whole_image first past)

-- a write that failed
pub follows_same : (m : MediumData) (at n : ℕ) → Follows (Torn at n) (images_of m) (images_of m)
follows_same m at n image left = (image, left, torn_same at n image)
