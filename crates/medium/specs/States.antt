-- What an object of the outside shows at a moment, as plain data that tells nothing of the object's type.
use Rattle.std.specs.Prelude.{◌≡◌, ℕ, ◌≤◌, List, Option}
use Rattle.medium.specs.Crash.{SameImages, Elapses}

-- a file: its bytes, where it tells them; how many calls have failed, and how many syncs have answered Ok; what a
-- crash now may leave, and what one since an earlier moment might have left
pub record FileState : Type 1 where
  pub told : Option (List ℕ)
  pub faults : ℕ
  pub syncs : ℕ
  pub may_leave : List ℕ → Type 0
  pub moment : ℕ
  pub left_since : ℕ → List ℕ → Type 0

-- an input: the bytes that are left, where it tells them, and how many calls have failed
pub record SourceState : Type 0 where
  pub left : Option (List ℕ)
  pub faults : ℕ

-- an output: the bytes that it has taken, where it tells them, and how many calls have failed
pub record SinkState : Type 0 where
  pub taken : Option (List ℕ)
  pub faults : ℕ

-- A file that was only looked at: the bytes, the syncs and the images are as they were, while calls may have failed
-- and time goes on.
pub record Leaves (old new : FileState) : Type 0 where
  pub told : new.told ≡ old.told
  pub syncs : new.syncs ≡ old.syncs
  pub never_falls : old.faults ≤ new.faults
  pub images : SameImages old.may_leave new.may_leave
  pub time : Elapses old.moment new.moment old.left_since new.left_since new.may_leave

-- the state of a file by its members, one by one, for the clauses of the trait itself
abbrev pub file_by : {M : Type 0} → (M → Option (List ℕ)) → (M → ℕ) → (M → ℕ) → (M → List ℕ → Type 0) → (M → ℕ) → (M → ℕ → List ℕ → Type 0) → M → FileState
file_by told faults syncs may_leave moment left_since m = record { told = told m; faults = faults m; syncs = syncs m; may_leave = may_leave m; moment = moment m; left_since = left_since m }
