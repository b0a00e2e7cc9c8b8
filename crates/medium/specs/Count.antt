-- Counts that tell a cause: a call fails only where the count of its object rises.
use Rattle.std.specs.Prelude.{ℕ, ◌+◌, ◌-◌, ◌^◌, ◌≤◌, min, Result, IsErr}
use Rattle.medium.specs.declared.failed.Failed.{Failed}

-- one more, short of the greatest u64, at which a count stands still
abbrev pub counted : ℕ → ℕ
counted n = min (n + 1) (2 ^ 64 - 1)

-- the count rose, or stands at the greatest u64
abbrev pub HasRisen : ℕ → ℕ → Type 0
HasRisen before now = counted before ≤ now

-- the count never falls, and the call failed only where it rose
pub record HasCause {T : Type 0} (before now : ℕ) (result : Result T Failed) : Type 0 where
  pub never_falls : before ≤ now
  pub rose : IsErr result → HasRisen before now
