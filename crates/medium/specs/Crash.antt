-- What a crash may leave, between two syncs and since an earlier moment.
use Rattle.std.specs.Prelude.{◌≡◌, ◌↔◌, ◌⊎◌, ℕ, ◌+◌, ◌-◌, ◌≤◌, min, List, length, take, drop}

-- After a write of n bytes that a crash cuts short: any bytes in the range and past the old end, any length
-- between the old one and the new, and the other bytes as they were.
pub record Torn (at n : ℕ) (old new : List ℕ) : Type 0 where
  pub before : take (min at (length old)) new ≡ take at old
  pub after : drop (at + n) new ≡ drop (at + n) old
  pub no_shorter : length old ≤ length new

-- each new image is an old one after the step
abbrev pub Follows : (List ℕ → List ℕ → Type 0) → (List ℕ → Type 0) → (List ℕ → Type 0) → Type 0
Follows step old new = (image : List ℕ) → new image → (before : List ℕ) × old before × step before image

-- the images are as they were
abbrev pub SameImages : (List ℕ → Type 0) → (List ℕ → Type 0) → Type 0
SameImages old new = (image : List ℕ) → (new image ↔ old image)

-- a crash leaves these bytes and nothing else
abbrev pub Only : List ℕ → (List ℕ → Type 0) → Type 0
Only bytes images = (image : List ℕ) → images image → image ≡ bytes

-- Time goes on: since an earlier moment a crash might have left what it might have left before, or what it
-- may leave now.
pub record Elapses (before now : ℕ) (past since : ℕ → List ℕ → Type 0) (images : List ℕ → Type 0) : Type 0 where
  pub later : before ≤ now
  pub nothing_else : (t : ℕ) (image : List ℕ) → t ≤ before → since t image → past t image ⊎ images image
  pub keeps : (t : ℕ) (image : List ℕ) → t ≤ before → past t image → since t image

-- A crash at any moment of a run leaves an image that has P, and one at an earlier moment what it left before.
pub record LeavesOnly (before now : ℕ) (past since : ℕ → List ℕ → Type 0) (P : List ℕ → Type 0) : Type 0 where
  pub later : before ≤ now
  pub each : (image : List ℕ) → since before image → P image
  -- for a run that began earlier
  pub earlier : (t : ℕ) (image : List ℕ) → t ≤ before → since t image → past t image ⊎ P image

-- After two torn writes, the first place ahead of the second: any bytes in the two ranges and past the old end.
pub record TornTwice (at n bt m : ℕ) (old new : List ℕ) : Type 0 where
  pub before : take (min at (length old)) new ≡ take at old
  pub between : take (min bt (length old) - (at + n)) (drop (at + n) new) ≡ take (bt - (at + n)) (drop (at + n) old)
  pub after : drop (bt + m) new ≡ drop (bt + m) old
  pub no_shorter : length old ≤ length new
