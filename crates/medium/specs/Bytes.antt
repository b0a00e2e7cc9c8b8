-- What a call of the outside does to the bytes that its object tells.
use Rattle.std.specs.Prelude.{◌≡◌, ℕ, ◌+◌, ◌-◌, ◌<◌, ◌≤◌, min, List, [], ◌++◌, length, take, drop, replicate, Option, Some, None, IsSomeAnd}

-- the bytes from the place on, as many as the buffer holds and the file has
pub record ReadsAt (file : List ℕ) (at n : ℕ) (buf : List ℕ) : Type 0 where
  pub count : n ≡ min (length buf) (length file - at)
  pub bytes : take n buf ≡ take n (drop at file)

-- the file with these bytes at this place, and zeros in a gap before it
abbrev pub written : ℕ → List ℕ → List ℕ → List ℕ
written at bytes file = take at file ++ (replicate (at - length file) 0 ++ (bytes ++ drop (at + length bytes) file))

-- an object that tells its bytes goes on telling them, and they went from old to new by the step; one that tells
-- none goes on telling none
abbrev pub BecomesTold : (List ℕ → List ℕ → Type 0) → Option (List ℕ) → Option (List ℕ) → Type 0
BecomesTold step (Some old) new = IsSomeAnd new (step old)
BecomesTold step None new = new ≡ None

-- the first n of the bytes that were left stand in the front of the buffer, and are left no more
pub record TakesFront (old : List ℕ) (new : Option (List ℕ)) (n : ℕ) (buf : List ℕ) : Type 0 where
  pub within : n ≤ length old
  pub bytes : take n buf ≡ take n old
  pub rest : new ≡ Some (drop n old)
  pub end : 0 < length buf → n ≡ 0 → old ≡ []

-- the same, where the bytes are told; an object that tells none goes on telling none
abbrev pub TakesFrom : Option (List ℕ) → Option (List ℕ) → ℕ → List ℕ → Type 0
TakesFrom (Some old) new n buf = TakesFront old new n buf
TakesFrom None new n buf = new ≡ None

-- new is old with some of the first of these bytes behind it
abbrev pub AddsFront : List ℕ → List ℕ → List ℕ → Type 0
AddsFront bytes old new = (n : ℕ) × (new ≡ old ++ take n bytes)
