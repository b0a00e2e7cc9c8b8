-- A piece that is read and compared in several turns: what is known of it after each.
use Rattle.std.specs.Prelude.{◌≡◌, ◌≢◌, ⊤, ℕ, ◌+◌, ◌-◌, ◌<◌, ◌≤◌, List, [], ◌∷◌, ◌++◌, length, take, drop, slice_index, Option, IfSome, IfNone, Some, None, Result, Ok, Err, ◌==◌, if◌then◌else◌}
use Rattle.mig_stream.specs.declared.field_fault.FieldFault.{FieldFault}
use Rattle.mig_stream.specs.declared.field_fault.FieldFault.TheVariants.{Truncated, ReadFault}

-- the file has fewer bytes from the place on than the piece
abbrev pub EndsIn : List ℕ → ℕ → ℕ → Type 0
EndsIn file at len = length file - at < len

-- the file has n bytes from the place on, and they are the first of the buffer
pub record IsFront (file : List ℕ) (at n : ℕ) (buf : List ℕ) : Type 0 where
  pub room : n ≤ length file - at
  pub bytes : take n (drop at file) ≡ take n buf

-- a byte that the text hasn't at this place in it
pub record IsOther (text : List ℕ) (i found : ℕ) : Type 0 where
  pub within : i < length text
  pub is_byte : found < 256
  pub other : found ≢ slice_index text i

-- the file goes on from the place as the text does for i bytes, and then with a byte that the text hasn't there
pub record DiffersAt (file : List ℕ) (at i found : ℕ) (text : List ℕ) : Type 0 where
  pub within : i < length text
  pub so_far : take (i + 1) (drop at file) ≡ take i text ++ (found ∷ [])
  pub other : found ≢ slice_index text i

-- the first n bytes of the piece, as far as they are compared with the text
pub record IsCompared (file : List ℕ) (at n : ℕ) (text : List ℕ) (first : Option (ℕ × ℕ)) : Type 0 where
  pub room : n ≤ length file - at
  pub same : IfNone first (take n (drop at file) ≡ take n text)
  pub differs : IfSome first (λ d. DiffersAt file at d.0 d.1 text)

-- what is found where a text is looked for
abbrev pub Finds : List ℕ → ℕ → List ℕ → Result (Option (ℕ × ℕ)) FieldFault → Type 0
Finds file at text (Ok first) = IsCompared file at (length text) text first
Finds file at text (Err (Truncated start)) = EndsIn file at (length text)
Finds file at text (Err ReadFault) = ⊤

-- the first difference, after one byte more of the piece
abbrev pub note : List ℕ → ℕ → ℕ → Option (ℕ × ℕ) → Option (ℕ × ℕ)
note text i found (Some d) = Some d
note text i found None = if found == slice_index text i then None else Some (i, found)
