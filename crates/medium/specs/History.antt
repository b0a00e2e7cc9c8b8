-- What a file in memory went through: its writes and its syncs, the newest first, and what a crash leaves of them.
use Rattle.std.specs.Prelude.{◌≡◌, ◌⊎◌, ℕ, ◌+◌, ◌≤◌, max, Bool, false, ◌&&◌, ◌||◌, nat_le, nat_lt, if◌then◌else◌, List, [], ◌∷◌, ◌++◌, length, get_or}
use Rattle.medium.specs.Bytes.{written}
use Rattle.medium.specs.Crash.{Torn}

-- one step of a file's history
pub data Event : Type 0 where
  Wrote : (at : ℕ) (bytes : List ℕ) → Event
  Synced : Event

-- the bytes of a file that began with the first ones
abbrev pub bytes_after : List ℕ → List Event → List ℕ
bytes_after first [] = first
bytes_after first (Wrote at bytes ∷ past) = written at bytes (bytes_after first past)
bytes_after first (Synced ∷ past) = bytes_after first past

-- what a crash now may leave
abbrev pub MayLeave : List ℕ → List Event → List ℕ → Type 0
MayLeave first [] image = image ≡ first
MayLeave first (Wrote at bytes ∷ past) image = (before : List ℕ) × MayLeave first past before × Torn at (length bytes) before image
MayLeave first (Synced ∷ past) image = image ≡ bytes_after first past

-- what a crash might have left, now or when there were fewer events, but at least t
abbrev pub MightHaveLeft : List ℕ → List Event → ℕ → List ℕ → Type 0
MightHaveLeft first [] t image = image ≡ first
MightHaveLeft first (event ∷ past) t image = MayLeave first (event ∷ past) image ⊎ ((t ≤ length past) × MightHaveLeft first past t image)

-- after a sync: a mark behind the last write, where there is none yet
abbrev pub synced : List Event → List Event
synced [] = []
synced (Wrote at bytes ∷ past) = Synced ∷ Wrote at bytes ∷ past
synced (Synced ∷ past) = Synced ∷ past

-- how many writes there were
abbrev pub count_writes : List Event → ℕ
count_writes [] = 0
count_writes (Wrote at bytes ∷ past) = count_writes past + 1
count_writes (Synced ∷ past) = count_writes past

-- how many bytes all writes had together
abbrev pub bytes_written : List Event → ℕ
bytes_written [] = 0
bytes_written (Wrote at bytes ∷ past) = bytes_written past + length bytes
bytes_written (Synced ∷ past) = bytes_written past

-- the place and the length of each write since the last sync, the oldest first
abbrev pub pending : List Event → List (ℕ × ℕ)
pending [] = []
pending (Wrote at bytes ∷ past) = pending past ++ (at, length bytes) ∷ []
pending (Synced ∷ past) = []

-- the bytes at the last sync
abbrev pub bytes_synced : List ℕ → List Event → List ℕ
bytes_synced first [] = first
bytes_synced first (Wrote at bytes ∷ past) = bytes_synced first past
bytes_synced first (Synced ∷ past) = bytes_after first past

-- the place i is in the range of a kept write
abbrev pub is_covered : List (ℕ × ℕ) → List Bool → ℕ → Bool
is_covered (write ∷ writes) (keep ∷ kept) i = (keep && nat_le write.0 i && nat_lt i (write.0 + write.1)) || is_covered writes kept i
is_covered writes kept i = false

-- where the last of the kept writes ends, and no less than n
abbrev pub furthest_end : List (ℕ × ℕ) → List Bool → ℕ → ℕ
furthest_end (write ∷ writes) (keep ∷ kept) n = furthest_end writes kept (if keep then max n (write.0 + write.1) else n)
furthest_end writes kept n = n

-- the image is the synced bytes with the present ones in the range of each kept write, and zeros in gaps
pub record Keeps (synced present : List ℕ) (writes : List (ℕ × ℕ)) (kept : List Bool) (image : List ℕ) : Type 0 where
  pub size : length image ≡ furthest_end writes kept (length synced)
  pub bytes : (i : ℕ) → get_or image i 0 ≡ (if is_covered writes kept i then get_or present i 0 else get_or synced i 0)
