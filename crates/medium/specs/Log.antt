-- How a file in memory keeps its history: a log of its writes, the oldest first, beside the bytes of all of them.
use Rattle.std.specs.Prelude.{◌≡◌, ℕ, ◌+◌, ◌≤◌, Bool, true, if◌then◌else◌, List, [], ◌∷◌, length, take, drop, map}
use Rattle.medium.specs.declared.write_log.Write.{Write}
use Rattle.medium.specs.Bytes.{written}
use Rattle.medium.specs.History.{Event, Wrote, Synced, bytes_after, bytes_synced, pending}

-- a write with its bytes, and the sync behind it where there is a mark
abbrev pub entered : Write → List ℕ → List Event → List Event
entered w bytes past = if w.synced then Synced ∷ Wrote w.at bytes ∷ past else Wrote w.at bytes ∷ past

-- the events that the log tells, after earlier ones
abbrev pub events_of : List Write → List ℕ → List Event → List Event
events_of [] joined past = past
events_of (w ∷ log) joined past = events_of log (drop w.len joined) (entered w (take w.len joined) past)

-- the bytes after the writes of the log
abbrev pub replayed : List Write → List ℕ → List ℕ → List ℕ
replayed [] joined file = file
replayed (w ∷ log) joined file = replayed log (drop w.len joined) (written w.at (take w.len joined) file)

-- each write of the log has its bytes in the joined ones
abbrev pub HasBytes : List Write → List ℕ → Type 0
HasBytes [] joined = Unit {0}
HasBytes (w ∷ log) joined = (w.len ≤ length joined) × HasBytes log (drop w.len joined)

-- each of the ranges, a place and a length, ends by n
abbrev pub EndsBy : ℕ → List (ℕ × ℕ) → Type 0
EndsBy n [] = Unit {0}
EndsBy n (range ∷ ranges) = (range.0 + range.1 ≤ n) × EndsBy n ranges

-- how many bytes the writes of the log have together
abbrev pub total : List Write → ℕ
total [] = 0
total (w ∷ log) = w.len + total log

-- the log with a mark at its last write
abbrev pub marked : List Write → List Write
marked [] = []
marked (w ∷ []) = record { at = w.at; len = w.len; synced = true } ∷ []
marked (w ∷ v ∷ log) = w ∷ marked (v ∷ log)

-- the place and the length of a write
abbrev pub span : Write → ℕ × ℕ
span w = (w.at, w.len)

-- the file with the present bytes in the range of each kept write
abbrev pub kept_after : List (ℕ × ℕ) → List Bool → List ℕ → List ℕ → List ℕ
kept_after (write ∷ writes) (keep ∷ kept) present file = kept_after writes kept present (if keep then written write.0 (take write.1 (drop write.0 present)) file else file)
kept_after writes kept present file = file

-- the log, of which the first writes are synced, tells what led to the bytes
pub record IsRecord (first bytes : List ℕ) (log : List Write) (joined : List ℕ) (durable : ℕ) : Type 0 where
  pub bytes_are : bytes ≡ bytes_after first (events_of log joined [])
  pub has_bytes : HasBytes log joined
  pub ends_by : EndsBy (length bytes) (map span log)
  pub total_is : length joined ≡ total log
  pub within : durable ≤ length log
  pub synced_are : bytes_synced first (events_of log joined []) ≡ replayed (take durable log) joined first
  pub since : pending (events_of log joined []) ≡ map span (drop durable log)

-- no more is used than there is room, and memory for the room is reserved
pub record HasRoom (used room capacity : ℕ) : Type 0 where
  pub within : used ≤ room
  pub reserved : room ≤ capacity
