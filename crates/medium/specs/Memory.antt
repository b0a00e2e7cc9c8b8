-- The implementations in memory as plain data: what they keep, and what each call makes of it.
use Rattle.std.specs.Prelude.{◌≡◌, ◌⊎◌, ℕ, ◌+◌, ◌<◌, ◌≤◌, List, ◌∷◌, length, Option, Some}
use Rattle.std.specs.Option.{IsSomeAnd}
use Rattle.std.specs.List.{Contains}
use Rattle.medium.specs.Count.{counted}
use Rattle.medium.specs.States.{FileState}
use Rattle.medium.specs.History.{Event, Wrote, bytes_after, MayLeave, MightHaveLeft, synced, count_writes, bytes_written}

-- the calls that fail by plan, and how many calls were made and have failed
pub record CallCount : Type 0 where
  pub fails : List ℕ
  pub fails_from : Option ℕ
  pub made : ℕ
  pub faults : ℕ

-- the call that comes next fails by plan: its number is named, or no less than that of the first from which all fail
abbrev pub IsPlanned : CallCount → Type 0
IsPlanned c = Contains c.fails (counted c.made) ⊎ IsSomeAnd c.fails_from (λ from. from ≤ counted c.made)

-- after a call that went well
abbrev pub passed : CallCount → CallCount
passed c = record { fails = c.fails; fails_from = c.fails_from; made = counted c.made; faults = c.faults }

-- after a call that failed
abbrev pub failed : CallCount → CallCount
failed c = record { fails = c.fails; fails_from = c.fails_from; made = counted c.made; faults = counted c.faults }

-- an input: the bytes that are left
pub record SourceData : Type 0 where
  pub bytes_left : List ℕ
  pub count : CallCount

-- an output: the bytes that it has taken, of which there may be as many as its room
pub record SinkData : Type 0 where
  pub bytes_taken : List ℕ
  pub room : ℕ
  pub count : CallCount

-- a file: what it began with and went through, its limits, its calls, and how many syncs answered Ok
pub record MediumData : Type 0 where
  pub first : List ℕ
  pub past : List Event
  pub room : ℕ
  pub writes : ℕ
  pub count : CallCount
  pub syncs : ℕ

-- its bytes
abbrev pub bytes_of : MediumData → List ℕ
bytes_of m = bytes_after m.first m.past

-- what a crash now may leave
abbrev pub images_of : MediumData → List ℕ → Type 0
images_of m = MayLeave m.first m.past

-- how much has happened
abbrev pub moment_of : MediumData → ℕ
moment_of m = length m.past

-- what a crash since a moment might have left
abbrev pub since_of : MediumData → ℕ → List ℕ → Type 0
since_of m = MightHaveLeft m.first m.past

-- what the file shows
abbrev pub state_of : MediumData → FileState
state_of m = record { told = Some (bytes_of m); faults = m.count.faults; syncs = m.syncs; may_leave = images_of m; moment = moment_of m; left_since = since_of m }

-- what bytes in memory show, of which no call fails and which nothing changes
abbrev pub still_state : List ℕ → FileState
still_state bytes = record { told = Some bytes; faults = 0; syncs = 0; may_leave = λ image. image ≡ bytes; moment = 0; left_since = λ t image. image ≡ bytes }

-- a write of n bytes is past a limit: the room, the number of writes, or the room for the bytes of all writes
abbrev pub IsPastLimits : MediumData → ℕ → ℕ → Type 0
IsPastLimits m at n = (m.room < at + n) ⊎ ((m.writes ≤ count_writes m.past) ⊎ (m.room < bytes_written m.past + n))

-- a write of n bytes fails
abbrev pub WriteFails : MediumData → ℕ → ℕ → Type 0
WriteFails m at n = IsPlanned m.count ⊎ IsPastLimits m at n

-- a write of n bytes is within all limits
pub record IsWithinLimits (m : MediumData) (at n : ℕ) : Type 0 where
  pub room : at + n ≤ m.room
  pub writes : count_writes m.past < m.writes
  pub bytes : bytes_written m.past + n ≤ m.room

-- after a call that only looks
abbrev pub looked : MediumData → MediumData
looked m = record { first = m.first; past = m.past; room = m.room; writes = m.writes; count = passed m.count; syncs = m.syncs }

-- after a call that failed
abbrev pub refused : MediumData → MediumData
refused m = record { first = m.first; past = m.past; room = m.room; writes = m.writes; count = failed m.count; syncs = m.syncs }

-- after a write
abbrev pub wrote : MediumData → ℕ → List ℕ → MediumData
wrote m at bytes = record { first = m.first; past = Wrote at bytes ∷ m.past; room = m.room; writes = m.writes; count = passed m.count; syncs = m.syncs }

-- after a sync
abbrev pub made_sure : MediumData → MediumData
made_sure m = record { first = m.first; past = synced m.past; room = m.room; writes = m.writes; count = passed m.count; syncs = counted m.syncs }
