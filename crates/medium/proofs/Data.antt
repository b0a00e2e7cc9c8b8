-- The plain data of a file in memory: equal in each part, equal; and within the limits where no limit is passed.
use Rattle.std.proofs.Common.{◌≡◌, inl, inr, ℕ, List}
use Rattle.std.proofs.lemmas.Bool.{cases_lt}
use Rattle.medium.specs.History.{Event, count_writes, bytes_written}
use Rattle.medium.specs.Memory.{CallCount, MediumData, IsPastLimits, IsWithinLimits}
use Rattle.std.proofs.Common.{◌+◌}

abbrev pub data_of : List ℕ → ℕ → ℕ → List Event → CallCount → ℕ → MediumData
data_of first room writes past count syncs = record { first = first; past = past; room = room; writes = writes; count = count; syncs = syncs }

pub same_data : (first : List ℕ) (room writes : ℕ) (past later : List Event) (count counted : CallCount) (syncs synced : ℕ)
    → past ≡ later → count ≡ counted → syncs ≡ synced → data_of first room writes past count syncs ≡ data_of first room writes later counted synced
same_data first room writes past later count counted syncs synced p q r = λ i. data_of first room writes (p i) (q i) (r i)

pub within_limits : (m : MediumData) (at n : ℕ) → ¬ IsPastLimits m at n → IsWithinLimits m at n
within_limits m at n not_past = elim (cases_lt m.room (at + n)) [
  | inl past ↦ absurd (not_past (inl past))
  | inr room ↦ elim (cases_lt (count_writes m.past) m.writes) [
    | inr all ↦ absurd (not_past (inr (inl all)))
    | inl some ↦ elim (cases_lt m.room (bytes_written m.past + n)) [
      | inl past ↦ absurd (not_past (inr (inr past)))
      | inr bytes ↦ record { room = room; writes = some; bytes = bytes }
    ]
  ]
]
