-- The order of events, and the places that each vCPU has in it (this project's own events, docs/MACHINE.md).
use Rattle.std.specs.Prelude.{◌≡◌, ℕ, zero, suc, ◌==◌, ◌<◌, nat_eq, true, List, [], ◌∷◌, ◌++◌, map, length, sum_by, slice_get, Some, if◌then◌else◌}
use Rattle.std.specs.List.{range_with_len, list_any}

-- the places at which k stands, ascending, where the first member has this place
abbrev pub places_from : ℕ → ℕ → List ℕ → List ℕ
places_from at k [] = []
places_from at k (j ∷ o) = if j == k then at ∷ places_from (suc at) k o else places_from (suc at) k o

abbrev pub places : ℕ → List ℕ → List ℕ
places k o = places_from 0 k o

-- the first of the traces in which a number stands, by its place among them
abbrev pub trace_of : List (List ℕ) → ℕ → ℕ
trace_of [] t = 0
trace_of (trace ∷ traces) t = if list_any (nat_eq t) trace then 0 else suc (trace_of traces t)

-- how many numbers the traces hold together
abbrev pub total_of : List (List ℕ) → ℕ
total_of traces = sum_by length traces

-- the list that holds k at place t where t stands in trace k
unfoldable pub order_of : List (List ℕ) → List ℕ
order_of traces = map (trace_of traces) (range_with_len 0 (total_of traces))

-- the traces of so many vCPUs in an order
abbrev pub traces_of : ℕ → List ℕ → List (List ℕ)
traces_of vcpus o = map (λ k. places k o) (range_with_len 0 vcpus)

-- each number is above the one before it
abbrev pub IsAscending : List ℕ → Type 0
IsAscending [] = Unit {0}
IsAscending (t ∷ []) = Unit {0}
IsAscending (t ∷ u ∷ trace) = (t < u) × IsAscending (u ∷ trace)

-- the number stands in this trace and in no other
pub record IsInOne (traces : List (List ℕ)) (t : ℕ) : Type 0 where
  pub trace : ℕ
  pub numbers : List ℕ
  pub there : slice_get traces trace ≡ Some numbers
  pub has : list_any (nat_eq t) numbers ≡ true
  pub alone : (j : ℕ) (others : List ℕ) → slice_get traces j ≡ Some others → list_any (nat_eq t) others ≡ true → j ≡ trace

-- the traces are ascending, and together hold each number below their total length exactly once
pub record AreTraces (traces : List (List ℕ)) : Type 0 where
  pub ascending : (k : ℕ) (trace : List ℕ) → slice_get traces k ≡ Some trace → IsAscending trace
  pub below : (k : ℕ) (trace : List ℕ) (t : ℕ) → slice_get traces k ≡ Some trace → list_any (nat_eq t) trace ≡ true → t < total_of traces
  pub each : (t : ℕ) → t < total_of traces → IsInOne traces t

-- the traces with one number more in trace k
abbrev pub with_number : List (List ℕ) → ℕ → ℕ → List (List ℕ)
with_number [] k t = []
with_number (trace ∷ traces) zero t = (trace ++ t ∷ []) ∷ traces
with_number (trace ∷ traces) (suc k) t = trace ∷ with_number traces k t
