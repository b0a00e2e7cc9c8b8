-- What the replay of an order gives (this project's own events, docs/MACHINE.md).
use Rattle.std.specs.Prelude.{◌≡◌, ℕ, ◌+◌, ◌<◌, List, [], ◌∷◌, length, take, slice_index, true, Option, Some, None, Result, Ok, Err}
use Rattle.flat_machine.specs.Machine.{MachineData}
use Rattle.flat_machine.specs.Next.{next}
use Rattle.flat_machine.specs.Run.{halted_at, run}

-- the run stops at this place of the order, in this machine: the member there names a vCPU that is halted
pub record StopsAt (m : MachineData) (o : List ℕ) (before : MachineData) (place : ℕ) : Type 0 where
  pub within : place < length o
  pub ran : run m (take place o) ≡ Some before
  pub halted : halted_at before (slice_index o place) ≡ true

-- the machine after the whole order, or the one in which its run stops, and the place
abbrev pub Replays : MachineData → List ℕ → Result MachineData (MachineData × ℕ) → Type 0
Replays m o (Ok last) = run m o ≡ Some last
Replays m o (Err stopped) = StopsAt m o stopped.0 stopped.1

-- how many events there were, after one more where there is one
abbrev pub made_after : ℕ → Option MachineData → ℕ
made_after made None = made
made_after made (Some m) = made + 1

-- how many events were made where the run of an order ends before its last member; the run so far made so many
unfoldable pub halted_behind : ℕ → Option MachineData → List ℕ → Option ℕ
halted_behind made None o = Some made
halted_behind made (Some m) [] = None
halted_behind made (Some m) (k ∷ o) = halted_behind (made_after made (next m k)) (next m k) o

-- the place of the first member that names a vCPU which is halted at its turn, where there is one
abbrev pub halted_place : MachineData → List ℕ → Option ℕ
halted_place m o = halted_behind 0 (Some m) o
