-- Runs: one after another, an event more, and their beginnings.
use Rattle.std.proofs.Common.{◌≡◌, ℕ, ◌≤◌, List, [], ◌∷◌, ◌++◌, length, take, Option, Some, None, refl, ◌∙◌, ap}
use Rattle.std.proofs.lemmas.List.{take-append-le}
use Rattle.flat_machine.specs.Machine.{MachineData}
use Rattle.flat_machine.specs.Next.{next}
use Rattle.flat_machine.specs.Run.{run_on, run}

-- no event leaves what there is
pub run_on-nil : (m : Option MachineData) → run_on m [] ≡ m
unfolding run_on
run_on-nil None = refl
run_on-nil (Some m) = refl

-- one order after another
pub run_on-append : (m : Option MachineData) (o p : List ℕ) → run_on m (o ++ p) ≡ run_on (run_on m o) p
unfolding run_on
run_on-append None o p = refl
run_on-append (Some m) [] p = refl
run_on-append (Some m) (k ∷ o) p = run_on-append (next m k) o p

-- the same, from a machine
pub run-append : (m : MachineData) (o p : List ℕ) → run m (o ++ p) ≡ run_on (run m o) p
run-append m o p = run_on-append (Some m) o p

-- an order of one event
pub run-one : (m : MachineData) (k : ℕ) → run m (k ∷ []) ≡ next m k
unfolding run_on
run-one m k = run_on-nil (next m k)

-- a run goes on by its next event
pub run-push : (m n : MachineData) (o : List ℕ) (k : ℕ) → run m o ≡ Some n → run m (o ++ k ∷ []) ≡ next n k
run-push m n o k ran = run-append m o (k ∷ []) ∙ ap (λ r. run_on r (k ∷ [])) ran ∙ run-one n k

-- an event more leaves the beginnings of an order
pub take-push : (o : List ℕ) (k t : ℕ) → t ≤ length o → take t (o ++ k ∷ []) ≡ take t o
take-push o k t h = take-append-le t o (k ∷ []) h

-- and so their runs
pub run-take-push : (m : MachineData) (o : List ℕ) (k t : ℕ) → t ≤ length o → run m (take t (o ++ k ∷ [])) ≡ run m (take t o)
run-take-push m o k t h = ap (run m) (take-push o k t h)

-- the law of runs
pub ruleset run_laws = (run-push, run-take-push, run-append)
