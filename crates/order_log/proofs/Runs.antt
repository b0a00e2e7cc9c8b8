-- Runs that go on by the next member of an order, and runs that stop, and where.
use Rattle.std.proofs.Common.{◌≡◌, ℕ, zero, suc, ◌+◌, ◌<◌, List, [], ◌∷◌, length, take, drop, get_or, Option, Some, None, refl, sym, ◌∙◌, ap, arith}
use Rattle.std.proofs.lemmas.List.{take-append-drop, take_more, drop_more}
use Rattle.flat_machine.specs.Machine.{MachineData}
use Rattle.flat_machine.specs.Next.{next}
use Rattle.flat_machine.specs.Run.{run, run_on}
use Rattle.flat_machine.proofs.Runs.{run-append, run-push}
use Rattle.order_log.specs.Replay.{halted_behind, made_after}

-- one event more
pub run_more : (m now : MachineData) (o : List ℕ) (t : ℕ) → t < length o → run m (take t o) ≡ Some now → run m (take (t + 1) o) ≡ next now (get_or o t 0)
run_more m now o t within ran = ap (run m) (take_more o t 0 within) ∙ run-push m now (take t o) (get_or o t 0) ran

-- where there is no next event there is no run of the order
run_none : (now : MachineData) (k : ℕ) (o : List ℕ) → next now k ≡ None → run now (k ∷ o) ≡ None
unfolding run_on
run_none now k o none = ap (λ r. run_on r o) none

pub run_stops : (m now : MachineData) (o : List ℕ) (t : ℕ) → t < length o → run m (take t o) ≡ Some now → next now (get_or o t 0) ≡ None → run m o ≡ None
run_stops m now o t within ran none =
    ap (run m) (sym (take-append-drop t o))
    ∙ run-append m (take t o) (drop t o)
    ∙ ap (λ r. run_on r (drop t o)) ran
    ∙ ap (run now) (drop_more o t 0 within)
    ∙ run_none now (get_or o t 0) (drop (t + 1) o) none

-- no event has been made
pub run_starts : (m : MachineData) → run m [] ≡ Some m
unfolding run_on
run_starts m = refl

-- ---- Where a run stops

-- an order whose every event is made has no such place
pub halts_nowhere : (made : ℕ) (m : Option MachineData) (o : List ℕ) (last : MachineData) → run_on m o ≡ Some last → halted_behind made m o ≡ None
unfolding run_on halted_behind
halts_nowhere made None o last ran = absurd (cc ran)
halts_nowhere made (Some m) [] last ran = refl
halts_nowhere made (Some m) (k ∷ o) last ran = halts_nowhere (made_after made (next m k)) (next m k) o last ran

-- the event before those that a run goes on with was made
one_more : (made : ℕ) (m : Option MachineData) (o : List ℕ) (now : MachineData) → run_on m o ≡ Some now → made_after made m ≡ made + 1
unfolding run_on
one_more made None o now ran = absurd (cc ran)
one_more made (Some m) o now ran = refl

abbrev next_of : ℕ → Option MachineData → Option MachineData
next_of k None = None
next_of k (Some m) = next m k

-- the place is that of the first event that can't be made
pub halts_here : (made : ℕ) (m : Option MachineData) (o : List ℕ) (t place : ℕ) (now : MachineData) → place ≡ made + t → t < length o → run_on m (take t o) ≡ Some now → next now (get_or o t 0) ≡ None → halted_behind made m o ≡ Some place
unfolding run_on halted_behind
halts_here made None o t place now is within ran none = absurd (cc ran)
halts_here made (Some m) [] t place now is within ran none = absurd (omega (arith, within))
halts_here made (Some m) (k ∷ o) zero place now is within ran none =
    let stops : next_of k (Some now) ≡ None = none in
    ap (λ (n : Option MachineData). halted_behind (made_after made n) n o) (ap (next_of k) ran ∙ stops) ∙ ap (λ (n : ℕ). Some n) (let e : made ≡ place = omega (arith, is) in e)
halts_here made (Some m) (k ∷ o) (suc t) place now is within ran none =
    let more = one_more made (next m k) (take t o) now ran in
    halts_here (made_after made (next m k)) (next m k) o t place now (omega (arith, is, more)) (omega (arith, within)) ran none
