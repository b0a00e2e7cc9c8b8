-- Rounds one after another, and rounds in which no vCPU makes an event.
use Rattle.std.proofs.Common.{◌≡◌, ℕ, zero, suc, ◌+◌, ◌-◌, ◌*◌, ◌<◌, ◌≤◌, Bool, true, false, List, [], ◌∷◌, ◌++◌, length, All, Option, Some, None, refl, sym, ◌∙◌, ap, arith, length-append}
use Rattle.std.proofs.Math.Nat.{mul-le-mul_left}
use Rattle.std.specs.Prelude.{if◌then◌else◌, slice_index}
use Rattle.std.specs.List.{range_with_len, slice_get}
use Rattle.std.specs.Option.{option_map_or}
use Rattle.std.proofs.lemmas.List.{map-id}
use Rattle.std.proofs.lemmas.List.FromFn.{map-range_with_len_more}
use Rattle.rv64i_step.specs.Vcpu.{VcpuData}
use Rattle.flat_machine.specs.Machine.{MachineData}
use Rattle.flat_machine.specs.Next.{next}
use Rattle.flat_machine.proofs.Outcomes.{All-slice_get}
use Rattle.flat_machine.specs.Run.{Progress, ended_at, steps_of, with_event, turn, turns, round, rounds_on}

-- one number more
range_push : (n : ℕ) → range_with_len 0 (n + 1) ≡ range_with_len 0 n ++ n ∷ []
range_push n =
    sym (map-id (range_with_len 0 (n + 1))) ∙ map-range_with_len_more (λ (x : ℕ). x) 0 n n (omega arith)
    ∙ ap (λ l. l ++ n ∷ []) (map-id (range_with_len 0 n))

-- one turn more
turns-push : (ends : List ℕ) (p : Progress) (ks : List ℕ) (k : ℕ) → turns ends p (ks ++ k ∷ []) ≡ turn ends (turns ends p ks) k
unfolding turns
turns-push ends p [] k = refl
turns-push ends p (j ∷ ks) k = turns-push ends (turn ends p j) ks k

-- no turn
pub no_turn : (ends : List ℕ) (p : Progress) → p ≡ turns ends p (range_with_len 0 0)
unfolding turns
no_turn ends p = refl

-- the turn of the next vCPU in a round
pub turn_more : (ends : List ℕ) (p q after : Progress) (k : ℕ) → q ≡ turns ends p (range_with_len 0 k) → after ≡ turn ends q k →
    after ≡ turns ends p (range_with_len 0 (k + 1))
turn_more ends p q after k so_far step =
    step ∙ ap (λ s. turn ends s k) so_far ∙ sym (turns-push ends p (range_with_len 0 k) k) ∙ ap (turns ends p) (sym (range_push k))

-- rounds, and rounds after them
rounds_on-add : (ends : List ℕ) (a b : ℕ) (p : Progress) → rounds_on ends (a + b) p ≡ rounds_on ends b (rounds_on ends a p)
unfolding rounds_on
rounds_on-add ends zero b p = ap (λ n. rounds_on ends n p) (let e : 0 + b ≡ b = omega arith in e)
rounds_on-add ends (suc a) b p =
    ap (λ n. rounds_on ends n p) (let e : suc a + b ≡ suc (a + b) = omega arith in e) ∙ rounds_on-add ends a b (round ends p)

one_round : (ends : List ℕ) (p : Progress) → rounds_on ends 1 p ≡ round ends p
unfolding rounds_on
one_round ends p = refl

-- no round
pub no_round : (ends : List ℕ) (p : Progress) → p ≡ rounds_on ends 0 p
unfolding rounds_on
no_round ends p = refl

-- one round more
pub round_more : (ends : List ℕ) (p q after : Progress) (r : ℕ) → q ≡ rounds_on ends r p → after ≡ round ends q → after ≡ rounds_on ends (r + 1) p
round_more ends p q after r so_far step =
    step ∙ ap (round ends) so_far ∙ sym (rounds_on-add ends r 1 p ∙ one_round ends (rounds_on ends r p))

-- a turn makes the order longer, or changes nothing
data TurnOutcome (p after : Progress) : Type 0 where
  Idle : after ≡ p → TurnOutcome p after
  Busy : length after.order ≡ length p.order + 1 → TurnOutcome p after

event_outcome : (p : Progress) (k : ℕ) (m : Option MachineData) → TurnOutcome p (with_event p k m)
event_outcome p k None = Idle refl
event_outcome p k (Some m) = Busy (length-append p.order (k ∷ []))

turn_either : (p : Progress) (k : ℕ) (b : Bool) → TurnOutcome p (if b then p else with_event p k (next p.machine k))
turn_either p k true = Idle refl
turn_either p k false = event_outcome p k (next p.machine k)

turn_outcome : (ends : List ℕ) (p : Progress) (k : ℕ) → TurnOutcome p (turn ends p k)
unfolding turn
turn_outcome ends p k = turn_either p k (ended_at (slice_index ends k) p.machine k)

-- the order never gets shorter
grows_by : (p after : Progress) → TurnOutcome p after → length p.order ≤ length after.order
grows_by p after (Idle same) = let e : length after.order ≡ length p.order = ap (λ (q : Progress). length q.order) same in omega arith
grows_by p after (Busy more) = omega arith

turns_grow : (ends : List ℕ) (p : Progress) (ks : List ℕ) → length p.order ≤ length (turns ends p ks).order
unfolding turns
turns_grow ends p [] = omega arith
turns_grow ends p (k ∷ ks) =
    let here = grows_by p (turn ends p k) (turn_outcome ends p k) in
    let later = turns_grow ends (turn ends p k) ks in
    omega (arith, here, later)

-- turns with no event change nothing
idle_after : (ends : List ℕ) (p after : Progress) (ks : List ℕ) → TurnOutcome p after → length (turns ends after ks).order ≡ length p.order → after ≡ p
idle_after ends p after ks (Idle same) len = same
idle_after ends p after ks (Busy more) len = let later = turns_grow ends after ks in absurd (omega (arith, later, more, len))

idle_turns : (ends : List ℕ) (p : Progress) (ks : List ℕ) → length (turns ends p ks).order ≡ length p.order → turns ends p ks ≡ p
unfolding turns
idle_turns ends p [] len = refl
idle_turns ends p (k ∷ ks) len =
    let same = idle_after ends p (turn ends p k) ks (turn_outcome ends p k) len in
    let rest : length (turns ends (turn ends p k) ks).order ≡ length (turn ends p k).order = len ∙ ap (λ (q : Progress). length q.order) (sym same) in
    idle_turns ends (turn ends p k) ks rest ∙ same

-- nor do later rounds
idle_rounds : (ends : List ℕ) (r : ℕ) (p : Progress) → round ends p ≡ p → rounds_on ends r p ≡ p
unfolding rounds_on
idle_rounds ends zero p same = refl
idle_rounds ends (suc r) p same = ap (rounds_on ends r) same ∙ idle_rounds ends r p same

-- after a round with no event all rounds are done
pub rounds_done : (ends : List ℕ) (p q after : Progress) (r most : ℕ) → r < most → q ≡ rounds_on ends r p → after ≡ round ends q →
    length after.order ≡ length q.order → after ≡ rounds_on ends most p
rounds_done ends p q after r most below so_far step len =
    let same : round ends q ≡ q = idle_turns ends q (range_with_len 0 (length ends)) (ap (λ (s : Progress). length s.order) (sym step) ∙ len) in
    let e : r + (most - r) ≡ most = omega arith in
    step ∙ same
    ∙ sym (ap (λ n. rounds_on ends n p) (sym e) ∙ rounds_on-add ends r (most - r) p ∙ ap (rounds_on ends (most - r)) (sym so_far) ∙ idle_rounds ends (most - r) q same)

-- there is room for a round more
pub room_left : (vcpus r most room : ℕ) → r < most → vcpus * most ≤ room → vcpus * r + vcpus ≤ room
room_left vcpus r most room below fits =
    let more : vcpus * (r + 1) ≤ vcpus * most = mul-le-mul_left vcpus (let h : r + 1 ≤ most = omega arith in h) in
    omega (arith, more, fits)

-- no vCPU has more steps than all have at most
bound_in : (o : Option VcpuData) (most : ℕ) → ((v : VcpuData) → o ≡ Some v → v.steps ≤ most) → option_map_or (λ (v : VcpuData). v.steps) o 0 ≤ most
bound_in None most h = omega arith
bound_in (Some v) most h = h v refl

pub steps_of-le : (m : MachineData) (k most : ℕ) → All (λ (v : VcpuData). v.steps ≤ most) m.vcpus → steps_of m k ≤ most
steps_of-le m k most all = bound_in (slice_get m.vcpus k) most (λ v is. All-slice_get (λ (v : VcpuData). v.steps ≤ most) m.vcpus k v all is)
