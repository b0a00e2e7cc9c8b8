-- Rounds are a phase: each round takes from every vCPU whose phase has not ended one of the events that are left to it.
use Rattle.std.proofs.Common.{◌≡◌, inl, inr, ℕ, zero, suc, ◌+◌, ◌-◌, ◌*◌, ◌<◌, ◌≤◌, Bool, true, false, List, [], ◌∷◌, ◌++◌, length, get_or, map, Option, Some, refl, sym, ◌∙◌, ap, subst, arith, zero-add, length-append}
use Rattle.std.specs.Prelude.{if◌then◌else◌, slice_index}
use Rattle.std.specs.List.{slice_get, range_with_len}
use Rattle.std.specs.Option.{option_map_or}
use Rattle.std.proofs.lemmas.Bool.{cases_eq, cases_lt}
use Rattle.std.proofs.lemmas.List.{take_all, get_or_append_left, length-map}
use Rattle.std.proofs.Math.Seq.{get_or-append_seam}
use Rattle.rv64i_step.specs.Vcpu.{VcpuData}
use Rattle.flat_machine.specs.Machine.{MachineData, Rest}
use Rattle.flat_machine.specs.Next.{next}
use Rattle.flat_machine.specs.Run.{run_on, run, steps_of, vcpu_ended, ended_at, has_ended, ends_of, Progress, with_event, turn, turns, round, rounds_on, rounds_run, rounds, IsInPhase, Phase}
use Rattle.flat_machine.specs.UnderWay.{AreOn, left_of, left_at, IsUnderWay}
use Rattle.flat_machine.proofs.Runs.{run-push, take-push}
use Rattle.flat_machine.proofs.Outcomes.{option_cases}
use Rattle.flat_machine.proofs.Phases.{left_at-is, has_ended-is, ended_left, none_left, rest_on, rest_left, going_next, moves}

-- so it is before the first event
pub begins : (i : MachineData) (n : ℕ) → Rest i → IsUnderWay i n (record { machine = i; order = [] })
unfolding run_on
begins i n rest = record { ran = refl; each = λ t h. absurd (omega arith); on = rest_on i n rest; count = refl }

-- an event more leaves what was said of the earlier ones
pub in_phase-push : (i : MachineData) (n : ℕ) (o : List ℕ) (k t : ℕ) → t < length o → IsInPhase i n o t → IsInPhase i n (o ++ k ∷ []) t
in_phase-push i n o k t h was = record {
  before = was.before;
  ran = ap (run i) (take-push o k t (omega arith)) ∙ was.ran;
  going_on = ap (has_ended i n was.before) (get_or_append_left o (k ∷ []) 0 t h) ∙ was.going_on;
}

-- and is itself one of the phase
pub in_phase-last : (i : MachineData) (n : ℕ) (o : List ℕ) (k : ℕ) (m : MachineData) → run i o ≡ Some m → has_ended i n m k ≡ false →
    IsInPhase i n (o ++ k ∷ []) (length o)
in_phase-last i n o k m ran still = record {
  before = m;
  ran = ap (run i) (take-push o k (length o) (omega arith) ∙ take_all (length o) o (omega arith)) ∙ ran;
  going_on = ap (has_ended i n m) (get_or-append_seam o k [] 0) ∙ still;
}

-- a phase that goes on, with an event more
pub goes_on : (i : MachineData) (n : ℕ) (p : Progress) (k : ℕ) (after : MachineData) → IsUnderWay i n p → has_ended i n p.machine k ≡ false →
    next p.machine k ≡ Some after → IsUnderWay i n (record { machine = after; order = p.order ++ k ∷ [] })
goes_on i n p k after way still moved =
    let m = moves i n p.machine k after way.on still moved in
    record {
      ran = run-push i p.machine p.order k way.ran ∙ moved;
      each = λ t h. elim (cases_lt t (length p.order)) as (λ _. IsInPhase i n (p.order ++ k ∷ []) t) [
        | inl earlier ↦ in_phase-push i n p.order k t earlier (way.each t earlier)
        | inr last ↦
            (let here : length p.order ≡ t = omega (arith, length-append p.order (k ∷ [])) in
            subst (λ (x : ℕ). IsInPhase i n (p.order ++ k ∷ []) x) here (in_phase-last i n p.order k p.machine way.ran still))
      ];
      on = m.on;
      count = m.count ∙ way.count;
    }

-- ---- One turn

-- the counts of steps at which the phases end
ends-at : (vs : List VcpuData) (n k : ℕ) → k < length vs →
    get_or (map (λ v. v.steps + n) vs) k 0 ≡ option_map_or (λ v. v.steps) (slice_get vs k) 0 + n
ends-at [] n k h = absurd (omega arith)
ends-at (v ∷ vs) n zero h = refl
ends-at (v ∷ vs) n (suc k) h = ends-at vs n k (omega arith)

-- so a turn asks whether the phase has ended
asks-ended : (i : MachineData) (n : ℕ) (m : MachineData) (k : ℕ) → k < length i.vcpus →
    ended_at (slice_index (ends_of i n) k) m k ≡ has_ended i n m k
unfolding ends_of has_ended
asks-ended i n m k h = ap (λ until. ended_at until m k) (ends-at i.vcpus n k h)

-- where the phase of vCPU k has ended, no event is left to it
ended_left_at : (i : MachineData) (n : ℕ) (m : MachineData) (k : ℕ) → has_ended i n m k ≡ true → left_at i n m k ≡ 0
ended_left_at i n m k over =
    elim (option_cases (slice_get m.vcpus k)) as (λ _. left_at i n m k ≡ 0) [
      | inl none ↦ ap (λ o. option_map_or (left_of (steps_of i k + n)) o 0) none
      | inr (v, stood) ↦ left_at-is i n m k v stood ∙ ended_left (steps_of i k + n) v (sym (has_ended-is i n m k v stood) ∙ over)
    ]

-- and the other way round, while the phase goes on
pub none_left_at : (i : MachineData) (n : ℕ) (m : MachineData) (k : ℕ) → AreOn i n m → left_at i n m k ≡ 0 → has_ended i n m k ≡ true
unfolding has_ended
none_left_at i n m k on none =
    elim (option_cases (slice_get m.vcpus k)) as (λ _. has_ended i n m k ≡ true) [
      | inl nothing ↦ ap (λ o. option_map_or (vcpu_ended (steps_of i k + n)) o true) nothing
      | inr (v, stood) ↦
          has_ended-is i n m k v stood ∙ none_left (steps_of i k + n) v (on k v stood) (sym (left_at-is i n m k v stood) ∙ none)
    ]

-- some turns leave no vCPU with more events, and those of these numbers with one less
pub record Turned (i : MachineData) (n : ℕ) (p q : Progress) (from to : ℕ) : Type 0 where
  pub way : IsUnderWay i n q
  pub less : (j : ℕ) → from ≤ j → j < to → left_at i n q.machine j ≤ left_at i n p.machine j - 1
  pub most : (j : ℕ) → left_at i n q.machine j ≤ left_at i n p.machine j

-- the turn of a vCPU whose phase has not ended
turned_on : (i : MachineData) (n : ℕ) (p : Progress) (k : ℕ) → IsUnderWay i n p → has_ended i n p.machine k ≡ false →
    Turned i n p (with_event p k (next p.machine k)) k (k + 1)
turned_on i n p k way still =
    let g = going_next i n p.machine k way.on still in
    let m = moves i n p.machine k g.0 way.on still g.1 in
    subst (λ (r : Option MachineData). Turned i n p (with_event p k r) k (k + 1)) (sym g.1) (record {
      way = goes_on i n p k g.0 way still g.1;
      less = λ j low high.
          (let here : k ≡ j = omega arith in
          let P : ℕ → Type 0 = λ x. left_at i n g.0 x ≤ left_at i n p.machine x - 1 in
          subst P here (omega (arith, m.less)));
      most = λ j. elim (cases_eq j k) as (λ _. left_at i n g.0 j ≤ left_at i n p.machine j) [
        | inl here ↦
            (let P : ℕ → Type 0 = λ x. left_at i n g.0 x ≤ left_at i n p.machine x in
            subst P (sym here) (omega (arith, m.less)))
        | inr other ↦ omega (arith, m.others j other)
      ];
    })

-- any turn
turned_by : (i : MachineData) (n : ℕ) (p : Progress) (k : ℕ) (over : Bool) → IsUnderWay i n p → has_ended i n p.machine k ≡ over →
    Turned i n p (if over then p else with_event p k (next p.machine k)) k (k + 1)
turned_by i n p k true way is = record {
  way = way;
  less = λ j low high.
      (let here : k ≡ j = omega arith in
      let P : ℕ → Type 0 = λ x. left_at i n p.machine x ≤ left_at i n p.machine x - 1 in
      subst P here (omega (arith, ended_left_at i n p.machine k is)));
  most = λ j. omega arith;
}
turned_by i n p k false way is = turned_on i n p k way is

-- the turn as it is defined
pub turned : (i : MachineData) (n : ℕ) (p : Progress) (k : ℕ) → k < length i.vcpus → IsUnderWay i n p →
    Turned i n p (turn (ends_of i n) p k) k (k + 1)
unfolding turn
turned i n p k h way =
    subst (λ (b : Bool). Turned i n p (if b then p else with_event p k (next p.machine k)) k (k + 1))
    (sym (asks-ended i n p.machine k h)) (turned_by i n p k (has_ended i n p.machine k) way refl)

-- ---- Rounds

-- the turns of the vCPUs from number a on
turns_turned : (i : MachineData) (n : ℕ) (p : Progress) (a c : ℕ) → a + c ≤ length i.vcpus → IsUnderWay i n p →
    Turned i n p (turns (ends_of i n) p (range_with_len a c)) a (a + c)
unfolding turns
turns_turned i n p a zero h way = record { way = way; less = λ j low high. absurd (omega arith); most = λ j. omega arith }
turns_turned i n p a (suc c) h way =
    let first = turned i n p a (omega arith) way in
    let rest = turns_turned i n (turn (ends_of i n) p a) (a + 1) c (omega arith) first.way in
    let last = turns (ends_of i n) (turn (ends_of i n) p a) (range_with_len (a + 1) c) in
    record {
      way = rest.way;
      less = λ j low high. elim (cases_lt j (a + 1)) as (λ _. left_at i n last.machine j ≤ left_at i n p.machine j - 1) [
        | inl here ↦ omega (arith, first.less j low here, rest.most j)
        | inr later ↦ omega (arith, first.most j, rest.less j later (omega arith))
      ];
      most = λ j. omega (arith, first.most j, rest.most j);
    }

-- one round
round_turned : (i : MachineData) (n : ℕ) (p : Progress) → IsUnderWay i n p → Turned i n p (round (ends_of i n) p) 0 (length i.vcpus)
unfolding ends_of
round_turned i n p way =
    let count : length (ends_of i n) ≡ length i.vcpus = length-map i.vcpus (λ v. v.steps + n) in
    subst (λ (c : ℕ). Turned i n p (turns (ends_of i n) p (range_with_len 0 c)) 0 (length i.vcpus)) (sym count)
    (subst (λ (to : ℕ). Turned i n p (turns (ends_of i n) p (range_with_len 0 (length i.vcpus))) 0 to) (zero-add (length i.vcpus))
    (turns_turned i n p 0 (length i.vcpus) (omega arith) way))

-- so many rounds
record Rounded (i : MachineData) (n : ℕ) (p q : Progress) (r : ℕ) : Type 0 where
  way : IsUnderWay i n q
  less : (j : ℕ) → j < length i.vcpus → left_at i n q.machine j ≤ left_at i n p.machine j - r

-- each round takes one event from each vCPU to which one is left
rounds_rounded : (i : MachineData) (n : ℕ) (p : Progress) (r : ℕ) → IsUnderWay i n p → Rounded i n p (rounds_on (ends_of i n) r p) r
unfolding rounds_on
rounds_rounded i n p zero way = record { way = way; less = λ j h. omega arith }
rounds_rounded i n p (suc r) way =
    let first = round_turned i n p way in
    let rest = rounds_rounded i n (round (ends_of i n) p) r first.way in
    record { way = rest.way; less = λ j h. omega (arith, first.less j (omega arith) h, rest.less j h) }

-- all rounds of a phase
pub rounds_under_way : (i : MachineData) (n : ℕ) → Rest i → IsUnderWay i n (rounds_run i n)
unfolding rounds_run
rounds_under_way i n rest = (rounds_rounded i n (record { machine = i; order = [] }) (2 * n) (begins i n rest)).way

-- they end it for every vCPU
rounds_ended : (i : MachineData) (n k : ℕ) → Rest i → k < length i.vcpus → has_ended i n (rounds_run i n).machine k ≡ true
unfolding rounds_run
rounds_ended i n k rest h =
    let all = rounds_rounded i n (record { machine = i; order = [] }) (2 * n) (begins i n rest) in
    none_left_at i n (rounds_run i n).machine k all.way.on (omega (arith, all.less k h, rest_left i n k))

-- the machine that the rounds leave is that of their run
pub rounds_ran : (m : MachineData) (n : ℕ) → Rest m → run m (rounds m n) ≡ Some (rounds_run m n).machine
rounds_ran m n rest = (rounds_under_way m n rest).ran

-- rounds are a phase
pub rounds_are_phase : (m : MachineData) (n : ℕ) → Rest m → length m.vcpus ≡ m.shape.vcpus → Phase m n (rounds m n)
rounds_are_phase m n rest count =
    let way = rounds_under_way m n rest in
    record {
      last = (rounds_run m n).machine;
      ran = way.ran;
      ended = λ k h. rounds_ended m n k rest (omega arith);
      each = way.each;
    }

-- the law of rounds
pub ruleset rounds_laws = (rounds_ran, rounds_are_phase)
