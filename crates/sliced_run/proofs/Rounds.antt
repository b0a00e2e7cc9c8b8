-- Rounds of a phase in which no page is protected: each takes from every vCPU whose phase has not ended one of the events
-- that are left to it.
use Rattle.std.proofs.Common.{◌≡◌, inl, inr, ℕ, zero, suc, ◌+◌, ◌-◌, ◌*◌, ◌<◌, ◌≤◌, Bool, true, false, List, [], ◌∷◌, ◌++◌, All, length, get_or, map, take, Option, Some, None, refl, sym, ◌∙◌, ap, subst, arith, zero-add}
use Rattle.std.specs.Prelude.{if◌then◌else◌, slice_index}
use Rattle.std.specs.List.{range_with_len}
use Rattle.std.proofs.lemmas.Bool.{cases_lt}
use Rattle.std.proofs.lemmas.List.{append_assoc, append-nil, map-append, map-id, take_all}
use Rattle.std.proofs.lemmas.List.FromFn.{get_or-range_with_len, length-range_with_len, map-range_with_len_more}
use Rattle.std.proofs.lemmas.Option.{same_Some}
use Rattle.flat_machine.specs.Machine.{MachineData, Rest}
use Rattle.flat_machine.specs.Next.{next}
use Rattle.flat_machine.specs.Run as runs
use Rattle.flat_machine.specs.Run.{Progress, ended_at, ends_of, has_ended, run, turn}
use Rattle.flat_machine.specs.UnderWay.{IsUnderWay, left_at}
use Rattle.flat_machine.proofs.PhaseEnds.{comes, events_of}
use Rattle.flat_machine.proofs.RoundPhases.{Turned, none_left_at, turned}
use Rattle.page_cell.specs.Core.{CpuTurn, core_turn, stopped_page}
use Rattle.plain_bus.specs.Bus.{BusData, IsBus, LeavesTry, after_try, phase_ended, progress_of, with_event, with_turn}
use Rattle.plain_bus.specs.declared.answer.StepAnswer.{StepAnswer}
use Rattle.vm_words.specs.declared.turns.TurnOf.{TurnOf}
use Rattle.vm_words.specs.declared.turns.TurnOf.TheVariants.{Cpu}
use Rattle.sliced_run.specs.CoreRun.{SlicedPhase, SlicedState, cpu_turn, rounds_of, round_turns, sliced_after}
use Rattle.sliced_run.proofs.CpuTurns.{unstopped}
use Rattle.sliced_run.proofs.Turns.{idle_rounds}

-- ---- A turn, as one of the flat machine

event_progress : (d : BusData) (k : ℕ) (m : Option MachineData) → progress_of (with_event d k m) ≡ runs.with_event (progress_of d) k m
event_progress d k None = refl
event_progress d k (Some m) = refl

turn_by : (d : BusData) (k : ℕ) (b : Bool) → stopped_page d.machine d.writable k ≡ None →
    progress_of (if b then d else with_turn d k (stopped_page d.machine d.writable k)) ≡ (if b then progress_of d else runs.with_event (progress_of d) k (next d.machine k))
turn_by d k true free = refl
turn_by d k false free = ap (λ page. progress_of (with_turn d k page)) free ∙ event_progress d k (next d.machine k)

-- where no page is protected, the turn of a vCPU on the bus is its turn in a round
turn_is : (d : BusData) (k : ℕ) → IsBus d → All (λ w. w ≡ true) d.writable → progress_of (after_try d k) ≡ turn (ends_of d.instant d.run) (progress_of d) k
unfolding after_try turn
turn_is d k is free =
    turn_by d k (phase_ended d k) (unstopped d.machine d.writable k free)
    ∙ ap (λ ends. if ended_at (slice_index ends k) d.machine k then progress_of d else runs.with_event (progress_of d) k (next d.machine k)) is.ends

-- so it takes an event from its vCPU
pub takes_event : (d new : BusData) (k : ℕ) (answer : StepAnswer) → IsBus d → k < length d.instant.vcpus → All (λ w. w ≡ true) d.writable → LeavesTry d k answer new →
    Turned d.instant d.run (progress_of d) (progress_of new) k (k + 1)
takes_event d new k answer is h free leaves =
    let same : progress_of new ≡ turn (ends_of d.instant d.run) (progress_of d) k = ap progress_of leaves.after ∙ turn_is d k is free in
    subst (λ p. Turned d.instant d.run (progress_of d) p k (k + 1)) (sym same) (turned d.instant d.run (progress_of d) k h is.way)

-- before the first turn of a round
pub no_event : (i : MachineData) (n : ℕ) (p : Progress) → IsUnderWay i n p → Turned i n p p 0 0
no_event i n p way = record { way = way; less = λ j low high. absurd (omega arith); most = λ j. omega arith }

-- one turn more
pub one_more : (i : MachineData) (n : ℕ) (p q r : Progress) (k : ℕ) → Turned i n p q 0 k → Turned i n q r k (k + 1) → Turned i n p r 0 (k + 1)
one_more i n p q r k first second = record {
  way = second.way;
  less = λ j low high. elim (cases_lt j k) as (λ _. left_at i n r.machine j ≤ left_at i n p.machine j - 1) [
    | inl earlier ↦ omega (arith, first.less j low earlier, second.most j)
    | inr here ↦ omega (arith, first.most j, second.less j here (omega arith))
  ];
  most = λ j. omega (arith, first.most j, second.most j);
}

-- ---- All rounds

-- no vCPU has more than two events for each instruction left
pub left_most : (i : MachineData) (n : ℕ) (p : Progress) (j : ℕ) → Rest i → IsUnderWay i n p → left_at i n p.machine j ≤ 2 * n
left_most i n p j rest way =
    let come = comes i n p.order (length p.order) rest way.each (omega arith) in
    let same : come.machine ≡ p.machine =
    same_Some come.machine p.machine (sym come.ran ∙ ap (run i) (take_all (length p.order) p.order (omega arith)) ∙ way.ran) in
    let own = subst (λ (a : MachineData). events_of j (take (length p.order) p.order) + left_at i n a j ≤ 2 * n) same (come.own j) in
    omega (arith, own)

-- one with none left has ended its phase
pub all_ended : (i : MachineData) (n : ℕ) (p : Progress) (j : ℕ) → IsUnderWay i n p → left_at i n p.machine j ≤ 0 → has_ended i n p.machine j ≡ true
all_ended i n p j way none = none_left_at i n p.machine j way.on (omega (arith, none))

-- ---- The turns of a round

range_push : (n : ℕ) → range_with_len 0 (n + 1) ≡ range_with_len 0 n ++ n ∷ []
range_push n =
    sym (map-id (range_with_len 0 (n + 1))) ∙ map-range_with_len_more (λ (x : ℕ). x) 0 n n (omega arith)
    ∙ ap (λ l. l ++ n ∷ []) (map-id (range_with_len 0 n))

-- one vCPU more
pub turns_push : (before : List TurnOf) (k : ℕ) → (before ++ map Cpu (range_with_len 0 k)) ++ Cpu k ∷ [] ≡ before ++ map Cpu (range_with_len 0 (k + 1))
turns_push before k =
    append_assoc before (map Cpu (range_with_len 0 k)) (Cpu k ∷ [])
    ∙ ap (λ l. before ++ l) (sym (map-append Cpu (range_with_len 0 k) (k ∷ [])) ∙ ap (map Cpu) (sym (range_push k)))

-- one round more
rounds_front : (i : MachineData) (r : ℕ) → rounds_of i r ++ round_turns i ≡ round_turns i ++ rounds_of i r
unfolding rounds_of
rounds_front i zero = sym (append-nil (round_turns i))
rounds_front i (suc r) = append_assoc (round_turns i) (rounds_of i r) (round_turns i) ∙ ap (λ l. round_turns i ++ l) (rounds_front i r)

rounds_more : (i : MachineData) (r : ℕ) → rounds_of i (suc r) ≡ round_turns i ++ rounds_of i r
unfolding rounds_of
rounds_more i r = refl

pub rounds_push : (before : List TurnOf) (i : MachineData) (r : ℕ) → (before ++ rounds_of i r) ++ round_turns i ≡ before ++ rounds_of i (r + 1)
rounds_push before i r =
    append_assoc before (rounds_of i r) (round_turns i)
    ∙ ap (λ l. before ++ l) (rounds_front i r ∙ sym (rounds_more i r) ∙ ap (rounds_of i) (let e : suc r ≡ r + 1 = omega arith in e))

-- ---- A round in which every phase has ended

idle_turn : (phase : SlicedPhase) (s : SlicedState) (k : ℕ) → has_ended phase.instant phase.run s.core.machine k ≡ true → cpu_turn phase s k ≡ s
unfolding cpu_turn
idle_turn phase s k over = ap (λ b. if b then s else record s { core = core_turn s.core (CpuTurn k) }) over

idle_turns : (phase : SlicedPhase) (s : SlicedState) (ks : List ℕ) → All (λ k. has_ended phase.instant phase.run s.core.machine k ≡ true) ks →
    sliced_after phase s (map Cpu ks) ≡ s
unfolding sliced_after
idle_turns phase s [] all = refl
idle_turns phase s (k ∷ ks) all =
    ap (λ t. sliced_after phase t (map Cpu ks)) (idle_turn phase s k (all 0 k (omega arith)))
    ∙ idle_turns phase s ks (λ j d h. all (suc j) d (omega (arith, h)))

-- it changes nothing, and neither do those behind it
pub rounds_done : (phase : SlicedPhase) (s : SlicedState) (r most : ℕ) → r ≤ most → ((k : ℕ) → k < length phase.instant.vcpus → has_ended phase.instant phase.run s.core.machine k ≡ true) →
    sliced_after phase s (rounds_of phase.instant (most - r)) ≡ s
rounds_done phase s r most h ended =
    idle_rounds phase s phase.instant (most - r)
    (idle_turns phase s (range_with_len 0 (length phase.instant.vcpus))
    (λ j d h.
    (let within : j < length phase.instant.vcpus = omega (arith, h, length-range_with_len 0 (length phase.instant.vcpus)) in
    let here : get_or (range_with_len 0 (length phase.instant.vcpus)) j d ≡ j = get_or-range_with_len 0 (length phase.instant.vcpus) j d within ∙ zero-add j in
    subst (λ k. has_ended phase.instant phase.run s.core.machine k ≡ true) (sym here) (ended j within))))
