-- A phase, event by event: what each vCPU keeps, and how many events it can still make.
use Rattle.std.proofs.Common.{◌≡◌, ◌≢◌, inl, inr, ℕ, ◌+◌, ◌-◌, ◌*◌, ◌<◌, ◌≤◌, true, false, ◌||◌, eqb, length, Option, Some, None, refl, sym, ◌∙◌, ap, subst, arith}
use Rattle.std.specs.List.{slice_get}
use Rattle.std.specs.Option.{is_some, option_map_or}
use Rattle.std.proofs.lemmas.Bool.{true≢false, false≢true, cases_Bool, cases_eq, or_cases, eqb-true, eqb-false}
use Rattle.std.proofs.lemmas.Option.{same_Some, none-some}
use Rattle.rv64i_step.specs.Outcome.{FetchOutcome, Halting, Awaiting, Finishing}
use Rattle.rv64i_step.specs.Vcpu.{VcpuData}
use Rattle.rv64i_step.specs.declared.access.Access.{Access}
use Rattle.rv64i_step.specs.declared.state.State.{State}
use Rattle.rv64i_step.specs.declared.state.State.TheVariants.{Running, Halted}
use Rattle.flat_machine.specs.Laws.{EventOutcome, OfFetch, OfAccess}
use Rattle.flat_machine.specs.Machine.{MachineData, Rest}
use Rattle.flat_machine.specs.Next.{next}
use Rattle.flat_machine.specs.Run.{is_halted, steps_of, vcpu_ended, has_ended}
use Rattle.flat_machine.specs.UnderWay.{IsOn, AreOn, made_of, left_in, left_of, left_at}
use Rattle.flat_machine.proofs.Outcomes.{AwaitMemory, none_awaits, outcome_kind, option_cases, All-slice_get, next_event, next_others, next_count, next_on, halted_at-is}

-- ---- One vCPU

-- with nothing pending there is only its count of steps
pub on_without : (until : ℕ) (v : VcpuData) → v.pending ≡ None → v.steps ≤ until → IsOn until v
on_without until v none steps = record {
  kind = none_awaits v none;
  runs = λ access pending. absurd (none-some access (sym none ∙ pending));
  below = λ access pending. absurd (none-some access (sym none ∙ pending));
  steps = steps;
}

-- of one that runs
left_running : (until : ℕ) (v : VcpuData) (p : Option Access) → v.state ≡ Running → v.pending ≡ p →
    left_of until v ≡ 2 * (until - v.steps) - made_of p
left_running until v p runs pending =
    ap (λ s. left_in s (2 * (until - v.steps) - made_of v.pending)) runs ∙ ap (λ o. 2 * (until - v.steps) - made_of o) pending

-- what an event does: the vCPU stays in the phase, with an event less to make
pub record GoesOn (until : ℕ) (v after : VcpuData) : Type 0 where
  pub on : IsOn until after
  pub less : left_of until after < left_of until v

-- an event of a vCPU whose phase has not ended
on_fetch : (until : ℕ) (v after : VcpuData) → v.state ≡ Running → v.steps < until → v.pending ≡ None → FetchOutcome v after → GoesOn until v after
on_fetch until v after runs below none (Halting cause h) =
    let left = left_running until v None runs none in
    let gone : left_of until after ≡ 0 = ap (λ s. left_in s (2 * (until - after.steps) - made_of after.pending)) h.state in
    let steps : after.steps ≤ until = omega (arith, h.steps) in
    record { on = on_without until after h.pending steps; less = omega (arith, left, gone) }
on_fetch until v after runs below none (Awaiting access a) =
    let left = left_running until v None runs none in
    let now = left_running until after (Some access) (a.state ∙ runs) a.pending in
    record {
      on = record {
        kind = outcome_kind v after (OfFetch none (Awaiting access a));
        runs = λ other pending. a.state ∙ runs;
        below = λ other pending. omega (arith, a.steps);
        steps = omega (arith, a.steps);
      };
      less = omega (arith, left, now, a.steps);
    }
on_fetch until v after runs below none (Finishing f) =
    let left = left_running until v None runs none in
    let now = left_running until after None (f.state ∙ runs) f.pending in
    record { on = on_without until after f.pending (omega (arith, f.steps)); less = omega (arith, left, now, f.steps) }

-- any event of such a vCPU
pub on_event : (until : ℕ) (v after : VcpuData) → v.state ≡ Running → v.steps < until → EventOutcome v after → GoesOn until v after
on_event until v after runs below (OfFetch none outcome) = on_fetch until v after runs below none outcome
on_event until v after runs below (OfAccess some f) =
    elim (option_cases v.pending) as (λ _. GoesOn until v after) [
      | inl none ↦ absurd (false≢true (sym (ap is_some none) ∙ some))
      | inr (access, pending) ↦
          (let left = left_running until v (Some access) runs pending in
          let now = left_running until after None (f.state ∙ runs) f.pending in
          record { on = on_without until after f.pending (omega (arith, f.steps)); less = omega (arith, left, now, f.steps) })
    ]

-- a state and a count of steps with which a phase has not ended
not_ended_in : (until : ℕ) (s : State) (steps : ℕ) → (is_halted s || eqb steps until) ≡ false → (s ≡ Running) × (steps ≢ until)
not_ended_in until Running steps on = (refl, eqb-false steps until on)
not_ended_in until (Halted cause) steps on = absurd (true≢false on)

-- a phase that has not ended: the vCPU runs, and has not its steps
pub not_ended : (until : ℕ) (v : VcpuData) → vcpu_ended until v ≡ false → (v.state ≡ Running) × (v.steps ≢ until)
not_ended until v on = not_ended_in until v.state v.steps on

-- and with which it has: no event is left
ended_left_in : (until : ℕ) (s : State) (steps made : ℕ) → (is_halted s || eqb steps until) ≡ true → left_in s (2 * (until - steps) - made) ≡ 0
ended_left_in until Running steps made over = omega (arith, eqb-true steps until over)
ended_left_in until (Halted cause) steps made over = refl

-- where a phase has ended, no event is left
pub ended_left : (until : ℕ) (v : VcpuData) → vcpu_ended until v ≡ true → left_of until v ≡ 0
ended_left until v over = ended_left_in until v.state v.steps (made_of v.pending) over

-- where no event is left, the phase has ended
pub none_left : (until : ℕ) (v : VcpuData) → IsOn until v → left_of until v ≡ 0 → vcpu_ended until v ≡ true
none_left until v on none =
    elim (cases_Bool (vcpu_ended until v)) as (λ _. vcpu_ended until v ≡ true) [
      | inl over ↦ over
      | inr going ↦
          (let runs = (not_ended until v going).0 in
          let steps = (not_ended until v going).1 in
          elim (option_cases v.pending) as (λ _. vcpu_ended until v ≡ true) [
            | inl nothing ↦ (let left = left_running until v None runs nothing in absurd (omega (arith, left, none, on.steps, steps)))
            | inr (access, pending) ↦
                (let left = left_running until v (Some access) runs pending in absurd (omega (arith, left, none, on.below access pending)))
          ])
    ]

-- and no access is pending
pub ended_pending : (until : ℕ) (v : VcpuData) → IsOn until v → vcpu_ended until v ≡ true → v.pending ≡ None
ended_pending until v on over =
    elim (option_cases v.pending) as (λ _. v.pending ≡ None) [
      | inl nothing ↦ nothing
      | inr (access, pending) ↦
          elim (or_cases (is_halted v.state) (eqb v.steps until) over) as (λ _. v.pending ≡ None) [
            | inl halted ↦ absurd (false≢true (sym (ap is_halted (on.runs access pending)) ∙ halted))
            | inr same ↦ absurd (omega (arith, eqb-true v.steps until same, on.below access pending))
          ]
    ]

-- ---- All vCPUs of a machine, in a phase of n instructions from machine i

-- so each pending access is of a load, a store or an AMO
pub on_kind : (i : MachineData) (n : ℕ) (m : MachineData) → AreOn i n m → AwaitMemory m
on_kind i n m on k v stood = (on k v stood).kind

-- the events left, the steps and the end of vCPU k are those of the vCPU there
pub left_at-is : (i : MachineData) (n : ℕ) (m : MachineData) (k : ℕ) (v : VcpuData) → slice_get m.vcpus k ≡ Some v →
    left_at i n m k ≡ left_of (steps_of i k + n) v
left_at-is i n m k v stood = ap (λ o. option_map_or (left_of (steps_of i k + n)) o 0) stood

pub steps_of-is : (m : MachineData) (k : ℕ) (v : VcpuData) → slice_get m.vcpus k ≡ Some v → steps_of m k ≡ v.steps
steps_of-is m k v stood = ap (λ o. option_map_or (λ w. w.steps) o 0) stood

pub has_ended-is : (i : MachineData) (n : ℕ) (m : MachineData) (k : ℕ) (v : VcpuData) → slice_get m.vcpus k ≡ Some v →
    has_ended i n m k ≡ vcpu_ended (steps_of i k + n) v
unfolding has_ended
has_ended-is i n m k v stood = ap (λ o. option_map_or (vcpu_ended (steps_of i k + n)) o true) stood

-- so none has finished more instructions than the phase has
pub steps_at_most : (i : MachineData) (n : ℕ) (m : MachineData) (k : ℕ) → AreOn i n m → steps_of m k ≤ steps_of i k + n
steps_at_most i n m k on =
    elim (option_cases (slice_get m.vcpus k)) as (λ _. steps_of m k ≤ steps_of i k + n) [
      | inl none ↦ (let gone : steps_of m k ≡ 0 = ap (λ o. option_map_or (λ w. w.steps) o 0) none in omega (arith, gone))
      | inr (v, stood) ↦ omega (arith, steps_of-is m k v stood, (on k v stood).steps)
    ]

-- it is so at rest
pub rest_on : (i : MachineData) (n : ℕ) → Rest i → AreOn i n i
rest_on i n rest k v stood =
    on_without (steps_of i k + n) v (All-slice_get (λ w. w.pending ≡ None) i.vcpus k v rest.none_pending stood)
    (omega (arith, steps_of-is i k v stood))

-- no more than two for each instruction that is left
left_most : (s : State) (until steps made : ℕ) → left_in s (2 * (until - steps) - made) ≤ 2 * (until - steps)
left_most Running until steps made = omega arith
left_most (Halted cause) until steps made = omega arith

-- with two events for each instruction
pub rest_left : (i : MachineData) (n : ℕ) (k : ℕ) → left_at i n i k ≤ 2 * n
rest_left i n k =
    elim (option_cases (slice_get i.vcpus k)) as (λ _. left_at i n i k ≤ 2 * n) [
      | inl none ↦ (let gone : left_at i n i k ≡ 0 = ap (λ o. option_map_or (left_of (steps_of i k + n)) o 0) none in omega (arith, gone))
      | inr (v, stood) ↦
          omega (arith, left_at-is i n i k v stood, steps_of-is i k v stood, left_most v.state (steps_of i k + n) v.steps (made_of v.pending))
    ]

-- the vCPU whose phase has not ended
pub record IsGoing (i : MachineData) (n : ℕ) (m : MachineData) (k : ℕ) : Type 0 where
  pub vcpu : VcpuData
  pub stood : slice_get m.vcpus k ≡ Some vcpu
  pub runs : vcpu.state ≡ Running
  pub below : vcpu.steps ≢ steps_of i k + n

-- one whose phase has not ended is there, and runs
pub going : (i : MachineData) (n : ℕ) (m : MachineData) (k : ℕ) → has_ended i n m k ≡ false → IsGoing i n m k
unfolding has_ended
going i n m k on =
    elim (option_cases (slice_get m.vcpus k)) as (λ _. IsGoing i n m k) [
      | inl none ↦ absurd (true≢false (sym (ap (λ o. option_map_or (vcpu_ended (steps_of i k + n)) o true) none) ∙ on))
      | inr (v, stood) ↦
          (let still = not_ended (steps_of i k + n) v (sym (has_ended-is i n m k v stood) ∙ on) in
          record { vcpu = v; stood = stood; runs = still.0; below = still.1 })
    ]

-- it has a next event
pub going_next : (i : MachineData) (n : ℕ) (m : MachineData) (k : ℕ) → AreOn i n m → has_ended i n m k ≡ false →
    (after : MachineData) × (next m k ≡ Some after)
going_next i n m k on still =
    let g = going i n m k still in
    next_on m k (on_kind i n m on) (halted_at-is m k g.vcpu g.stood ∙ ap is_halted g.runs)

-- what an event does: the phase goes on with an event less to make for its vCPU, and as many for the others
pub record Moves (i : MachineData) (n : ℕ) (m : MachineData) (k : ℕ) (after : MachineData) : Type 0 where
  pub on : AreOn i n after
  pub count : length after.vcpus ≡ length m.vcpus
  pub less : left_at i n after k < left_at i n m k
  pub others : (j : ℕ) → j ≢ k → left_at i n after j ≡ left_at i n m j

-- each event of such a vCPU does that
pub moves : (i : MachineData) (n : ℕ) (m : MachineData) (k : ℕ) (after : MachineData) → AreOn i n m → has_ended i n m k ≡ false →
    next m k ≡ Some after → Moves i n m k after
moves i n m k after on still moved =
    let kind = on_kind i n m on in
    let g = going i n m k still in
    let e = next_event m k after kind moved in
    let same : g.vcpu ≡ e.was = same_Some g.vcpu e.was (sym g.stood ∙ e.stood) in
    let until = steps_of i k + n in
    let mine = on k e.was e.stood in
    let below : e.was.steps < until = omega (arith, mine.steps, subst (λ (v : VcpuData). v.steps ≢ until) same g.below) in
    let step = on_event until e.was e.is e.ran below e.outcome in
    record {
      on = λ j v stood. elim (cases_eq j k) as (λ _. IsOn (steps_of i j + n) v) [
        | inl here ↦
            (let is : e.is ≡ v = same_Some e.is v (sym e.stands ∙ ap (slice_get after.vcpus) (sym here) ∙ stood) in
            subst (λ (w : VcpuData). IsOn (steps_of i j + n) w) is (subst (λ (x : ℕ). IsOn (steps_of i x + n) e.is) (sym here) step.on))
        | inr other ↦ on j v (sym (next_others m k after j kind moved other) ∙ stood)
      ];
      count = next_count m k after kind moved;
      less = omega (arith, left_at-is i n after k e.is e.stands, left_at-is i n m k e.was e.stood, step.less);
      others = λ j other. ap (λ o. option_map_or (left_of (steps_of i j + n)) o 0) (next_others m k after j kind moved other);
    }
