-- An order that is a phase from a machine at rest: what stands after each of its events, and at its end.
use Rattle.std.proofs.Common.{◌≡◌, ◌≢◌, inl, inr, ℕ, zero, suc, ◌+◌, ◌*◌, ◌<◌, ◌≤◌, List, length, get_or, take, All, Some, None, refl, sym, ◌∙◌, ap, subst, arith}
use Rattle.std.specs.List.{slice_get}
use Rattle.std.specs.Prelude.{◌==◌, true, false}
use Rattle.std.proofs.lemmas.Bool.{cases_eq, eq-eqb, ne_eqb}
use Rattle.std.specs.List.{count_by}
use Rattle.std.proofs.lemmas.List.{take_all}
use Rattle.std.proofs.lemmas.List.Sums.{count_by_more_yes, count_by_more_no}
use Rattle.std.proofs.lemmas.Option.{same_Some, slice_get-get_or, slice_get_within}
use Rattle.std.proofs.Math.Seq.{take-suc}
use Rattle.flat_machine.specs.Machine.{MachineData, Rest}
use Rattle.flat_machine.specs.Run.{run_on, run, steps_of, has_ended, IsInPhase, Phase}
use Rattle.flat_machine.proofs.Runs.{run-push}
use Rattle.flat_machine.specs.UnderWay.{AreOn, left_at}
use Rattle.flat_machine.proofs.Phases.{has_ended-is, steps_at_most, ended_pending, rest_on, rest_left, going, going_next, moves}

-- ---- The events left to all vCPUs

-- the sum of a count over the first numbers
pub total : (ℕ → ℕ) → ℕ → ℕ
total f zero = 0
total f (suc c) = total f c + f c

-- at most so many for each
total_most : (f : ℕ → ℕ) (most c : ℕ) → ((j : ℕ) → f j ≤ most) → total f c ≤ most * c
unfolding total
total_most f most zero h = omega arith
total_most f most (suc c) h = omega (arith, total_most f most c h, h c)

-- the same counts have the same sum
total_same : (f g : ℕ → ℕ) (c : ℕ) → ((j : ℕ) → j < c → f j ≡ g j) → total f c ≡ total g c
unfolding total
total_same f g zero h = refl
total_same f g (suc c) h = omega (arith, total_same f g c (λ j below. h j (omega arith)), h c (omega arith))

-- one less at one number, and the same elsewhere
total_less : (f g : ℕ → ℕ) (k c : ℕ) → k < c → f k < g k → ((j : ℕ) → j ≢ k → f j ≡ g j) → total f c < total g c
unfolding total
total_less f g k zero within less same = absurd (omega arith)
total_less f g k (suc c) within less same =
    elim (cases_eq k c) as (λ _. total f c + f c < total g c + g c) [
      | inl here ↦
          (let fewer : f c < g c = subst (λ (x : ℕ). f x < g x) here less in
          omega (arith, fewer, total_same f g c (λ j below. same j (omega arith))))
      | inr other ↦ omega (arith, total_less f g k c (omega arith) less same, same c (λ e. other (sym e)))
    ]

-- ---- The events of one vCPU

-- how many events of an order are of vCPU j
abbrev pub events_of : ℕ → List ℕ → ℕ
events_of j o = count_by (λ k. k == j) o

-- one more where the next event is one
events_of_mine : (o : List ℕ) (t j : ℕ) → t < length o → get_or o t 0 ≡ j → events_of j (take (suc t) o) ≡ events_of j (take t o) + 1
events_of_mine o t j h here =
    let e : suc t ≡ t + 1 = omega arith in
    ap (λ n. events_of j (take n o)) e ∙ count_by_more_yes (λ k. k == j) o t 0 h (eq-eqb (get_or o t 0) j here)

-- as many where it is not
events_of_other : (o : List ℕ) (t j : ℕ) → t < length o → get_or o t 0 ≢ j → events_of j (take (suc t) o) ≡ events_of j (take t o)
events_of_other o t j h other =
    let e : suc t ≡ t + 1 = omega arith in
    ap (λ n. events_of j (take n o)) e ∙ count_by_more_no (λ k. k == j) o t 0 h (ne_eqb (get_or o t 0) j other)

-- ---- The machines of a phase

-- what stands after the first t events
pub record HasCome (i : MachineData) (n : ℕ) (o : List ℕ) (t : ℕ) : Type 0 where
  pub machine : MachineData
  pub ran : run i (take t o) ≡ Some machine
  pub on : AreOn i n machine
  pub count : length machine.vcpus ≡ length i.vcpus
  pub left : total (left_at i n machine) (length i.vcpus) + t ≤ 2 * n * length i.vcpus
  pub own : (j : ℕ) → events_of j (take t o) + left_at i n machine j ≤ 2 * n

-- before the first
comes_first : (i : MachineData) (n : ℕ) (o : List ℕ) → Rest i → HasCome i n o 0
unfolding run_on
comes_first i n o rest = record {
  machine = i;
  ran = refl;
  on = rest_on i n rest;
  count = refl;
  left = omega (arith, total_most (left_at i n i) (2 * n) (length i.vcpus) (rest_left i n));
  own = λ j. omega (arith, rest_left i n j);
}

-- after one more
comes_next : (i : MachineData) (n : ℕ) (o : List ℕ) (t : ℕ) → t < length o → IsInPhase i n o t → HasCome i n o t → HasCome i n o (suc t)
comes_next i n o t h at come =
    let k = get_or o t 0 in
    let before = come.machine in
    let same : at.before ≡ before = same_Some at.before before (sym at.ran ∙ come.ran) in
    let still : has_ended i n before k ≡ false = ap (λ m. has_ended i n m k) (sym same) ∙ at.going_on in
    let g = going i n before k still in
    let moved = going_next i n before k come.on still in
    let m = moves i n before k moved.0 come.on still moved.1 in
    let within : k < length i.vcpus = omega (arith, slice_get_within before.vcpus k g.vcpu g.stood, come.count) in
    record {
      machine = moved.0;
      ran = ap (run i) (take-suc o t 0 h) ∙ run-push i before (take t o) k come.ran ∙ moved.1;
      on = m.on;
      count = m.count ∙ come.count;
      left = omega (arith, come.left, total_less (left_at i n moved.0) (left_at i n before) k (length i.vcpus) within m.less m.others);
      own = λ j. elim (cases_eq k j) as (λ _. events_of j (take (suc t) o) + left_at i n moved.0 j ≤ 2 * n) [
        | inl here ↦
            (let P : ℕ → Type 0 = λ x. left_at i n moved.0 x < left_at i n before x in
            omega (arith, events_of_mine o t j h here, subst P here m.less, come.own j))
        | inr other ↦ omega (arith, events_of_other o t j h other, m.others j (λ e. other (sym e)), come.own j)
      ];
    }

-- after any number of them
pub comes : (i : MachineData) (n : ℕ) (o : List ℕ) (t : ℕ) → Rest i → ((s : ℕ) → s < length o → IsInPhase i n o s) → t ≤ length o →
    HasCome i n o t
comes i n o zero rest each h = comes_first i n o rest
comes i n o (suc t) rest each h = comes_next i n o t (omega arith) (each t (omega arith)) (comes i n o t rest each (omega arith))

-- each machine of the run is one of them
pub come_at : (i : MachineData) (n : ℕ) (o : List ℕ) (t : ℕ) (m : MachineData) → Rest i → Phase i n o → t ≤ length o →
    run i (take t o) ≡ Some m → AreOn i n m × (length m.vcpus ≡ length i.vcpus)
come_at i n o t m rest phase h ran =
    let come = comes i n o t rest phase.each h in
    let same : come.machine ≡ m = same_Some come.machine m (sym come.ran ∙ ran) in
    (subst (AreOn i n) same come.on, ap (λ x. length x.vcpus) (sym same) ∙ come.count)

-- in a phase a vCPU finishes at most so many instructions
pub phase_steps : (i : MachineData) (n : ℕ) (o : List ℕ) (t : ℕ) (m : MachineData) (k : ℕ) → Rest i → Phase i n o → t ≤ length o →
    run i (take t o) ≡ Some m → steps_of m k ≤ steps_of i k + n
phase_steps i n o t m k rest phase h ran = steps_at_most i n m k (come_at i n o t m rest phase h ran).0

-- and has at most two events for each
pub phase_length : (i : MachineData) (n : ℕ) (o : List ℕ) → Rest i → length i.vcpus ≡ i.shape.vcpus → Phase i n o →
    length o ≤ 2 * n * i.shape.vcpus
phase_length i n o rest count phase =
    let come = comes i n o (length o) rest phase.each (omega arith) in
    let P : ℕ → Type 0 = λ c. length o ≤ 2 * n * c in
    subst P count (omega (arith, come.left))

-- and so has each vCPU for its own
pub phase_own : (i : MachineData) (n : ℕ) (o : List ℕ) (j : ℕ) → Rest i → Phase i n o → events_of j o ≤ 2 * n
phase_own i n o j rest phase =
    let come = comes i n o (length o) rest phase.each (omega arith) in
    omega (arith, come.own j, ap (events_of j) (take_all (length o) o (omega arith)))

-- at its end no access is pending
pub phase_pending : (i : MachineData) (n : ℕ) (o : List ℕ) (last : MachineData) → Rest i → length i.vcpus ≡ i.shape.vcpus → Phase i n o →
    run i o ≡ Some last → All (λ v. v.pending ≡ None) last.vcpus
phase_pending i n o last rest count phase ran =
    λ k d h.
    (let at = come_at i n o (length o) last rest phase (omega arith) (ap (run i) (take_all (length o) o (omega arith)) ∙ ran) in
    let v = get_or last.vcpus k d in
    let stood : slice_get last.vcpus k ≡ Some v = slice_get-get_or last.vcpus k d h in
    let same : phase.last ≡ last = same_Some phase.last last (sym phase.ran ∙ ran) in
    let over : has_ended i n last k ≡ true = ap (λ m. has_ended i n m k) (sym same) ∙ phase.ended k (omega (arith, at.1)) in
    ended_pending (steps_of i k + n) v (at.0 k v stood) (sym (has_ended-is i n last k v stood) ∙ over))
