-- Where a phase ends at rest, and whose events are in a run.
use Rattle.std.proofs.Common.{◌≡◌, inl, inr, ℕ, ◌+◌, ◌^◌, ◌<◌, ◌≤◌, List, [], ◌∷◌, length, get_or, All, Some, None, sym, ◌∙◌, ap, subst, arith}
use Rattle.std.specs.List.{slice_get}
use Rattle.std.proofs.lemmas.List.{length-set, take_all}
use Rattle.std.proofs.lemmas.List.Elements.{All-nil, All-cons}
use Rattle.std.proofs.lemmas.Option.{same_Some, none-some, slice_get-get_or, slice_get_within}
use Rattle.rv64i_step.specs.Event.{fetched_vcpu}
use Rattle.rv64i_step.specs.Vcpu.{VcpuData}
use Rattle.flat_machine.specs.Cell.{content, content_after, gives, with_content}
use Rattle.flat_machine.specs.Laws.{HasRoom}
use Rattle.flat_machine.specs.Machine.{MachineData, Rest}
use Rattle.flat_machine.specs.Next.{vcpu_after, next}
use Rattle.flat_machine.specs.Run.{run_on, run, steps_of, Phase}
use Rattle.flat_machine.proofs.Cells.{cell_write}
use Rattle.flat_machine.proofs.Frames.{Touching, Alone, event_case}
use Rattle.flat_machine.proofs.Outcomes.{option_cases}
use Rattle.flat_machine.proofs.PhaseEnds.{phase_length, phase_pending, phase_steps}
use Rattle.flat_machine.proofs.Phases.{steps_of-is}

-- an event raises the clock, and its vCPU is one of those that there are as many of afterwards
record Counts (m : MachineData) (k : ℕ) (after : MachineData) : Type 0 where
  clock : after.clock ≡ m.clock + 1
  vcpus : length after.vcpus ≡ length m.vcpus
  member : k < length m.vcpus

next_counts : (m : MachineData) (k : ℕ) (after : MachineData) → next m k ≡ Some after → Counts m k after
next_counts m k after moved =
    elim (event_case m k after moved) as (λ _. Counts m k after) [
      | Touching v r c stood asks touches is ↦
          (let write = cell_write m c (content_after r (content m c)) in
          record {
            clock = ap (λ a. a.clock) is ∙ ap (λ n. n + 1) write.clock;
            vcpus = ap (λ a. length a.vcpus) is
                ∙ length-set (with_content m c (content_after r (content m c))).vcpus k (vcpu_after m.shape v r (gives r (content m c) m.clock))
                ∙ ap length write.vcpus;
            member = slice_get_within m.vcpus k v stood;
          })
      | Alone v cause stood asks is ↦
          record {
            clock = ap (λ a. a.clock) is;
            vcpus = ap (λ a. length a.vcpus) is ∙ length-set m.vcpus k (fetched_vcpu m.shape v None);
            member = slice_get_within m.vcpus k v stood;
          }
    ]

-- a run has an event of vCPUs that are there, and the clock counts them
record CountsAll (m : MachineData) (o : List ℕ) (after : MachineData) : Type 0 where
  clock : after.clock ≡ m.clock + length o
  vcpus : length after.vcpus ≡ length m.vcpus
  members : All (λ k. k < length m.vcpus) o

run_counts : (m : MachineData) (o : List ℕ) (after : MachineData) → run m o ≡ Some after → CountsAll m o after
unfolding run_on
run_counts m [] after ran = record { clock = omega (arith, ap (λ (a : MachineData). a.clock) (same_Some m after ran)); vcpus = ap (λ (a : MachineData). length a.vcpus) (sym (same_Some m after ran)); members = All-nil (λ k. k < length m.vcpus) }
run_counts m (k ∷ o) after ran =
    elim (option_cases (next m k)) as (λ _. CountsAll m (k ∷ o) after) [
      | inl none ↦ absurd (none-some after (sym (ap (λ r. run_on r o) none) ∙ ran))
      | inr (mid, moved) ↦
          (let first = next_counts m k mid moved in
          let rest = run_counts mid o after (sym (ap (λ r. run_on r o) moved) ∙ ran) in
          record {
            clock = omega (arith, rest.clock, first.clock);
            vcpus = rest.vcpus ∙ first.vcpus;
            members = All-cons (λ j. j < length m.vcpus) k o first.member
                (subst (λ (count : ℕ). All (λ j. j < count) o) first.vcpus rest.members);
          })
    ]

-- each member of a run is a vCPU of the machine
pub run_members : (m : MachineData) (o : List ℕ) (after : MachineData) → run m o ≡ Some after → All (λ k. k < length m.vcpus) o
run_members m o after ran = (run_counts m o after ran).members

-- no vCPU has more steps than leave room
first_steps : (m : MachineData) (n k : ℕ) (d : VcpuData) → HasRoom m n → k < length m.vcpus → steps_of m k + n ≤ 2 ^ 62
first_steps m n k d room h =
    omega (arith, steps_of-is m k (get_or m.vcpus k d) (slice_get-get_or m.vcpus k d h), room.steps k d h)

-- a phase ends at rest where the clock and the steps leave room for it
pub phase_rests : (m : MachineData) (n : ℕ) (o : List ℕ) (last : MachineData) → Rest m → HasRoom m n → length m.vcpus ≡ m.shape.vcpus →
    Phase m n o → run m o ≡ Some last → Rest last
phase_rests m n o last rest room count phase ran = record {
  none_pending = phase_pending m n o last rest count phase ran;
  steps = λ k d h.
      (let v = get_or last.vcpus k d in
      let stood : slice_get last.vcpus k ≡ Some v = slice_get-get_or last.vcpus k d h in
      let most = phase_steps m n o (length o) last k rest phase (omega arith) (ap (run m) (take_all (length o) o (omega arith)) ∙ ran) in
      omega (arith, most, steps_of-is last k v stood, first_steps m n k d room (omega (arith, (run_counts m o last ran).vcpus))));
  clock = omega (arith, (run_counts m o last ran).clock, phase_length m n o rest count phase, room.clock);
}
