-- What the laws of an event need of a machine stays: after an event each pending access can be served as before.
use Rattle.std.proofs.Common.{◌≡◌, inl, inr, ℕ, List, [], ◌∷◌, slice_set, All, Some, None, refl, sym, ◌∙◌, ap, subst, arith}
use Rattle.std.proofs.lemmas.List.Elements.{All-set}
use Rattle.std.proofs.lemmas.Option.{same_Some, none-some}
use Rattle.ram_block.specs.Shape.{ShapeData, ram_bytes_of}
use Rattle.rv64i_step.specs.Event.{IsServable, request_of, fetched_vcpu, accessed_vcpu, access_made}
use Rattle.rv64i_step.specs.Vcpu.{VcpuData}
use Rattle.rv64i_step.specs.declared.request.Request.{Request}
use Rattle.rv64i_step.specs.declared.request.Request.TheVariants.{Fetch}
use Rattle.rv64i_step.proofs.Outcomes.{access_outcome}
use Rattle.rv64i_step.proofs.Servable.{IsFetch, fetch_pending, fetched_servable, servable_none, unfetched_servable}
use Rattle.flat_machine.specs.Cell.{content, content_after, gives}
use Rattle.flat_machine.specs.Laws.{ServesAll, KeepsSizes}
use Rattle.flat_machine.specs.Machine.{MachineData, IsMachine}
use Rattle.flat_machine.specs.Next.{vcpu_after, next}
use Rattle.flat_machine.specs.Run.{run_on, run}
use Rattle.flat_machine.proofs.Cells.{cell_write}
use Rattle.flat_machine.proofs.Frames.{Touching, Alone, event_case, next_keeps}
use Rattle.flat_machine.proofs.Outcomes.{option_cases, All-slice_get, servable_kind}

-- an access made leaves none
accessed_servable : (shape : ShapeData) (v : VcpuData) (value : ℕ) → IsServable shape v → IsServable shape (accessed_vcpu v value)
unfolding accessed_vcpu
accessed_servable shape v value is =
    elim (option_cases v.pending) as (λ _. IsServable shape (accessed_vcpu v value)) [
      | inl none ↦ servable_none shape (accessed_vcpu v value) (ap (λ p. (access_made v value p).pending) none ∙ none)
      | inr (access, pending) ↦
          servable_none shape (accessed_vcpu v value) (access_outcome v value access pending (servable_kind shape v is access pending)).pending
    ]

-- what an event that touches a cell makes of its vCPU
after_servable : (shape : ShapeData) (v : VcpuData) (r : Request) (value : ℕ) → request_of shape v ≡ r → IsServable shape v →
    IsServable shape (vcpu_after shape v r value)
unfolding vcpu_after
after_servable shape v (Fetch page off) value asks is =
    fetched_servable shape v value (fetch_pending shape v (subst IsFetch (sym asks) tt))
after_servable shape v _ value asks is = accessed_servable shape v value is

-- a machine within the limits has what the laws need
pub machine_serves : (m : MachineData) → IsMachine m → ServesAll m
machine_serves m is = record { ram = is.ram; each = is.servable }

-- the vCPUs after an event
each_after : (m : MachineData) (k : ℕ) (after : MachineData) → ServesAll m → next m k ≡ Some after → All (IsServable m.shape) after.vcpus
each_after m k after serves moved =
    elim (event_case m k after moved) [
      | Touching v r c stood asks touches is ↦
          (let w = vcpu_after m.shape v r (gives r (content m c) m.clock) in
          let put : All (IsServable m.shape) (slice_set m.vcpus k w) =
          All-set (IsServable m.shape) m.vcpus k w (after_servable m.shape v r (gives r (content m c) m.clock) asks (All-slice_get (IsServable m.shape) m.vcpus k v serves.each stood)) serves.each in
          let same : after.vcpus ≡ slice_set m.vcpus k w =
          ap (λ a. a.vcpus) is ∙ ap (λ vs. slice_set vs k w) (cell_write m c (content_after r (content m c))).vcpus in
          subst (All (IsServable m.shape)) (sym same) put)
      | Alone v cause stood asks is ↦
          (let w = fetched_vcpu m.shape v None in
          let put : All (IsServable m.shape) (slice_set m.vcpus k w) =
          All-set (IsServable m.shape) m.vcpus k w (unfetched_servable m.shape v cause asks (fetch_pending m.shape v (subst IsFetch (sym asks) tt))) serves.each in
          subst (All (IsServable m.shape)) (sym (ap (λ (a : MachineData). a.vcpus) is)) put)
    ]

-- each event keeps it
pub next_serves : (m : MachineData) (k : ℕ) (after : MachineData) → ServesAll m → next m k ≡ Some after → ServesAll after
next_serves m k after serves moved =
    let keeps = next_keeps m k after serves moved in
    record {
      ram = keeps.ram ∙ serves.ram ∙ ap ram_bytes_of (sym keeps.shape);
      each = subst (λ (s : ShapeData). All (IsServable s) after.vcpus) (sym keeps.shape) (each_after m k after serves moved);
    }

-- and each run
pub run_serves : (m : MachineData) (o : List ℕ) (after : MachineData) → ServesAll m → run m o ≡ Some after → ServesAll after
unfolding run_on
run_serves m [] after serves ran = subst ServesAll (same_Some m after ran) serves
run_serves m (k ∷ o) after serves ran =
    elim (option_cases (next m k)) as (λ _. ServesAll after) [
      | inl none ↦ absurd (none-some after (sym (ap (λ r. run_on r o) none) ∙ ran))
      | inr (mid, moved) ↦ run_serves mid o after (next_serves m k mid serves moved) (sym (ap (λ r. run_on r o) moved) ∙ ran)
    ]

-- what a run keeps
pub run_keeps : (m : MachineData) (o : List ℕ) (after : MachineData) → ServesAll m → run m o ≡ Some after → KeepsSizes m o after
unfolding run_on
run_keeps m [] after serves ran =
    subst (KeepsSizes m []) (same_Some m after ran) (record { shape = refl; vcpus = refl; ram = refl; clock = omega arith })
run_keeps m (k ∷ o) after serves ran =
    elim (option_cases (next m k)) as (λ _. KeepsSizes m (k ∷ o) after) [
      | inl none ↦ absurd (none-some after (sym (ap (λ r. run_on r o) none) ∙ ran))
      | inr (mid, moved) ↦
          (let first = next_keeps m k mid serves moved in
          let rest = run_keeps mid o after (next_serves m k mid serves moved) (sym (ap (λ r. run_on r o) moved) ∙ ran) in
          record {
            shape = rest.shape ∙ first.shape;
            vcpus = rest.vcpus ∙ first.count;
            ram = rest.ram ∙ first.ram;
            clock = omega (arith, rest.clock, first.clock);
          })
    ]
