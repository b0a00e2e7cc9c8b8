-- What comes of one event: when there is one, and what it makes of its vCPU.
use Rattle.std.proofs.Common.{◌≡◌, ◌≢◌, ◌⊎◌, inl, inr, ◌↔◌, ℕ, true, false, List, length, All, slice_set, Option, Some, None, refl, sym, ◌∙◌, ap, subst}
use Rattle.std.specs.List.{slice_get}
use Rattle.std.specs.Option.{IfSome, is_some, option_map_or}
use Rattle.std.proofs.lemmas.Bool.{false≢true, true≢false, cases_Bool, cases_eq}
use Rattle.std.proofs.lemmas.Option.{same_Some, none-some, slice_get_within, get_or_from_slice_get}
use Rattle.std.proofs.lemmas.List.{length-set}
use Rattle.std.proofs.lemmas.List.Elements.{All-get_or}
use Rattle.ram_block.specs.Shape.{ShapeData}
use Rattle.ram_block.specs.AddressMap.{located}
use Rattle.ram_block.specs.declared.cause.Cause.{Cause}
use Rattle.ram_block.specs.declared.place.Place.{Place}
use Rattle.ram_block.specs.declared.place.Place.TheVariants as places
use Rattle.ram_block.specs.declared.place.Way.TheVariants as ways
use Rattle.ram_block.specs.declared.place.Width.TheVariants.{Four}
use Rattle.std.proofs.Common.{Result, Ok, Err}
use Rattle.rv64i_decode.specs.declared.instr.Instr.{Instr}
use Rattle.rv64i_decode.specs.declared.instr.Instr.TheVariants as instrs
use Rattle.rv64i_step.specs.Access.{AccessesMemory}
use Rattle.rv64i_step.specs.Event.{IsServable, request_of, request_in, running_request, fetch_at, access_of, fetched_vcpu, accessed_vcpu}
use Rattle.rv64i_step.specs.Outcome.{FetchOutcome, Halting, Awaiting, Finishing}
use Rattle.rv64i_step.specs.Request.{CanServe}
use Rattle.rv64i_step.specs.Vcpu.{VcpuData, IsVcpu}
use Rattle.rv64i_step.specs.declared.access.Access.{Access}
use Rattle.rv64i_step.specs.declared.request.Request.{Request}
use Rattle.rv64i_step.specs.declared.request.Request.TheVariants as requests
use Rattle.rv64i_step.specs.declared.state.State.{State}
use Rattle.rv64i_step.specs.declared.state.State.TheVariants.{Running, Halted}
use Rattle.rv64i_step.proofs.Outcomes.{fetch_outcome, no_fetch_outcome, access_outcome}
use Rattle.flat_machine.specs.Cell.{CellName, PageCell, cell_at, content, content_after, gives}
use Rattle.flat_machine.specs.Laws.{ServesAll, EventOutcome, OfFetch, OfAccess, HasEvent}
use Rattle.flat_machine.specs.Machine.{MachineData}
use Rattle.flat_machine.specs.Next.{vcpu_after, after_event, after_cell_event, event_with, next}
use Rattle.flat_machine.specs.Run.{is_halted, halted_at}
use Rattle.flat_machine.specs.UnderWay.{AwaitsMemory}
use Rattle.flat_machine.proofs.Cells.{cell_write}
use Rattle.flat_machine.proofs.Events.{slice_get-set_same, slice_get-set_other, next_with, next_past}

-- each pending access of a machine is one
abbrev pub AwaitMemory : MachineData → Type 0
AwaitMemory m = (k : ℕ) (v : VcpuData) → slice_get m.vcpus k ≡ Some v → AwaitsMemory v

-- what holds of the value in an option
pub at_some : {X : Type 0} (P : X → Type 0) (o : Option X) (x : X) → o ≡ Some x → IfSome o P → P x
at_some P o x is all = subst (λ r. IfSome r P) is all

-- so it is where the access can be served
pub servable_kind : (shape : ShapeData) (v : VcpuData) → IsServable shape v → AwaitsMemory v
servable_kind shape v is access pending =
    (at_some (λ a. AccessesMemory a.instr × CanServe shape (access_of v a.place a.instr)) v.pending access pending is).0

-- what holds of each vCPU holds of the one with a number
pub All-slice_get : {X : Type 0} (P : X → Type 0) (xs : List X) (k : ℕ) (x : X) → All P xs → slice_get xs k ≡ Some x → P x
All-slice_get P xs k x all stood =
    subst P (get_or_from_slice_get xs k x x stood) (All-get_or P xs k x (slice_get_within xs k x stood) all)

-- and in a vCPU within the limits
pub vcpu_kind : (v : VcpuData) → IsVcpu v → AwaitsMemory v
vcpu_kind v is access pending =
    at_some (λ a. AccessesMemory a.instr) v.pending access pending is.pending

-- and in a machine whose pending accesses all can be
pub serves_kind : (m : MachineData) → ServesAll m → AwaitMemory m
serves_kind m serves k v stood = servable_kind m.shape v (All-slice_get (IsServable m.shape) m.vcpus k v serves.each stood)

-- a vCPU runs or is halted
pub state_cases : (s : State) → (s ≡ Running) ⊎ ((cause : Cause) × (s ≡ Halted cause))
state_cases Running = inl refl
state_cases (Halted cause) = inr (cause, refl)

-- there is something or nothing
pub option_cases : {X : Type 0} (o : Option X) → (o ≡ None) ⊎ ((x : X) × (o ≡ Some x))
option_cases None = inl refl
option_cases (Some x) = inr (x, refl)

-- what one event makes of vCPU v, where it has one
pub record EventFrom (v : VcpuData) (m : MachineData) (k : ℕ) (after : MachineData) : Type 0 where
  pub is : VcpuData
  pub vcpus : after.vcpus ≡ slice_set m.vcpus k is
  pub outcome : EventOutcome v is

-- what comes of a request of a vCPU that runs
pub data RequestOutcome (v : VcpuData) (m : MachineData) (k : ℕ) (result : Option MachineData) : Type 0 where
  Happens : (after : MachineData) → result ≡ Some after → EventFrom v m k after → RequestOutcome v m k result

-- an event that touches a cell writes to that vCPU
cell_event_vcpus : (m : MachineData) (k : ℕ) (v : VcpuData) (r : Request) (c : CellName) (is : VcpuData) →
    EventOutcome v is → (after_cell_event m k v r c).vcpus ≡ slice_set m.vcpus k is → RequestOutcome v m k (Some (after_cell_event m k v r c))
cell_event_vcpus m k v r c is outcome written = Happens (after_cell_event m k v r c) refl (record { is = is; vcpus = written; outcome = outcome })

-- a fetch
fetch_event : (m : MachineData) (k : ℕ) (v : VcpuData) (at : Result Place Cause) → v.pending ≡ None → request_of m.shape v ≡ fetch_at at →
    RequestOutcome v m k (event_with m k v (fetch_at at))
unfolding vcpu_after content_after
fetch_event m k v (Ok (places.Ram page off)) none asks =
    let r = requests.Fetch page off in
    let c = PageCell page in
    let word = gives r (content m c) m.clock in
    cell_event_vcpus m k v r c (fetched_vcpu m.shape v (Some word)) (OfFetch none (fetch_outcome m.shape v word none)) refl
fetch_event m k v (Ok (places.Serial reg)) none asks =
    Happens (after_event m k (fetched_vcpu m.shape v None)) refl (record { is = fetched_vcpu m.shape v None; vcpus = refl; outcome = OfFetch none (Halting _ (no_fetch_outcome m.shape v _ none asks)) })
fetch_event m k v (Ok (places.Timer reg)) none asks =
    Happens (after_event m k (fetched_vcpu m.shape v None)) refl (record { is = fetched_vcpu m.shape v None; vcpus = refl; outcome = OfFetch none (Halting _ (no_fetch_outcome m.shape v _ none asks)) })
fetch_event m k v (Err cause) none asks =
    Happens (after_event m k (fetched_vcpu m.shape v None)) refl (record { is = fetched_vcpu m.shape v None; vcpus = refl; outcome = OfFetch none (Halting cause (no_fetch_outcome m.shape v cause none asks)) })

-- an access
access_with : (m : MachineData) (k : ℕ) (v : VcpuData) (r : Request) (c : CellName) (access : Access) →
    ((value : ℕ) → vcpu_after m.shape v r value ≡ accessed_vcpu v value) → v.pending ≡ Some access → AccessesMemory access.instr →
    RequestOutcome v m k (Some (after_cell_event m k v r c))
access_with m k v r c access same pending kind =
    let value = gives r (content m c) m.clock in
    cell_event_vcpus m k v r c (accessed_vcpu v value) (OfAccess (ap is_some pending) (access_outcome v value access pending kind))
    (ap (λ vs. slice_set vs k (vcpu_after m.shape v r value)) (cell_write m c (content_after r (content m c))).vcpus
    ∙ ap (slice_set m.vcpus k) (same value))

-- the access of a pending instruction
access_event : (m : MachineData) (k : ℕ) (v : VcpuData) (place : Place) (instr : Instr) → v.pending ≡ Some (record { instr = instr; place = place }) →
    AccessesMemory instr → RequestOutcome v m k (event_with m k v (access_of v place instr))
unfolding vcpu_after
access_event m k v place (instrs.Load op rd rs1 off) pending kind = access_with m k v _ (cell_at place) _ (λ value. refl) pending kind
access_event m k v place (instrs.Store op rs1 rs2 off) pending kind = access_with m k v _ (cell_at place) _ (λ value. refl) pending kind
access_event m k v place (instrs.Amo op wide rd rs1 rs2 order) pending kind = access_with m k v _ (cell_at place) _ (λ value. refl) pending kind
access_event m k v place _ pending kind = absurd kind

-- the next event of a vCPU that runs
running_event : (m : MachineData) (k : ℕ) (v : VcpuData) (p : Option Access) → v.pending ≡ p → AwaitsMemory v →
    request_of m.shape v ≡ running_request m.shape v p → RequestOutcome v m k (event_with m k v (running_request m.shape v p))
running_event m k v None pending kind asks = fetch_event m k v (located m.shape v.pc Four ways.Fetch) pending asks
running_event m k v (Some access) pending kind asks = access_event m k v access.place access.instr pending (kind access pending)

-- a vCPU that runs has a next event
pub next_running : (m : MachineData) (k : ℕ) (v : VcpuData) → slice_get m.vcpus k ≡ Some v → v.state ≡ Running → AwaitsMemory v →
    RequestOutcome v m k (next m k)
unfolding request_of
next_running m k v stood runs kind =
    let asks : request_of m.shape v ≡ running_request m.shape v v.pending = ap (λ s. request_in s (running_request m.shape v v.pending)) runs in
    subst (RequestOutcome v m k) (sym (next_with m k v (running_request m.shape v v.pending) stood asks)) (running_event m k v v.pending refl kind asks)

-- one that is halted has none
pub next_halted : (m : MachineData) (k : ℕ) (v : VcpuData) → slice_get m.vcpus k ≡ Some v → is_halted v.state ≡ true → next m k ≡ None
unfolding request_of
next_halted m k v stood halts =
    elim (state_cases v.state) as (λ _. next m k ≡ None) [
      | inl runs ↦ absurd (false≢true (sym (ap is_halted runs) ∙ halts))
      | inr (cause, is) ↦ next_with m k v requests.Nothing stood (ap (λ s. request_in s (running_request m.shape v v.pending)) is)
    ]

-- vCPU k and its state, by its number
pub halted_at-is : (m : MachineData) (k : ℕ) (v : VcpuData) → slice_get m.vcpus k ≡ Some v → halted_at m k ≡ is_halted v.state
halted_at-is m k v stood = ap (λ o. option_map_or (λ w. is_halted w.state) o true) stood

-- one that is not halted is there
pub not_halted : (m : MachineData) (k : ℕ) → halted_at m k ≡ false → (v : VcpuData) × (slice_get m.vcpus k ≡ Some v) × (v.state ≡ Running)
not_halted m k on =
    elim (option_cases (slice_get m.vcpus k)) as (λ _. (v : VcpuData) × (slice_get m.vcpus k ≡ Some v) × (v.state ≡ Running)) [
      | inl none ↦ absurd (true≢false (sym (ap (λ o. option_map_or (λ w. is_halted w.state) o true) none) ∙ on))
      | inr (v, stood) ↦
          elim (state_cases v.state) as (λ _. (v : VcpuData) × (slice_get m.vcpus k ≡ Some v) × (v.state ≡ Running)) [
            | inl runs ↦ (v, stood, runs)
            | inr (cause, is) ↦ absurd (true≢false (sym (ap is_halted is) ∙ sym (halted_at-is m k v stood) ∙ on))
          ]
    ]

-- so it has a next event
pub next_on : (m : MachineData) (k : ℕ) → AwaitMemory m → halted_at m k ≡ false → (after : MachineData) × (next m k ≡ Some after)
next_on m k kind on =
    let at = not_halted m k on in
    elim (next_running m k at.0 at.1 at.2 (kind k at.0 at.1)) [ Happens after is from ↦ (after, is) ]

-- one that is halted, or is not there, has none
pub halted_none : (m : MachineData) (k : ℕ) → halted_at m k ≡ true → next m k ≡ None
halted_none m k off =
    elim (option_cases (slice_get m.vcpus k)) as (λ _. next m k ≡ None) [
      | inl none ↦ next_past m k none
      | inr (v, stood) ↦ next_halted m k v stood (sym (halted_at-is m k v stood) ∙ off)
    ]

-- where there is no next event, the vCPU is halted
none_halted : (m : MachineData) (k : ℕ) → AwaitMemory m → next m k ≡ None → halted_at m k ≡ true
none_halted m k kind none =
    elim (cases_Bool (halted_at m k)) as (λ _. halted_at m k ≡ true) [
      | inl off ↦ off
      | inr on ↦ (let moved = next_on m k kind on in absurd (none-some moved.0 (sym none ∙ moved.1)))
    ]

-- there is no next event exactly where the vCPU is halted, or is not there
pub next-none : (m : MachineData) (k : ℕ) → AwaitMemory m → (next m k ≡ None) ↔ (halted_at m k ≡ true)
next-none m k kind = (none_halted m k kind, halted_none m k)

-- what made an event, and what it wrote
pub record NextFrom (m : MachineData) (k : ℕ) (after : MachineData) : Type 0 where
  pub was : VcpuData
  pub stood : slice_get m.vcpus k ≡ Some was
  pub ran : was.state ≡ Running
  pub from : EventFrom was m k after

-- an event that happens has that
pub next_from : (m : MachineData) (k : ℕ) (after : MachineData) → AwaitMemory m → next m k ≡ Some after → NextFrom m k after
next_from m k after kind moved =
    let on : halted_at m k ≡ false =
    elim (cases_Bool (halted_at m k)) as (λ _. halted_at m k ≡ false) [
      | inl off ↦ absurd (none-some after (sym (halted_none m k off) ∙ moved))
      | inr on ↦ on
    ] in
    let at = not_halted m k on in
    elim (next_running m k at.0 at.1 at.2 (kind k at.0 at.1)) [
      | Happens w is from ↦
          (let e : w ≡ after = same_Some w after (sym is ∙ moved) in
          record { was = at.0; stood = at.1; ran = at.2; from = subst (EventFrom at.0 m k) e from })
    ]

-- what the event makes of its vCPU
pub next_event : (m : MachineData) (k : ℕ) (after : MachineData) → AwaitMemory m → next m k ≡ Some after → HasEvent m k after
next_event m k after kind moved =
    let n = next_from m k after kind moved in
    record {
      was = n.was;
      stood = n.stood;
      ran = n.ran;
      is = n.from.is;
      stands = ap (λ vs. slice_get vs k) n.from.vcpus ∙ slice_get-set_same m.vcpus k n.from.is (slice_get_within m.vcpus k n.was n.stood);
      outcome = n.from.outcome;
    }

-- every other vCPU stays
pub next_others : (m : MachineData) (k : ℕ) (after : MachineData) (j : ℕ) → AwaitMemory m → next m k ≡ Some after → j ≢ k →
    slice_get after.vcpus j ≡ slice_get m.vcpus j
next_others m k after j kind moved other =
    let n = next_from m k after kind moved in
    ap (λ vs. slice_get vs j) n.from.vcpus ∙ slice_get-set_other m.vcpus k j n.from.is other

-- and there are as many
pub next_count : (m : MachineData) (k : ℕ) (after : MachineData) → AwaitMemory m → next m k ≡ Some after → length after.vcpus ≡ length m.vcpus
next_count m k after kind moved =
    let n = next_from m k after kind moved in
    ap length n.from.vcpus ∙ length-set m.vcpus k n.from.is

-- nothing pending is no access of another kind
pub none_awaits : (v : VcpuData) → v.pending ≡ None → AwaitsMemory v
none_awaits v none access pending = absurd (none-some access (sym none ∙ pending))

-- what a fetch leaves pending is of a load, a store or an AMO
fetch_kind : (v after : VcpuData) → FetchOutcome v after → AwaitsMemory after
fetch_kind v after (Halting cause h) = none_awaits after h.pending
fetch_kind v after (Awaiting access a) = λ other pending. subst (λ (x : Access). AccessesMemory x.instr) (same_Some access other (sym a.pending ∙ pending)) a.kind
fetch_kind v after (Finishing f) = none_awaits after f.pending

-- and what an event leaves
pub outcome_kind : (v after : VcpuData) → EventOutcome v after → AwaitsMemory after
outcome_kind v after (OfFetch none outcome) = fetch_kind v after outcome
outcome_kind v after (OfAccess some finish) = none_awaits after finish.pending

-- so it stays in a run
pub next_kind : (m : MachineData) (k : ℕ) (after : MachineData) → AwaitMemory m → next m k ≡ Some after → AwaitMemory after
next_kind m k after kind moved j v stood =
    elim (cases_eq j k) as (λ _. AwaitsMemory v) [
      | inl here ↦
          (let n = next_event m k after kind moved in
          let same : n.is ≡ v = same_Some n.is v (sym n.stands ∙ ap (slice_get after.vcpus) (sym here) ∙ stood) in
          subst AwaitsMemory same (outcome_kind n.was n.is n.outcome))
      | inr other ↦ kind j v (sym (next_others m k after j kind moved other) ∙ stood)
    ]

-- ---- The same of a machine whose pending accesses all can be served

-- there is no next event exactly where the vCPU is halted, or is not there
pub served_next-none : (m : MachineData) (k : ℕ) → ServesAll m → (next m k ≡ None) ↔ (halted_at m k ≡ true)
served_next-none m k serves = next-none m k (serves_kind m serves)

-- what the event makes of its vCPU
pub served_next_event : (m : MachineData) (k : ℕ) (after : MachineData) → ServesAll m → next m k ≡ Some after → HasEvent m k after
served_next_event m k after serves moved = next_event m k after (serves_kind m serves) moved

-- the law of what comes of an event
pub ruleset outcome_laws = (served_next-none, served_next_event)
