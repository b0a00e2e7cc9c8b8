-- The frame of an event: what it leaves, and what it depends on.
use Rattle.std.proofs.Common.{◌≡◌, inl, inr, ℕ, ◌+◌, length, slice_set, Some, None, refl, sym, ◌∙◌, ap, subst}
use Rattle.std.specs.List.{slice_get}
use Rattle.std.proofs.lemmas.List.{length-set}
use Rattle.std.proofs.lemmas.Option.{same_Some, none-some, slice_get_within}
use Rattle.ram_block.specs.Shape.{ram_bytes_of}
use Rattle.ram_block.specs.declared.cause.Cause.{Cause}
use Rattle.rv64i_step.specs.Event.{request_of, fetched_vcpu}
use Rattle.rv64i_step.specs.Request.{CanServe}
use Rattle.rv64i_step.specs.Vcpu.{VcpuData}
use Rattle.rv64i_step.specs.declared.request.Request.{Request}
use Rattle.rv64i_step.specs.declared.request.Request.TheVariants.{Nothing, NoFetch, Fetch, Load, Store, Amo}
use Rattle.flat_machine.specs.Cell.{CellName, PageCell, SerialCell, TimerCell, cell_at, content, content_after, gives, with_content}
use Rattle.flat_machine.specs.Laws.{ServesAll, IsContentOf, KeepsRest, AgreesAt, MakesTheSame, cell_of_next, event_cell}
use Rattle.flat_machine.specs.Machine.{MachineData}
use Rattle.flat_machine.specs.Next.{cell_of, vcpu_after, after_event, after_cell_event, event_with, next}
use Rattle.flat_machine.proofs.Cells.{cell_write, length-with_content, content-with_content_same, content-with_content_other}
use Rattle.flat_machine.proofs.Events.{slice_get-set_same, slice_get-set_other, next_with, next_past, next_touches, next_no_fetch}
use Rattle.flat_machine.proofs.Inside.{written_inside, asked_served}
use Rattle.flat_machine.proofs.Outcomes.{option_cases}

-- an event that touches a cell, or the vCPU alone
pub data EventCase (m : MachineData) (k : ℕ) (after : MachineData) : Type 0 where
  Touching : (v : VcpuData) (r : Request) (c : CellName) → slice_get m.vcpus k ≡ Some v → request_of m.shape v ≡ r → cell_of r ≡ Some c →
      after ≡ after_cell_event m k v r c → EventCase m k after
  Alone : (v : VcpuData) (cause : Cause) → slice_get m.vcpus k ≡ Some v → request_of m.shape v ≡ NoFetch cause →
      after ≡ after_event m k (fetched_vcpu m.shape v None) → EventCase m k after

-- by its request
case_of : (m : MachineData) (k : ℕ) (v : VcpuData) (r : Request) (after : MachineData) → slice_get m.vcpus k ≡ Some v →
    request_of m.shape v ≡ r → event_with m k v r ≡ Some after → EventCase m k after
unfolding cell_of
case_of m k v Nothing after stood asks moved = absurd (none-some after moved)
case_of m k v (NoFetch cause) after stood asks moved = Alone v cause stood asks (sym (same_Some (after_event m k (fetched_vcpu m.shape v None)) after moved))
case_of m k v (Fetch page off) after stood asks moved =
    let r = Fetch page off in
    Touching v r (PageCell page) stood asks refl (sym (same_Some (after_cell_event m k v r (PageCell page)) after moved))
case_of m k v (Load place width) after stood asks moved =
    let r = Load place width in
    Touching v r (cell_at place) stood asks refl (sym (same_Some (after_cell_event m k v r (cell_at place)) after moved))
case_of m k v (Store place width value) after stood asks moved =
    let r = Store place width value in
    Touching v r (cell_at place) stood asks refl (sym (same_Some (after_cell_event m k v r (cell_at place)) after moved))
case_of m k v (Amo place width op value) after stood asks moved =
    let r = Amo place width op value in
    Touching v r (cell_at place) stood asks refl (sym (same_Some (after_cell_event m k v r (cell_at place)) after moved))

-- each event is one of the two
pub event_case : (m : MachineData) (k : ℕ) (after : MachineData) → next m k ≡ Some after → EventCase m k after
event_case m k after moved =
    elim (option_cases (slice_get m.vcpus k)) as (λ _. EventCase m k after) [
      | inl none ↦ absurd (none-some after (sym (next_past m k none) ∙ moved))
      | inr (v, stood) ↦
          case_of m k v (request_of m.shape v) after stood refl (sym (next_with m k v (request_of m.shape v) stood refl) ∙ moved)
    ]

-- the cell that the event touches is that of its request
pub event_cell-is : (m : MachineData) (k : ℕ) (v : VcpuData) (r : Request) → slice_get m.vcpus k ≡ Some v → request_of m.shape v ≡ r →
    event_cell m k ≡ cell_of r
unfolding event_cell cell_of
event_cell-is m k v r stood asks = ap (cell_of_next m.shape) stood ∙ ap cell_of asks

-- ---- What an event leaves

-- a write to a vCPU leaves the cells
content-after_event : (m : MachineData) (k : ℕ) (v : VcpuData) (d : CellName) → content (after_event m k v) d ≡ content m d
content-after_event m k v (PageCell p) = refl
content-after_event m k v SerialCell = refl
content-after_event m k v TimerCell = refl

-- one that touches a cell
cell_event_keeps : (m : MachineData) (k : ℕ) (v : VcpuData) (r : Request) (c : CellName) → length m.ram ≡ ram_bytes_of m.shape →
    IsContentOf m.shape c (content_after r (content m c)) → event_cell m k ≡ Some c → KeepsRest m k (after_cell_event m k v r c)
cell_event_keeps m k v r c size of touches =
    let x = content_after r (content m c) in
    let w = vcpu_after m.shape v r (gives r (content m c) m.clock) in
    let write = cell_write m c x in
    record {
      shape = write.shape;
      clock = ap (λ n. n + 1) write.clock;
      count = length-set (with_content m c x).vcpus k w ∙ ap length write.vcpus;
      vcpus = λ j other. slice_get-set_other (with_content m c x).vcpus k j w other ∙ ap (λ vs. slice_get vs j) write.vcpus;
      ram = length-with_content m c x size of;
      cells = λ d other. content-after_event (with_content m c x) k w d
          ∙ content-with_content_other m c d x size of (λ e. other (touches ∙ ap Some (sym e)));
    }

-- one that writes to its vCPU alone
alone_keeps : (m : MachineData) (k : ℕ) (w : VcpuData) → KeepsRest m k (after_event m k w)
alone_keeps m k w = record {
  shape = refl;
  clock = refl;
  count = length-set m.vcpus k w;
  vcpus = λ j other. slice_get-set_other m.vcpus k j w other;
  ram = refl;
  cells = λ d other. content-after_event m k w d;
}

-- what an event writes to a cell is a content of it
pub request_content : (m : MachineData) (k : ℕ) (v : VcpuData) (r : Request) (c : CellName) → ServesAll m → slice_get m.vcpus k ≡ Some v →
    request_of m.shape v ≡ r → cell_of r ≡ Some c → IsContentOf m.shape c (content_after r (content m c))
request_content m k v r c serves stood asks touches =
    written_inside m r c serves.ram (subst (CanServe m.shape) asks (asked_served m k v serves stood)) touches

-- the first half of the law of the frame
pub next_keeps : (m : MachineData) (k : ℕ) (after : MachineData) → ServesAll m → next m k ≡ Some after → KeepsRest m k after
next_keeps m k after serves moved =
    elim (event_case m k after moved) [
      | Touching v r c stood asks touches is ↦
          (let of = request_content m k v r c serves stood asks touches in
          subst (KeepsRest m k) (sym is) (cell_event_keeps m k v r c serves.ram of (event_cell-is m k v r stood asks ∙ touches)))
      | Alone v cause stood asks is ↦ subst (KeepsRest m k) (sym is) (alone_keeps m k (fetched_vcpu m.shape v None))
    ]

-- ---- What an event depends on

-- what it makes of the vCPU
pub cell_event_vcpu : (m : MachineData) (k : ℕ) (v : VcpuData) (r : Request) (c : CellName) → slice_get m.vcpus k ≡ Some v →
    slice_get (after_cell_event m k v r c).vcpus k ≡ Some (vcpu_after m.shape v r (gives r (content m c) m.clock))
cell_event_vcpu m k v r c stood =
    let w = vcpu_after m.shape v r (gives r (content m c) m.clock) in
    ap (λ vs. slice_get (slice_set vs k w) k) (cell_write m c (content_after r (content m c))).vcpus
    ∙ slice_get-set_same m.vcpus k w (slice_get_within m.vcpus k v stood)

-- what it makes of the cell
pub cell_event_content : (m : MachineData) (k : ℕ) (v : VcpuData) (r : Request) (c : CellName) → length m.ram ≡ ram_bytes_of m.shape →
    IsContentOf m.shape c (content_after r (content m c)) → content (after_cell_event m k v r c) c ≡ content_after r (content m c)
cell_event_content m k v r c size of =
    let x = content_after r (content m c) in
    content-after_event (with_content m c x) k (vcpu_after m.shape v r (gives r (content m c) m.clock)) c ∙ content-with_content_same m c x size of

-- two machines that have the same there make the same of it
cell_event_same : (m other : MachineData) (k : ℕ) (v : VcpuData) (r : Request) (c : CellName) → ServesAll m → ServesAll other → AgreesAt m other k →
    slice_get m.vcpus k ≡ Some v → request_of m.shape v ≡ r → cell_of r ≡ Some c → MakesTheSame m k (after_cell_event m k v r c) other
cell_event_same m other k v r c is is_other agrees stood asks touches =
    let here = event_cell-is m k v r stood asks ∙ touches in
    let there = agrees.vcpu ∙ stood in
    let asks_there = ap (λ s. request_of s v) agrees.shape ∙ asks in
    let held = agrees.cell c here in
    let of = request_content m k v r c is stood asks touches in
    let of_other = request_content other k v r c is_other there asks_there touches in
    record {
      other_after = after_cell_event other k v r c;
      moved = next_touches other k v r c there asks_there touches;
      vcpu = cell_event_vcpu other k v r c there
          ∙ ap (λ s. Some (vcpu_after s v r (gives r (content other c) other.clock))) agrees.shape
          ∙ ap (λ t. Some (vcpu_after m.shape v r (gives r (content other c) t))) agrees.clock
          ∙ ap (λ x. Some (vcpu_after m.shape v r (gives r x m.clock))) held
          ∙ sym (cell_event_vcpu m k v r c stood);
      cell = λ d asked_d.
          (let e : c ≡ d = same_Some c d (sym here ∙ asked_d) in
          subst (λ (x : CellName). content (after_cell_event other k v r c) x ≡ content (after_cell_event m k v r c) x) e
          (cell_event_content other k v r c is_other.ram of_other ∙ ap (content_after r) held ∙ sym (cell_event_content m k v r c is.ram of)));
    }

-- so do they where the event touches no cell
alone_same : (m other : MachineData) (k : ℕ) (v : VcpuData) (cause : Cause) → AgreesAt m other k → slice_get m.vcpus k ≡ Some v →
    request_of m.shape v ≡ NoFetch cause → MakesTheSame m k (after_event m k (fetched_vcpu m.shape v None)) other
unfolding cell_of
alone_same m other k v cause agrees stood asks =
    let there = agrees.vcpu ∙ stood in
    let asks_there = ap (λ s. request_of s v) agrees.shape ∙ asks in
    let w = fetched_vcpu m.shape v None in
    let w_there = fetched_vcpu other.shape v None in
    record {
      other_after = after_event other k w_there;
      moved = next_no_fetch other k v cause there asks_there;
      vcpu = slice_get-set_same other.vcpus k w_there (slice_get_within other.vcpus k v there)
          ∙ ap (λ s. Some (fetched_vcpu s v None)) agrees.shape
          ∙ sym (slice_get-set_same m.vcpus k w (slice_get_within m.vcpus k v stood));
      cell = λ d asked_d. absurd (none-some d (sym (event_cell-is m k v (NoFetch cause) stood asks) ∙ asked_d));
    }

-- the second half of the law of the frame
pub next_depends : (m other : MachineData) (k : ℕ) (after : MachineData) → ServesAll m → ServesAll other → AgreesAt m other k →
    next m k ≡ Some after → MakesTheSame m k after other
next_depends m other k after is is_other agrees moved =
    elim (event_case m k after moved) [
      | Touching v r c stood asks touches made ↦
          subst (λ (a : MachineData). MakesTheSame m k a other) (sym made) (cell_event_same m other k v r c is is_other agrees stood asks touches)
      | Alone v cause stood asks made ↦
          subst (λ (a : MachineData). MakesTheSame m k a other) (sym made) (alone_same m other k v cause agrees stood asks)
    ]
