-- An event as the parts of its cell and its vCPU.
use Rattle.std.proofs.Common.{◌≡◌, ◌↔◌, ℕ, true, false, Some, refl, sym, ◌∙◌, ap, subst}
use Rattle.std.specs.List.{slice_get}
use Rattle.std.proofs.lemmas.Option.{none-some, same_Some}
use Rattle.ram_block.specs.declared.place.Place.TheVariants as places
use Rattle.rv64i_step.specs.Event.{request_of}
use Rattle.rv64i_step.specs.Request.{CanServe, written_page}
use Rattle.rv64i_step.specs.Vcpu.{VcpuData}
use Rattle.rv64i_step.specs.declared.request.Request.{Request}
use Rattle.rv64i_step.specs.declared.request.Request.TheVariants as requests
use Rattle.flat_machine.specs.Cell as flat
use Rattle.flat_machine.specs.Cell.{CellName, PageCell, SerialCell, TimerCell, Content, cell_at, content, content_after, gives, with_content}
use Rattle.flat_machine.specs.Machine.{MachineData}
use Rattle.flat_machine.specs.Next.{after_event, cell_of, next, vcpu_after}
use Rattle.flat_machine.proofs.Events.{next_touches}
use Rattle.flat_machine.proofs.Served.{fits_page, fits_serial, fits_timer}
use Rattle.page_cell.specs.Cell.{FitsCell, cell_after, cell_gives, content_of, phase_in, stops_at}
use Rattle.page_cell.specs.declared.cell.Cell.{Cell}
use Rattle.page_cell.specs.declared.cell.Cell.TheVariants.{Page, Serial, Timer, Faults}
use Rattle.page_cell.specs.declared.phase.Phase.TheVariants.{Protected, Writable}

-- what the cell becomes is what its content becomes
pub content_of-after : (r : Request) (x : Cell) (a : Content) → content_of x ≡ Some a → content_of (cell_after r x) ≡ Some (content_after r a)
unfolding cell_after content_after
content_of-after r (Page bytes phase) a is = ap (λ b. Some (content_after r b)) (same_Some (flat.Page bytes) a is)
content_of-after r (Serial s) a is = ap (λ b. Some (content_after r b)) (same_Some (flat.Serial s) a is)
content_of-after r (Timer cmp) a is = ap (λ b. Some (content_after r b)) (same_Some (flat.Timer cmp) a is)
content_of-after r (Faults queue) a is = absurd (none-some a is)

-- and what it gives is what its content gives
pub cell_gives-is : (r : Request) (x : Cell) (a : Content) (time : ℕ) → content_of x ≡ Some a → cell_gives r x time ≡ gives r a time
unfolding cell_gives gives
cell_gives-is r (Page bytes phase) a time is = ap (λ b. gives r b time) (same_Some (flat.Page bytes) a is)
cell_gives-is r (Serial s) a time is = ap (λ b. gives r b time) (same_Some (flat.Serial s) a is)
cell_gives-is r (Timer cmp) a time is = ap (λ b. gives r b time) (same_Some (flat.Timer cmp) a is)
cell_gives-is r (Faults queue) a time is = absurd (none-some a is)

-- the event of a machine by its parts
pub next_by_parts : (m : MachineData) (k : ℕ) (v : VcpuData) (r : Request) (c : CellName) (x : Cell) (y : Content) → slice_get m.vcpus k ≡ Some v →
    request_of m.shape v ≡ r → cell_of r ≡ Some c → content_of x ≡ Some (content m c) → content_of (cell_after r x) ≡ Some y →
    next m k ≡ Some (after_event (with_content m c y) k (vcpu_after m.shape v r (cell_gives r x m.clock)))
next_by_parts m k v r c x y stood asks touches holds held =
    let made : content_after r (content m c) ≡ y = same_Some (content_after r (content m c)) y (sym (content_of-after r x (content m c) holds) ∙ held) in
    let given : gives r (content m c) m.clock ≡ cell_gives r x m.clock = sym (cell_gives-is r x (content m c) m.clock holds) in
    next_touches m k v r c stood asks touches
    ∙ ap (λ a. Some (after_event (with_content m c a) k (vcpu_after m.shape v r (gives r (content m c) m.clock)))) made
    ∙ ap (λ n. Some (after_event (with_content m c y) k (vcpu_after m.shape v r n))) given

-- an event leaves the phase
pub phase_stays : (r : Request) (x : Cell) → phase_in (cell_after r x) ≡ phase_in x
unfolding cell_after
phase_stays r (Page bytes phase) = refl
phase_stays r (Serial s) = refl
phase_stays r (Timer cmp) = refl
phase_stays r (Faults queue) = refl

-- a cell that holds what the machine has there is of that kind
pub fits_kind : (m : MachineData) (r : Request) (c : CellName) (x : Cell) → CanServe m.shape r → cell_of r ≡ Some c → content_of x ≡ Some (content m c) → FitsCell r x
fits_kind m r (PageCell p) (Page bytes phase) can touches holds = fits_page m.shape r p can touches
fits_kind m r (PageCell p) (Serial s) can touches holds = absurd (cc)
fits_kind m r (PageCell p) (Timer cmp) can touches holds = absurd (cc)
fits_kind m r (PageCell p) (Faults queue) can touches holds = absurd (cc)
fits_kind m r SerialCell (Page bytes phase) can touches holds = absurd (cc)
fits_kind m r SerialCell (Serial s) can touches holds = fits_serial m.shape r can touches
fits_kind m r SerialCell (Timer cmp) can touches holds = absurd (cc)
fits_kind m r SerialCell (Faults queue) can touches holds = absurd (cc)
fits_kind m r TimerCell (Page bytes phase) can touches holds = absurd (cc)
fits_kind m r TimerCell (Serial s) can touches holds = absurd (cc)
fits_kind m r TimerCell (Timer cmp) can touches holds = fits_timer m.shape r can touches
fits_kind m r TimerCell (Faults queue) can touches holds = absurd (cc)

-- a request of a page writes it where it is a store or an AMO
pub stops_write : (r : Request) (p : ℕ) (bytes : _) → cell_of r ≡ Some (PageCell p) → (stops_at r (Page bytes Protected) ≡ true) ↔ (written_page r ≡ Some p)
unfolding cell_of
stops_write requests.Nothing p bytes touches = absurd (none-some (PageCell p) touches)
stops_write (requests.NoFetch cause) p bytes touches = absurd (none-some (PageCell p) touches)
stops_write (requests.Fetch page off) p bytes touches = ((λ e. absurd (cc)), (λ e. absurd (cc)))
stops_write (requests.Load place width) p bytes touches = ((λ e. absurd (cc)), (λ e. absurd (cc)))
stops_write (requests.Store (places.Ram page off) width value) p bytes touches = ((λ e. cc), (λ e. refl))
stops_write (requests.Store place width value) p bytes touches = absurd (cc)
stops_write (requests.Amo (places.Ram page off) width op value) p bytes touches = ((λ e. cc), (λ e. refl))
stops_write (requests.Amo place width op value) p bytes touches = absurd (cc)

-- a protected page stops what writes it
pub stops_its_writes : (m : MachineData) (r : Request) (p : ℕ) (x : Cell) → cell_of r ≡ Some (PageCell p) → content_of x ≡ Some (content m (PageCell p)) →
    phase_in x ≡ Protected → (stops_at r x ≡ true) ↔ (written_page r ≡ Some p)
stops_its_writes m r p (Page bytes phase) touches holds is =
    subst (λ ph. (stops_at r (Page bytes ph) ≡ true) ↔ (written_page r ≡ Some p)) (sym is) (stops_write r p bytes touches)
stops_its_writes m r p (Serial s) touches holds is = absurd (cc)
stops_its_writes m r p (Timer cmp) touches holds is = absurd (cc)
stops_its_writes m r p (Faults queue) touches holds is = absurd (cc)

-- a page that is writable stops nothing
pub writable_is_free : (r : Request) (x : Cell) → phase_in x ≡ Writable → stops_at r x ≡ false
writable_is_free r (Page bytes phase) is = ap (λ ph. stops_at r (Page bytes ph)) is
writable_is_free r (Serial s) is = refl
writable_is_free r (Timer cmp) is = refl
writable_is_free r (Faults queue) is = refl

-- the law of an event and its parts
pub ruleset part_laws = (next_by_parts, content_of-after, phase_stays, fits_kind, stops_its_writes, writable_is_free)
