-- One event: one write to a cell, one to a vCPU, and the clock.
use Rattle.std.proofs.Common.{◌≡◌, ◌≢◌, ℕ, zero, suc, ◌<◌, List, [], ◌∷◌, length, slice_set, Some, None, refl, ◌∙◌, ap, arith}
use Rattle.std.specs.List.{slice_get}
use Rattle.std.proofs.lemmas.Option.{same_Some, none-some}
use Rattle.ram_block.specs.declared.cause.Cause.{Cause}
use Rattle.rv64i_step.specs.Event.{request_of, fetched_vcpu}
use Rattle.rv64i_step.specs.Vcpu.{VcpuData}
use Rattle.rv64i_step.specs.declared.request.Request.{Request}
use Rattle.rv64i_step.specs.declared.request.Request.TheVariants.{Nothing, NoFetch, Fetch, Load, Store, Amo}
use Rattle.flat_machine.specs.Cell.{CellName, PageCell, cell_at}
use Rattle.flat_machine.specs.Machine.{MachineData}
use Rattle.flat_machine.specs.Next.{cell_of, after_event, after_cell_event, event_with, event_of, next}

-- the element that was written
pub slice_get-set_same : {X : Type 0} (xs : List X) (k : ℕ) (x : X) → k < length xs → slice_get (slice_set xs k x) k ≡ Some x
slice_get-set_same [] k x h = absurd (omega arith)
slice_get-set_same (y ∷ xs) zero x h = refl
slice_get-set_same (y ∷ xs) (suc k) x h = slice_get-set_same xs k x (omega arith)

-- every other element
pub slice_get-set_other : {X : Type 0} (xs : List X) (k j : ℕ) (x : X) → j ≢ k → slice_get (slice_set xs k x) j ≡ slice_get xs j
slice_get-set_other [] k j x ne = refl
slice_get-set_other (y ∷ xs) zero zero x ne = absurd (ne refl)
slice_get-set_other (y ∷ xs) zero (suc j) x ne = refl
slice_get-set_other (y ∷ xs) (suc k) zero x ne = refl
slice_get-set_other (y ∷ xs) (suc k) (suc j) x ne = slice_get-set_other xs k j x (λ e. ne (ap suc e))

-- an event by the vCPU that makes it, and by its request
pub next_with : (m : MachineData) (k : ℕ) (v : VcpuData) (r : Request) → slice_get m.vcpus k ≡ Some v → request_of m.shape v ≡ r →
    next m k ≡ event_with m k v r
unfolding next
next_with m k v r stood asks = ap (event_of m k) stood ∙ ap (event_with m k v) asks

-- a vCPU that is not there has none
pub next_past : (m : MachineData) (k : ℕ) → slice_get m.vcpus k ≡ None → next m k ≡ None
unfolding next
next_past m k none = ap (event_of m k) none

-- with a request that touches a cell
event_touches : (m : MachineData) (k : ℕ) (v : VcpuData) (r : Request) (c : CellName) → cell_of r ≡ Some c →
    event_with m k v r ≡ Some (after_cell_event m k v r c)
unfolding cell_of
event_touches m k v Nothing c touches = absurd (none-some c touches)
event_touches m k v (NoFetch cause) c touches = absurd (none-some c touches)
event_touches m k v (Fetch page off) c touches = ap (λ d. Some (after_cell_event m k v (Fetch page off) d)) (same_Some (PageCell page) c touches)
event_touches m k v (Load place width) c touches = ap (λ d. Some (after_cell_event m k v (Load place width) d)) (same_Some (cell_at place) c touches)
event_touches m k v (Store place width value) c touches = ap (λ d. Some (after_cell_event m k v (Store place width value) d)) (same_Some (cell_at place) c touches)
event_touches m k v (Amo place width op value) c touches = ap (λ d. Some (after_cell_event m k v (Amo place width op value) d)) (same_Some (cell_at place) c touches)

-- the law of an event that touches a cell
pub next_touches : (m : MachineData) (k : ℕ) (v : VcpuData) (r : Request) (c : CellName) → slice_get m.vcpus k ≡ Some v →
    request_of m.shape v ≡ r → cell_of r ≡ Some c → next m k ≡ Some (after_cell_event m k v r c)
next_touches m k v r c stood asks touches = next_with m k v r stood asks ∙ event_touches m k v r c touches

-- the law of a fetch that has no place, which touches none
pub next_no_fetch : (m : MachineData) (k : ℕ) (v : VcpuData) (cause : Cause) → slice_get m.vcpus k ≡ Some v →
    request_of m.shape v ≡ NoFetch cause → next m k ≡ Some (after_event m k (fetched_vcpu m.shape v None))
next_no_fetch m k v cause stood asks = next_with m k v (NoFetch cause) stood asks

-- the law of an event
pub ruleset event_laws = (next_touches, next_no_fetch)
