-- What the parts of a bus hold once each did its part of a turn.
use Rattle.std.proofs.Common.{◌≡◌, ℕ, ◌<◌, Bool, true, false, [], ◌∷◌, ◌++◌, length, Option, Some, None, refl, sym, ◌∙◌, ap, subst}
use Rattle.std.specs.Prelude.{if◌then◌else◌}
use Rattle.std.proofs.lemmas.Option.{none-some, same_Some, slice_get_within}
use Rattle.ram_block.specs.Shape.{total_pages_of}
use Rattle.medium.specs.Count.{counted}
use Rattle.wp_fault.specs.Queue.{QueueData, IsQueue, queued}
use Rattle.flat_machine.specs.Laws.{event_written_page}
use Rattle.flat_machine.specs.Machine.{MachineData, IsMachine}
use Rattle.flat_machine.specs.Order.{OrderData}
use Rattle.page_cell.specs.Core.{is_protected, protected_page, stopped_page}
use Rattle.page_cell.proofs.Instant.{protected_get}
use Rattle.plain_bus.specs.Bus.{BusData, IsBus, LeavesTry, phase_ended, with_event, with_stop}
use Rattle.plain_bus.specs.Cells.{CellsData, StepsTo}
use Rattle.plain_bus.specs.declared.answer.StepAnswer.TheVariants.{Done, Stopped}
use Rattle.plain_bus.proofs.Bus.{GoesOn, goes, try_done, try_stopped}

-- the cells of a bus
abbrev pub cells_of : BusData → CellsData
cells_of d = record { machine = d.machine; writable = d.writable }

-- a phase that goes on, by the test that was made
pub goes_at : (b d : BusData) (k : ℕ) (over : Bool) → b ≡ d → IsBus b → k < d.machine.shape.vcpus → over ≡ phase_ended d k → over ≡ false → GoesOn b k
goes_at b d k over same is h here off = subst (λ x. GoesOn x k) (sym same) (goes d k (subst IsBus same is) h (sym here ∙ off))

-- a page that stops an event is one that there is
stopped_by : (w : _) (page : Option ℕ) (p : ℕ) → protected_page w page ≡ Some p → p < length w
stopped_by w None p is = absurd (none-some p is)
stopped_by w (Some q) p is = by_flag w q p (is_protected w q) refl is
  where
    by_flag : (w : _) (q p : ℕ) (b : Bool) → is_protected w q ≡ b → (if b then Some q else None) ≡ Some p → p < length w
    by_flag w q p true on is = subst (λ (n : ℕ). n < length w) (same_Some q p is) (slice_get_within w q false (protected_get w q on))
    by_flag w q p false off is = absurd (none-some p is)

pub stopped_within : (m : MachineData) (w : _) (k p : ℕ) → Some p ≡ stopped_page m w k → p < length w
unfolding stopped_page
stopped_within m w k p stops = stopped_by w (event_written_page m k) p (sym stops)

-- an event was made, and put last into the order
pub done_at : (b : BusData) (k : ℕ) (page : Option ℕ) (cells : CellsData) (order : OrderData) → IsBus b → k < b.machine.shape.vcpus → phase_ended b k ≡ false →
    page ≡ stopped_page b.machine b.writable k → page ≡ None → StepsTo (cells_of b) k page cells → IsMachine cells.machine →
    order ≡ record { members = b.order.members ++ k ∷ []; room = b.order.room } →
    LeavesTry b k Done (record b { machine = cells.machine; writable = cells.writable; order = order })
done_at b k page cells order is h off stops none steps limits put =
    let event : StepsTo (cells_of b) k None cells = subst (λ r. StepsTo (cells_of b) k r cells) none steps in
    let same : record b { machine = cells.machine; writable = cells.writable; order = order } ≡ with_event b k (Some cells.machine) =
    ap (λ w. record b { machine = cells.machine; writable = w; order = order }) event.1
    ∙ ap (λ o. record b { machine = cells.machine; order = o }) put in
    subst (LeavesTry b k Done) (sym same) (try_done b k cells.machine is h off (sym none ∙ stops) event.0 limits)

-- a page stopped it, and was queued
pub stopped_at : (b : BusData) (k p : ℕ) (page : Option ℕ) (cells : CellsData) (faults : QueueData) (pages blocked : ℕ) → IsBus b →
    k < b.machine.shape.vcpus → phase_ended b k ≡ false → page ≡ stopped_page b.machine b.writable k → page ≡ Some p → StepsTo (cells_of b) k page cells →
    faults ≡ record { pages = pages; list = queued b.queue p } → pages ≡ total_pages_of b.machine.shape → IsQueue faults → blocked ≡ counted b.blocked →
    LeavesTry b k (Stopped p) (record b { machine = cells.machine; writable = cells.writable; queue = faults.list; blocked = blocked })
stopped_at b k p page cells faults pages blocked is h off stops some steps push count kept rises =
    let stays : cells ≡ cells_of b = subst (λ r. StepsTo (cells_of b) k r cells) some steps in
    let same : record b { machine = cells.machine; writable = cells.writable; queue = faults.list; blocked = blocked } ≡ with_stop b p =
    ap (λ (c : CellsData). record b { machine = c.machine; writable = c.writable; queue = faults.list; blocked = blocked }) stays
    ∙ ap (λ (f : QueueData). record b { queue = f.list; blocked = blocked }) push
    ∙ ap (λ n. record b { queue = queued b.queue p; blocked = n }) rises in
    let queue : IsQueue (record { pages = total_pages_of b.machine.shape; list = queued b.queue p }) =
    subst IsQueue (push ∙ ap (λ n. record { pages = n; list = queued b.queue p }) count) kept in
    subst (LeavesTry b k (Stopped p)) (sym same) (try_stopped b k p is h off (sym some ∙ stops) queue)
