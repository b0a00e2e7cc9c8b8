-- A bus at the start.
use Rattle.std.proofs.Common.{◌≡◌, ℕ, ◌*◌, ◌<◌, ◌≤◌, not, Bool, true, false, List, [], length, replicate, Some, None, refl, sym, ◌∙◌, ap, subst, arith}
use Rattle.std.specs.List.{slice_get}
use Rattle.std.proofs.lemmas.List.{length-replicate}
use Rattle.std.proofs.lemmas.List.Elements.{All-nil}
use Rattle.std.proofs.lemmas.List.FromFn.{get_or-map-range_with_len, length-map-range_with_len}
use Rattle.std.proofs.lemmas.Option.{slice_get-get_or, slice_get_within}
use Rattle.ram_block.specs.Shape.{total_pages_of}
use Rattle.ram_block.specs.declared.limits.TheConstants.{MAX_PHASE}
use Rattle.wp_fault.specs.Queue.{QueueData}
use Rattle.wp_fault.proofs.Lists.{IsDistinct-nil}
use Rattle.flat_machine.specs.Machine.{MachineData, IsMachine, Rest, page_of}
use Rattle.flat_machine.specs.Order.{OrderData}
use Rattle.flat_machine.specs.Run.{Phase, ends_of, has_ended}
use Rattle.flat_machine.proofs.RoundPhases.{begins}
use Rattle.page_cell.specs.Plant.{pages_of}
use Rattle.page_cell.proofs.Instant.{protected_get}
use Rattle.plain_bus.specs.Bus.{BusData, IsBus, StandsFor, bus_from}
use Rattle.plain_bus.specs.Cells.{CellsData}

-- it keeps what each bus keeps
pub starts : (m : MachineData) (run : ℕ) (protect : Bool) → IsMachine m → Rest m → run ≤ MAX_PHASE → IsBus (bus_from m run protect)
starts m run protect limits rest most = record {
  machine = limits;
  instant = limits;
  rest = rest;
  run = most;
  shape = refl;
  way = begins m run rest;
  ends = refl;
  room = refl;
  writable = length-replicate (total_pages_of m.shape) (not protect);
  picked = length-replicate (total_pages_of m.shape) false;
  queue = record { distinct = IsDistinct-nil; below = All-nil (λ p. p < total_pages_of m.shape) };
}

-- the pages of a machine, as many as it has
length-pages_of : (m : MachineData) → length (pages_of m) ≡ total_pages_of m.shape
unfolding pages_of
length-pages_of m = length-map-range_with_len (page_of m) 0 (total_pages_of m.shape)

page_there : (m : MachineData) (p : ℕ) → p < total_pages_of m.shape → slice_get (pages_of m) p ≡ Some (page_of m p)
unfolding pages_of
page_there m p h =
    slice_get-get_or (pages_of m) p [] (subst (λ (n : ℕ). p < n) (sym (length-pages_of m)) h)
    ∙ ap Some (get_or-map-range_with_len (page_of m) 0 (total_pages_of m.shape) p p [] h (omega arith))

-- it stands for them
pub start_stands : (m : MachineData) (run : ℕ) (protect : Bool) → StandsFor (bus_from m run protect) (pages_of m)
start_stands m run protect = record {
  count = length-pages_of m;
  each = λ p is.
      (let within = slice_get_within (replicate (total_pages_of m.shape) (not protect)) p false (protected_get (replicate (total_pages_of m.shape) (not protect)) p is) in
      page_there m p (subst (λ (n : ℕ). p < n) (length-replicate (total_pages_of m.shape) (not protect)) within));
}

-- what its parts hold makes it one at the start
pub start_same : (m : MachineData) (run : ℕ) (protect : Bool) (cells : CellsData) (faults : QueueData) (order : OrderData) (ends : List ℕ) (picked : List Bool) (instant : MachineData) →
    cells.machine ≡ m → cells.writable ≡ replicate (total_pages_of m.shape) (not protect) → faults ≡ record { pages = total_pages_of m.shape; list = [] } →
    order ≡ record { members = []; room = 2 * run * m.shape.vcpus } → ends ≡ ends_of m run → picked ≡ replicate (total_pages_of m.shape) false → instant ≡ m →
    record {
      machine = cells.machine;
      writable = cells.writable;
      queue = faults.list;
      blocked = 0;
      order = order;
      ends = ends;
      picked = picked;
      picks = 0;
      last = None;
      instant = instant;
      run = run;
    } ≡ bus_from m run protect
start_same m run protect cells faults order ends picked instant machine writable queue members ends_are flags same =
    let e : faults.list ≡ [] = ap (λ (f : QueueData). f.list) queue in cc

-- where each phase has ended, the order is a phase
pub closes : (b : BusData) (machine : MachineData) → IsBus b → machine ≡ b.machine →
    ((k : ℕ) → k < b.instant.shape.vcpus → has_ended b.instant b.run machine k ≡ true) → Phase b.instant b.run b.order.members
closes b machine is same over = record {
  last = b.machine;
  ran = is.way.ran;
  ended = λ k h. ap (λ (m : MachineData). has_ended b.instant b.run m k) (sym same) ∙ over k h;
  each = is.way.each;
}
