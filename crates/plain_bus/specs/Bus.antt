-- The bus of one thread: what it holds, and what each call makes of it (this project's own, docs/ARCHITECTURE.md).
use Rattle.std.specs.Prelude.{◌≡◌, ◌≢◌, ◌↔◌, ℕ, ◌*◌, ◌≤◌, not, Bool, true, false, List, [], ◌∷◌, ◌++◌, length, drop, replicate, slice_get, slice_index, Option, Some, None, if◌then◌else◌}
use Rattle.ram_block.specs.Shape.{total_pages_of}
use Rattle.ram_block.specs.declared.limits.TheConstants.{MAX_PHASE}
use Rattle.flat_machine.specs.Machine.{MachineData, IsMachine, Rest, page_of}
use Rattle.flat_machine.specs.Next.{next}
use Rattle.flat_machine.specs.Order.{OrderData}
use Rattle.flat_machine.specs.Run.{Progress, ended_at, ends_of, has_ended}
use Rattle.flat_machine.specs.UnderWay.{IsUnderWay}
use Rattle.medium.specs.Count.{counted}
use Rattle.page_cell.specs.Core.{CoreState, CpuTurn, core_turn, is_protected, stopped_page}
use Rattle.page_cell.specs.Plant.{picked_after}
use Rattle.page_cell.specs.declared.plant.Pick.{Pick}
use Rattle.page_cell.specs.declared.plant.Pick.TheVariants as picks
use Rattle.page_cell.specs.declared.plant.Taken.{Taken}
use Rattle.page_cell.specs.declared.plant.Taken.TheVariants as takes
use Rattle.wp_fault.specs.Queue.{IsQueue, queued}
use Rattle.plain_bus.specs.Cells.{flags_after}
use Rattle.plain_bus.specs.declared.answer.StepAnswer.{StepAnswer}
use Rattle.plain_bus.specs.declared.answer.StepAnswer.TheVariants.{Done, Stopped, Idle}

-- the machine, which pages are writable, the queue, how often a vCPU was stopped, and the order of the events so far;
-- the steps at which each phase ends; which pages a pick has answered, how many picks there were, and what the last one
-- answered; and the machine at the start, with how many instructions the phase has
pub record BusData : Type 0 where
  pub machine : MachineData
  pub writable : List Bool
  pub queue : List ℕ
  pub blocked : ℕ
  pub order : OrderData
  pub ends : List ℕ
  pub picked : List Bool
  pub picks : ℕ
  pub last : Option Pick
  pub instant : MachineData
  pub run : ℕ

-- how far the phase has come
abbrev pub progress_of : BusData → Progress
progress_of d = record { machine = d.machine; order = d.order.members }

-- what each bus keeps
pub record IsBus (d : BusData) : Type 0 where
  pub machine : IsMachine d.machine
  pub instant : IsMachine d.instant
  pub rest : Rest d.instant
  pub run : d.run ≤ MAX_PHASE
  pub shape : d.machine.shape ≡ d.instant.shape
  pub way : IsUnderWay d.instant d.run (progress_of d)
  pub ends : d.ends ≡ ends_of d.instant d.run
  pub room : d.order.room ≡ 2 * d.run * d.machine.shape.vcpus
  pub writable : length d.writable ≡ total_pages_of d.machine.shape
  pub picked : length d.picked ≡ total_pages_of d.machine.shape
  pub queue : IsQueue (record { pages = total_pages_of d.machine.shape; list = d.queue })

-- the core of a bus, with what was recorded, which no field keeps
abbrev pub core_of : BusData → List (ℕ × List ℕ) → CoreState
core_of d recorded = record {
  machine = d.machine;
  writable = d.writable;
  queue = d.queue;
  recorded = recorded;
  blocked = d.blocked;
  order = d.order.members;
}

-- a bus at the start
abbrev pub bus_from : MachineData → ℕ → Bool → BusData
bus_from m run protect = record {
  machine = m;
  writable = replicate (total_pages_of m.shape) (not protect);
  queue = [];
  blocked = 0;
  order = record { members = []; room = 2 * run * m.shape.vcpus };
  ends = ends_of m run;
  picked = replicate (total_pages_of m.shape) false;
  picks = 0;
  last = None;
  instant = m;
  run = run;
}

-- the list has one member for each page, and each protected page holds its bytes of the list
pub record StandsFor (d : BusData) (pages : List (List ℕ)) : Type 0 where
  pub count : length pages ≡ total_pages_of d.machine.shape
  pub each : (p : ℕ) → is_protected d.writable p ≡ true → slice_get pages p ≡ Some (page_of d.machine p)

-- ---- The turn of a vCPU

-- whether the phase of vCPU k has ended
abbrev pub phase_ended : BusData → ℕ → Bool
phase_ended d k = ended_at (slice_index d.ends k) d.machine k

-- the answer where this protected page stops the event, or none does
abbrev pub event_answer : Option ℕ → StepAnswer
event_answer (Some p) = Stopped p
event_answer None = Done

unfoldable pub tried : BusData → ℕ → StepAnswer
tried d k = if phase_ended d k then Idle else event_answer (stopped_page d.machine d.writable k)

-- an event was made, where there is one
abbrev pub with_event : BusData → ℕ → Option MachineData → BusData
with_event d k None = d
with_event d k (Some m) = record d { machine = m; order = record { members = d.order.members ++ k ∷ []; room = d.order.room } }

-- a vCPU was stopped on page p
abbrev pub with_stop : BusData → ℕ → BusData
with_stop d p = record d { queue = queued d.queue p; blocked = counted d.blocked }

-- the event of vCPU k, where this protected page stops it, or none does
abbrev pub with_turn : BusData → ℕ → Option ℕ → BusData
with_turn d k (Some p) = with_stop d p
with_turn d k None = with_event d k (next d.machine k)

unfoldable pub after_try : BusData → ℕ → BusData
after_try d k = if phase_ended d k then d else with_turn d k (stopped_page d.machine d.writable k)

-- what the turn of a vCPU leaves: it is that of the core, or none exactly where the vCPU's phase has ended
pub record LeavesTry (d : BusData) (k : ℕ) (answer : StepAnswer) (new : BusData) : Type 0 where
  pub answered : answer ≡ tried d k
  pub after : new ≡ after_try d k
  pub idle : (answer ≡ Idle) ↔ (has_ended d.instant d.run d.machine k ≡ true)
  pub core : (recorded : List (ℕ × List ℕ)) → answer ≢ Idle → core_of new recorded ≡ core_turn (core_of d recorded) (CpuTurn k)
  pub stands : (pages : List (List ℕ)) → StandsFor d pages → StandsFor new pages
  pub limits : IsBus new

-- ---- The saver's turns

-- the front of the queue
abbrev pub pick_of : List ℕ → Pick
pick_of [] = picks.Empty
pick_of (p ∷ queue) = picks.Fault p

abbrev pub after_pick : BusData → BusData
after_pick d = record d {
  queue = drop 1 d.queue;
  picked = picked_after d.picked (pick_of d.queue);
  picks = counted d.picks;
  last = Some (pick_of d.queue);
}

abbrev pub after_take : BusData → ℕ → BusData
after_take d p = record d { writable = flags_after d.writable p (is_protected d.writable p) }

-- what was recorded after a take with these bytes
abbrev pub recorded_after : List (ℕ × List ℕ) → ℕ → List ℕ → Taken → List (ℕ × List ℕ)
recorded_after recorded p bytes takes.Copied = recorded ++ (p, bytes) ∷ []
recorded_after recorded p bytes takes.Stale = recorded
recorded_after recorded p bytes takes.Busy = recorded
