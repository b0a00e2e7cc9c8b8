-- The core of a save: a machine of which some pages are protected, the queue of the pages that stopped vCPUs wait for,
-- and what was recorded. Nothing here knows of locks (this project's own, docs/ARCHITECTURE.md).
use Rattle.std.specs.Prelude.{◌≡◌, ℕ, ◌<◌, nat_eq, not, Bool, true, false, List, [], ◌∷◌, ◌++◌, All, length, map, drop, replicate, slice_get, slice_index_or, slice_set, Option, Some, None, if◌then◌else◌}
use Rattle.std.specs.List.{IsDistinct}
use Rattle.ram_block.specs.PageLinks.{is_listed}
use Rattle.ram_block.specs.Shape.{total_pages_of}
use Rattle.flat_machine.specs.Laws.{event_written_page}
use Rattle.flat_machine.specs.Machine.{MachineData, page_of}
use Rattle.flat_machine.specs.Next.{next}
use Rattle.flat_machine.specs.Run.{run}
use Rattle.medium.specs.Count.{counted}
use Rattle.wp_fault.specs.Queue.{queued}

-- the machine, which pages are writable, the queue, the pages recorded with their bytes, how often a vCPU was stopped,
-- and the order of the events so far
pub record CoreState : Type 0 where
  pub machine : MachineData
  pub writable : List Bool
  pub queue : List ℕ
  pub recorded : List (ℕ × List ℕ)
  pub blocked : ℕ
  pub order : List ℕ

-- whose turn it is: a vCPU's, by number, or the saver's, which takes the front of the queue or records a page
pub data Turn : Type 0 where
  CpuTurn : ℕ → Turn
  PickTurn : Turn
  PageTurn : ℕ → Turn

-- whether a page is protected: one that there is, and that isn't writable
abbrev pub is_protected : List Bool → ℕ → Bool
is_protected writable p = not (slice_index_or writable p true)

-- the page, where it is one that is protected
abbrev pub protected_page : List Bool → Option ℕ → Option ℕ
protected_page writable None = None
protected_page writable (Some p) = if is_protected writable p then Some p else None

-- the protected page that the next event of vCPU k writes, where it writes one
unfoldable pub stopped_page : MachineData → List Bool → ℕ → Option ℕ
stopped_page m writable k = protected_page writable (event_written_page m k)

-- a vCPU was stopped on page p
abbrev pub core_stopped : CoreState → ℕ → CoreState
core_stopped s p = record s { queue = queued s.queue p; blocked = counted s.blocked }

-- an event of vCPU k, where it has one
abbrev pub core_moved : CoreState → ℕ → Option MachineData → CoreState
core_moved s k None = s
core_moved s k (Some m) = record s { machine = m; order = s.order ++ k ∷ [] }

-- the turn of vCPU k, where this protected page stops it, or none does
abbrev pub core_event : CoreState → ℕ → Option ℕ → CoreState
core_event s k (Some p) = core_stopped s p
core_event s k None = core_moved s k (next s.machine k)

-- page p was recorded, and is writable from now on
abbrev pub core_recorded : CoreState → ℕ → CoreState
core_recorded s p = record s { writable = slice_set s.writable p true; recorded = s.recorded ++ (p, page_of s.machine p) ∷ [] }

-- the state after a turn: a vCPU that is halted, and a page that is writable, leave it as it is
unfoldable pub core_turn : CoreState → Turn → CoreState
core_turn s (CpuTurn k) = core_event s k (stopped_page s.machine s.writable k)
core_turn s PickTurn = record s { queue = drop 1 s.queue }
core_turn s (PageTurn p) = if is_protected s.writable p then core_recorded s p else s

-- the state after these turns
unfoldable pub core_after : CoreState → List Turn → CoreState
core_after s [] = s
core_after s (turn ∷ turns) = core_after (core_turn s turn) turns

-- the state at the instant: every page is protected
abbrev pub core_from : MachineData → CoreState
core_from i = record {
  machine = i;
  writable = replicate (total_pages_of i.shape) false;
  queue = [];
  recorded = [];
  blocked = 0;
  order = [];
}

-- the pages that were recorded
abbrev pub recorded_pages : CoreState → List ℕ
recorded_pages s = map (λ (r : ℕ × List ℕ). r.0) s.recorded

-- what was recorded are bytes of the instant, and so is what is protected still; each page that is writable was
-- recorded, once, and no other; and the machine is that of the events so far
pub record KeepsInstant (i : MachineData) (s : CoreState) : Type 0 where
  pub count : length s.writable ≡ total_pages_of i.shape
  pub recorded : All (λ (r : ℕ × List ℕ). r.1 ≡ page_of i r.0) s.recorded
  pub protected : (p : ℕ) → is_protected s.writable p ≡ true → page_of s.machine p ≡ page_of i p
  pub each : (p : ℕ) → p < total_pages_of i.shape → slice_get s.writable p ≡ Some (is_listed (recorded_pages s) p)
  pub once : IsDistinct nat_eq (recorded_pages s)
  pub ran : run i s.order ≡ Some s.machine
