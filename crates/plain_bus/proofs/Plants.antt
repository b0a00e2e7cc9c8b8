-- What a pick and a take leave.
use Rattle.std.proofs.Common.{◌≡◌, ℕ, zero, suc, ◌<◌, Bool, true, false, List, [], ◌∷◌, All, length, drop, slice_set, Some, refl, sym, ◌∙◌, ap, subst, arith}
use Rattle.std.specs.Prelude.{if◌then◌else◌}
use Rattle.std.proofs.lemmas.List.{length-set}
use Rattle.ram_block.specs.Shape.{total_pages_of}
use Rattle.wp_fault.specs.Queue.{IsQueue}
use Rattle.flat_machine.specs.Machine.{page_of}
use Rattle.page_cell.specs.Core.{PageTurn, PickTurn, core_recorded, core_turn, is_protected}
use Rattle.page_cell.specs.Plant.{LeavesPick, LeavesTake, PickCause, PicksFront, picked_after}
use Rattle.page_cell.specs.declared.plant.Pick.{Pick}
use Rattle.page_cell.specs.declared.plant.Pick.TheVariants as picks
use Rattle.page_cell.proofs.Instant.{protected_get, unprotected_get}
use Rattle.plain_bus.specs.Bus.{BusData, IsBus, after_pick, after_take, core_of, pick_of, recorded_after}
use Rattle.page_cell.specs.declared.plant.Taken.{Taken}
use Rattle.plain_bus.specs.Cells.{CellsData, buffer_after, flags_after, taken_where}
use Rattle.plain_bus.specs.Plant.{plant_state}

-- ---- A pick

pick_cause : (total : ℕ) (queue : List ℕ) → All (λ p. p < total) queue → PickCause total 0 0 (pick_of queue)
pick_cause total [] below = tt
pick_cause total (p ∷ queue) below = below 0 p (omega arith)

picks_front : (queue : List ℕ) → PicksFront (Some queue) (Some (drop 1 queue)) (pick_of queue)
picks_front [] = (refl, refl)
picks_front (p ∷ queue) = (queue, refl, refl)

length-picked : (picked : List Bool) (answer : Pick) → length (picked_after picked answer) ≡ length picked
length-picked picked (picks.Fault p) = length-set picked p true
length-picked picked picks.Empty = refl
length-picked picked picks.Busy = refl

pub pick_keeps : (d : BusData) → IsBus d → IsQueue (record { pages = total_pages_of d.machine.shape; list = drop 1 d.queue }) → IsBus (after_pick d)
pick_keeps d is queue = record {
  machine = is.machine;
  instant = is.instant;
  rest = is.rest;
  run = is.run;
  shape = is.shape;
  way = is.way;
  ends = is.ends;
  room = is.room;
  writable = is.writable;
  picked = length-picked d.picked (pick_of d.queue) ∙ is.picked;
  queue = queue;
}

pub pick_leaves : (d : BusData) → IsBus d → IsBus (after_pick d) → LeavesPick (plant_state d) (plant_state (after_pick d)) (pick_of d.queue)
pick_leaves d is limits = record {
  keeps = record {
    total = refl;
    rest = refl;
    stands = λ pages stands. record { count = stands.count; each = stands.each };
    fits = limits;
    never_falls = omega arith;
  };
  writable = refl;
  picked = refl;
  cause = pick_cause (total_pages_of d.machine.shape) d.queue is.queue.below;
  picks = refl;
  last = refl;
  queue = picks_front d.queue;
}

-- it is that of the core
pub pick_core : (d : BusData) (recorded : List (ℕ × List ℕ)) → core_of (after_pick d) recorded ≡ core_turn (core_of d recorded) PickTurn
unfolding core_turn
pick_core d recorded = refl

-- ---- A take

still_protected : (writable : List Bool) (p q : ℕ) → is_protected (slice_set writable p true) q ≡ true → is_protected writable q ≡ true
still_protected [] p q is = is
still_protected (w ∷ writable) zero zero is = absurd (cc)
still_protected (w ∷ writable) zero (suc q) is = is
still_protected (w ∷ writable) (suc p) zero is = is
still_protected (w ∷ writable) (suc p) (suc q) is = still_protected writable p q is

protected_before : (writable : List Bool) (p q : ℕ) (b : Bool) → is_protected (flags_after writable p b) q ≡ true → is_protected writable q ≡ true
protected_before writable p q true is = still_protected writable p q is
protected_before writable p q false is = is

length-flags : (writable : List Bool) (p : ℕ) (b : Bool) → length (flags_after writable p b) ≡ length writable
length-flags writable p true = length-set writable p true
length-flags writable p false = refl

pub take_keeps : (d : BusData) (p : ℕ) → IsBus d → IsBus (after_take d p)
take_keeps d p is = record {
  machine = is.machine;
  instant = is.instant;
  rest = is.rest;
  run = is.run;
  shape = is.shape;
  way = is.way;
  ends = is.ends;
  room = is.room;
  writable = length-flags d.writable p (is_protected d.writable p) ∙ is.writable;
  picked = is.picked;
  queue = is.queue;
}

-- by whether the page is protected
take_by : (d : BusData) (p : ℕ) (before : List ℕ) (b : Bool) → is_protected d.writable p ≡ b → p < length d.writable → IsBus (record d { writable = flags_after d.writable p b }) →
    LeavesTake (plant_state d) (plant_state (record d { writable = flags_after d.writable p b })) p before (buffer_after (page_of d.machine p) before b) (taken_where b)
take_by d p before true is h limits = record {
  keeps = record {
    total = refl;
    rest = refl;
    stands = λ pages stands. record { count = stands.count; each = λ q still. stands.each q (still_protected d.writable p q still) };
    fits = limits;
    never_falls = omega arith;
  };
  picked = refl;
  picks = refl;
  last = refl;
  queue = refl;
  takes = record { was = protected_get d.writable p is; writable = refl; bytes = λ pages stands. stands.each p is };
}
take_by d p before false is h limits = record {
  keeps = record {
    total = refl;
    rest = refl;
    stands = λ pages stands. record { count = stands.count; each = stands.each };
    fits = limits;
    never_falls = omega arith;
  };
  picked = refl;
  picks = refl;
  last = refl;
  queue = refl;
  takes = (unprotected_get d.writable p h is, record { writable = refl; buffer = refl });
}

pub take_leaves : (d : BusData) (p : ℕ) (before : List ℕ) → IsBus d → p < total_pages_of d.machine.shape →
    LeavesTake (plant_state d) (plant_state (after_take d p)) p before (buffer_after (page_of d.machine p) before (is_protected d.writable p)) (taken_where (is_protected d.writable p))
take_leaves d p before is h = take_by d p before (is_protected d.writable p) refl (subst (λ (n : ℕ). p < n) (sym is.writable) h) (take_keeps d p is)

-- it is that of the core
take_core_by : (d : BusData) (p : ℕ) (before : List ℕ) (recorded : List (ℕ × List ℕ)) (b : Bool) →
    core_of (record d { writable = flags_after d.writable p b }) (recorded_after recorded p (buffer_after (page_of d.machine p) before b) (taken_where b))
    ≡ (if b then core_recorded (core_of d recorded) p else core_of d recorded)
take_core_by d p before recorded true = refl
take_core_by d p before recorded false = refl

pub take_core : (d : BusData) (p : ℕ) (before : List ℕ) (recorded : List (ℕ × List ℕ)) →
    core_of (after_take d p) (recorded_after recorded p (buffer_after (page_of d.machine p) before (is_protected d.writable p)) (taken_where (is_protected d.writable p)))
    ≡ core_turn (core_of d recorded) (PageTurn p)
unfolding core_turn
take_core d p before recorded = take_core_by d p before recorded (is_protected d.writable p)

-- the cells of a bus that a take left
took_same : (b : BusData) (p : ℕ) (cells : CellsData) → cells.machine ≡ b.machine → cells.writable ≡ flags_after b.writable p (is_protected b.writable p) →
    after_take b p ≡ record b { machine = cells.machine; writable = cells.writable }
took_same b p cells machine writable =
    ap (λ w. record b { writable = w }) (sym writable) ∙ ap (λ m. record b { machine = m; writable = cells.writable }) (sym machine)

-- so it leaves what it has to
pub took : (b : BusData) (p : ℕ) (before into : List ℕ) (cells : CellsData) (answer : Taken) → IsBus b → p < total_pages_of b.machine.shape →
    answer ≡ taken_where (is_protected b.writable p) → cells.machine ≡ b.machine → cells.writable ≡ flags_after b.writable p (is_protected b.writable p) →
    into ≡ buffer_after (page_of b.machine p) before (is_protected b.writable p) →
    LeavesTake (plant_state b) (plant_state (record b { machine = cells.machine; writable = cells.writable })) p before into answer
took b p before into cells answer is h answered machine writable buffer =
    let leaves = take_leaves b p before is h in
    let by_cells = subst (λ new. LeavesTake (plant_state b) (plant_state new) p before (buffer_after (page_of b.machine p) before (is_protected b.writable p)) (taken_where (is_protected b.writable p)))
    (took_same b p cells machine writable) leaves in
    let by_buffer = subst (λ bytes. LeavesTake (plant_state b) (plant_state (record b { machine = cells.machine; writable = cells.writable })) p before bytes (taken_where (is_protected b.writable p)))
    (sym buffer) by_cells in
    subst (λ a. LeavesTake (plant_state b) (plant_state (record b { machine = cells.machine; writable = cells.writable })) p before into a) (sym answered) by_buffer

pub took_core : (b : BusData) (p : ℕ) (before into : List ℕ) (cells : CellsData) (answer : Taken) (recorded : List (ℕ × List ℕ)) →
    answer ≡ taken_where (is_protected b.writable p) → cells.machine ≡ b.machine → cells.writable ≡ flags_after b.writable p (is_protected b.writable p) →
    into ≡ buffer_after (page_of b.machine p) before (is_protected b.writable p) →
    core_of (record b { machine = cells.machine; writable = cells.writable }) (recorded_after recorded p into answer) ≡ core_turn (core_of b recorded) (PageTurn p)
took_core b p before into cells answer recorded answered machine writable buffer =
    ap (λ d. core_of d (recorded_after recorded p into answer)) (sym (took_same b p cells machine writable))
    ∙ ap (λ bytes. core_of (after_take b p) (recorded_after recorded p bytes answer)) buffer
    ∙ ap (λ a. core_of (after_take b p) (recorded_after recorded p (buffer_after (page_of b.machine p) before (is_protected b.writable p)) a)) answered
    ∙ take_core b p before recorded
