-- What the turns of a bus leave.
use Rattle.std.proofs.Common.{◌≡◌, ℕ, zero, suc, ◌+◌, ◌*◌, ◌^◌, ◌<◌, ◌≤◌, true, false, List, [], ◌∷◌, length, map, get_or, Some, None, refl, sym, ◌∙◌, ap, subst, arith}
use Rattle.std.specs.Prelude.{if◌then◌else◌, slice_index}
use Rattle.std.proofs.Math.Nat.{mul-le-mul_left}
use Rattle.std.specs.List.{slice_get}
use Rattle.std.specs.Option.{option_map_or}
use Rattle.std.proofs.lemmas.Grind.{get_or_default_zero}
use Rattle.std.proofs.lemmas.List.{length-map}
use Rattle.std.proofs.lemmas.Option.{slice_get_within}
use Rattle.ram_block.specs.Shape.{ShapeData, total_pages_of}
use Rattle.rv64i_step.specs.Vcpu.{VcpuData}
use Rattle.wp_fault.specs.Queue.{IsQueue, queued}
use Rattle.flat_machine.specs.Machine.{MachineData, IsMachine}
use Rattle.flat_machine.specs.Next.{next}
use Rattle.flat_machine.specs.Run.{ended_at, ends_of, has_ended, halted_at, is_halted, steps_of}
use Rattle.flat_machine.proofs.Frames.{next_keeps}
use Rattle.flat_machine.proofs.Outcomes.{halted_at-is}
use Rattle.flat_machine.proofs.Phases.{going}
use Rattle.flat_machine.proofs.RoundPhases.{goes_on}
use Rattle.flat_machine.proofs.Servable.{machine_serves}
use Rattle.flat_machine.proofs.Turns.{steps_of-le}
use Rattle.flat_machine.proofs.UnderWay.{way_clock, way_room, way_steps}
use Rattle.flat_machine.proofs.Written.{other_pages_stay}
use Rattle.page_cell.specs.Core.{core_event, core_moved, core_turn, stopped_page}
use Rattle.page_cell.proofs.Instant.{protected_get, unstopped}
use Rattle.plain_bus.specs.Bus.{BusData, IsBus, LeavesTry, after_try, core_of, event_answer, phase_ended, progress_of, tried, with_event, with_stop, with_turn}
use Rattle.plain_bus.specs.declared.answer.StepAnswer.TheVariants.{Done, Stopped, Idle}

-- ---- What each turn may count on

-- the counts of steps at which the phases end
ends-at : (vs : List VcpuData) (n k : ℕ) → k < length vs →
    get_or (map (λ v. v.steps + n) vs) k 0 ≡ option_map_or (λ v. v.steps) (slice_get vs k) 0 + n
ends-at [] n k h = absurd (omega arith)
ends-at (v ∷ vs) n zero h = refl
ends-at (v ∷ vs) n (suc k) h = ends-at vs n k (omega arith)

-- whether a phase has ended, the bus knows
pub ended-is : (d : BusData) (k : ℕ) → IsBus d → k < d.machine.shape.vcpus → phase_ended d k ≡ has_ended d.instant d.run d.machine k
unfolding ends_of has_ended
ended-is d k is h =
    let within : k < length d.instant.vcpus = omega (arith, is.instant.vcpus, ap (λ (s : ShapeData). s.vcpus) is.shape) in
    ap (λ ends. ended_at (slice_index ends k) d.machine k) is.ends ∙ ap (λ until. ended_at until d.machine k) (ends-at d.instant.vcpus d.run k within)

-- there is an end for each vCPU
pub ends_len : (d : BusData) → IsBus d → length d.ends ≡ d.machine.shape.vcpus
unfolding ends_of
ends_len d is =
    ap (λ (l : List ℕ). length l) is.ends ∙ length-map d.instant.vcpus (λ v. v.steps + d.run) ∙ is.instant.vcpus ∙ ap (λ (s : ShapeData). s.vcpus) (sym is.shape)

-- whether a phase has ended, by the end that was read
pub ended_here : (d : BusData) (k until : ℕ) → until ≡ get_or d.ends k until → k < length d.ends → ended_at until d.machine k ≡ phase_ended d k
ended_here d k until here h = ap (λ n. ended_at n d.machine k) (here ∙ get_or_default_zero d.ends k until h)

-- where the phase of a vCPU goes on, there is room for its event
pub record GoesOn (d : BusData) (k : ℕ) : Type 0 where
  pub still : has_ended d.instant d.run d.machine k ≡ false
  pub room : length d.order.members < d.order.room
  pub clock : d.machine.clock < 2 ^ 63
  pub steps : steps_of d.machine k < 2 ^ 63
  pub runs : halted_at d.machine k ≡ false

-- the room is that of a phase
room_is : (d : BusData) → IsBus d → 2 * d.run * length d.instant.vcpus ≡ d.order.room
room_is d is =
    let count : length d.instant.vcpus ≡ d.machine.shape.vcpus = is.instant.vcpus ∙ ap (λ (s : ShapeData). s.vcpus) (sym is.shape) in
    ap (λ n. 2 * d.run * n) count ∙ sym is.room

room_most : (d : BusData) → IsBus d → d.order.room ≤ 16000000
room_most d is =
    let vcpus : d.machine.shape.vcpus ≤ 8 = is.machine.shape.vcpus.1 in
    let run : d.run ≤ 1000000 = is.run in
    let most : 2 * d.run * d.machine.shape.vcpus ≤ 2 * d.run * 8 = mul-le-mul_left (2 * d.run) vcpus in
    omega (arith, most, run, is.room)

pub goes : (d : BusData) (k : ℕ) → IsBus d → k < d.machine.shape.vcpus → phase_ended d k ≡ false → GoesOn d k
goes d k is h off =
    let still : has_ended d.instant d.run d.machine k ≡ false = sym (ended-is d k is h) ∙ off in
    let room : length d.order.members < d.order.room =
    subst (λ (n : ℕ). length d.order.members < n) (room_is d is) (way_room d.instant d.run (progress_of d) k is.rest is.way still) in
    let most = room_most d is in
    let clock = way_clock d.instant d.run (progress_of d) (machine_serves d.instant is.instant) is.way in
    let steps = way_steps d.instant d.run (progress_of d) k is.way in
    let before = steps_of-le d.instant k (2 ^ 62) is.rest.steps in
    let run : d.run ≤ 1000000 = is.run in
    let on = going d.instant d.run d.machine k still in
    record {
      still = still;
      room = room;
      clock = omega (arith, room, most, clock, is.rest.clock);
      steps = omega (arith, steps, before, run);
      runs = halted_at-is d.machine k on.vcpu on.stood ∙ ap is_halted on.runs;
    }

-- ---- The turn of a vCPU

-- its phase has ended
pub try_idle : (d : BusData) (k : ℕ) → IsBus d → k < d.machine.shape.vcpus → phase_ended d k ≡ true → LeavesTry d k Idle d
unfolding tried after_try
try_idle d k is h over = record {
  answered = sym (ap (λ b. if b then Idle else event_answer (stopped_page d.machine d.writable k)) over);
  after = sym (ap (λ b. if b then d else with_turn d k (stopped_page d.machine d.writable k)) over);
  idle = ((λ _. sym (ended-is d k is h) ∙ over), (λ _. refl));
  core = λ recorded other. absurd (other refl);
  stands = λ pages stands. stands;
  limits = is;
}

-- a page stopped it
pub try_stopped : (d : BusData) (k p : ℕ) → IsBus d → k < d.machine.shape.vcpus → phase_ended d k ≡ false → Some p ≡ stopped_page d.machine d.writable k →
    IsQueue (record { pages = total_pages_of d.machine.shape; list = queued d.queue p }) → LeavesTry d k (Stopped p) (with_stop d p)
unfolding tried after_try core_turn
try_stopped d k p is h off stops queue =
    let still = (goes d k is h off).still in
    record {
      answered = ap event_answer stops ∙ sym (ap (λ b. if b then Idle else event_answer (stopped_page d.machine d.writable k)) off);
      after = ap (with_turn d k) stops ∙ sym (ap (λ b. if b then d else with_turn d k (stopped_page d.machine d.writable k)) off);
      idle = ((λ e. absurd (cc)), (λ e. absurd (let no : true ≡ false = sym e ∙ still in cc)));
      core = λ recorded other. ap (core_event (core_of d recorded) k) stops;
      stands = λ pages stands. record { count = stands.count; each = stands.each };
      limits = record {
        machine = is.machine;
        instant = is.instant;
        rest = is.rest;
        run = is.run;
        shape = is.shape;
        way = is.way;
        ends = is.ends;
        room = is.room;
        writable = is.writable;
        picked = is.picked;
        queue = queue;
      };
    }

-- it made an event
pub try_done : (d : BusData) (k : ℕ) (m : MachineData) → IsBus d → k < d.machine.shape.vcpus → phase_ended d k ≡ false →
    None ≡ stopped_page d.machine d.writable k → next d.machine k ≡ Some m → IsMachine m → LeavesTry d k Done (with_event d k (Some m))
unfolding tried after_try core_turn
try_done d k m is h off free moved limits =
    let on = goes d k is h off in
    let serves = machine_serves d.machine is.machine in
    let kept = next_keeps d.machine k m serves moved in
    record {
      answered = ap event_answer free ∙ sym (ap (λ b. if b then Idle else event_answer (stopped_page d.machine d.writable k)) off);
      after = ap (with_event d k) (sym moved) ∙ ap (with_turn d k) free ∙ sym (ap (λ b. if b then d else with_turn d k (stopped_page d.machine d.writable k)) off);
      idle = ((λ e. absurd (cc)), (λ e. absurd (let no : true ≡ false = sym e ∙ on.still in cc)));
      core = λ recorded other. ap (core_moved (core_of d recorded) k) (sym moved) ∙ ap (core_event (core_of d recorded) k) free;
      stands = λ pages stands. record {
        count = stands.count ∙ ap total_pages_of (sym kept.shape);
        each = λ p is_p.
            (let within : p < total_pages_of d.machine.shape =
            subst (λ (n : ℕ). p < n) is.writable (slice_get_within d.writable p false (protected_get d.writable p is_p)) in
            stands.each p is_p ∙ ap Some (sym (other_pages_stay d.machine k m p serves moved within (unstopped d.machine d.writable k p (sym free) is_p))));
      };
      limits = record {
        machine = limits;
        instant = is.instant;
        rest = is.rest;
        run = is.run;
        shape = kept.shape ∙ is.shape;
        way = goes_on d.instant d.run (progress_of d) k m is.way on.still moved;
        ends = is.ends;
        room = is.room ∙ ap (λ (s : ShapeData). 2 * d.run * s.vcpus) (sym kept.shape);
        writable = is.writable ∙ ap total_pages_of (sym kept.shape);
        picked = is.picked ∙ ap total_pages_of (sym kept.shape);
        queue = subst (λ (s : ShapeData). IsQueue (record { pages = total_pages_of s; list = d.queue })) (sym kept.shape) is.queue;
      };
    }
