-- The turn of a vCPU on the bus is its turn in the run of the core.
use Rattle.std.proofs.Common.{◌≡◌, ◌≢◌, ℕ, zero, suc, ◌+◌, not, Bool, true, false, List, [], ◌∷◌, ◌++◌, All, Option, Some, None, refl, sym, ◌∙◌, ap, subst, arith}
use Rattle.std.specs.Prelude.{if◌then◌else◌}
use Rattle.std.specs.List.{slice_get}
use Rattle.std.proofs.lemmas.List.Elements.{All-append, All-cons, All-nil}
use Rattle.std.proofs.lemmas.Option.{none-some, same_Some}
use Rattle.ram_block.specs.PageLinks.{is_listed}
use Rattle.ram_block.specs.Shape.{total_pages_of}
use Rattle.medium.specs.States.{FileState}
use Rattle.flat_machine.specs.Laws.{event_written_page}
use Rattle.flat_machine.specs.Machine.{MachineData}
use Rattle.flat_machine.specs.Next.{next}
use Rattle.flat_machine.specs.Run.{has_ended}
use Rattle.page_cell.specs.Core.{CoreState, CpuTurn, core_event, core_moved, core_turn, is_protected, protected_page, stopped_page}
use Rattle.plain_bus.specs.Bus.{BusData, LeavesTry, after_try, core_of, event_answer, phase_ended, tried, with_event, with_turn}
use Rattle.plain_bus.specs.declared.answer.StepAnswer.{StepAnswer}
use Rattle.plain_bus.specs.declared.answer.StepAnswer.TheVariants.{Idle}
use Rattle.plain_bus.specs.Plant.{plant_state}
use Rattle.bg_saver.specs.Saver.{SaverData, IsSaver}
use Rattle.bg_saver.specs.Save.{IsAmong, IsOfSave, IsUnderWay}
use Rattle.bg_saver.specs.declared.save_end.SaveEnd.{SaveEnd}
use Rattle.vm_words.specs.declared.turns.TurnOf.{TurnOf}
use Rattle.vm_words.specs.declared.turns.TurnOf.TheVariants.{Cpu}
use Rattle.sliced_run.specs.CoreRun.{SlicedState, sliced_after, sliced_from, cpu_turn}
use Rattle.sliced_run.specs.Sliced.{SlicedData, HasCome, HasEnded, IsAt, IsSliced, IsWritten, FitsEnd, SaverStays, phase_of, taken_by, with_queue}
use Rattle.sliced_run.proofs.Turns.{after-push}

-- ---- Pages that stop an event

-- where every page is writable, none is protected
none_protected : (writable : List Bool) (p : ℕ) → All (λ w. w ≡ true) writable → is_protected writable p ≡ false
none_protected [] p all = refl
none_protected (w ∷ writable) zero all = ap not (all 0 w (omega arith))
none_protected (w ∷ writable) (suc p) all = none_protected writable p (λ k x h. all (suc k) x (omega (arith, h)))

none_stopped : (writable : List Bool) (page : Option ℕ) → All (λ w. w ≡ true) writable → protected_page writable page ≡ None
none_stopped writable None all = refl
none_stopped writable (Some p) all = ap (λ b. if b then Some p else None) (none_protected writable p all)

pub unstopped : (m : MachineData) (writable : List Bool) (k : ℕ) → All (λ w. w ≡ true) writable → stopped_page m writable k ≡ None
unfolding stopped_page
unstopped m writable k all = none_stopped writable (event_written_page m k) all

-- a page that stops an event is protected
stops_by : (writable : List Bool) (q p : ℕ) (b : Bool) → is_protected writable q ≡ b → (if b then Some q else None) ≡ Some p → is_protected writable p ≡ true
stops_by writable q p true on is = ap (is_protected writable) (sym (same_Some q p is)) ∙ on
stops_by writable q p false off is = absurd (none-some p is)

stops_protected : (writable : List Bool) (page : Option ℕ) (p : ℕ) → protected_page writable page ≡ Some p → is_protected writable p ≡ true
stops_protected writable None p is = absurd (none-some p is)
stops_protected writable (Some q) p is = stops_by writable q p (is_protected writable q) refl is

-- ---- What a turn leaves of the bus

record TryKeeps (d new : BusData) : Type 0 where
  instant : new.instant ≡ d.instant
  run : new.run ≡ d.run
  writable : new.writable ≡ d.writable
  picked : new.picked ≡ d.picked
  queued : All (λ p. is_protected d.writable p ≡ true) d.queue → All (λ p. is_protected d.writable p ≡ true) new.queue

same_bus : (d : BusData) → TryKeeps d d
same_bus d = record { instant = refl; run = refl; writable = refl; picked = refl; queued = λ all. all }

event_keeps : (d : BusData) (k : ℕ) (m : Option MachineData) → TryKeeps d (with_event d k m)
event_keeps d k None = same_bus d
event_keeps d k (Some m) = record { instant = refl; run = refl; writable = refl; picked = refl; queued = λ all. all }

queue_by : (P : ℕ → Type 0) (queue : List ℕ) (p : ℕ) (b : Bool) → P p → All P queue → All P (if b then queue else queue ++ p ∷ [])
queue_by P queue p true is all = all
queue_by P queue p false is all = All-append P queue (p ∷ []) all (All-cons P p [] is (All-nil P))

turn_keeps : (d : BusData) (k : ℕ) (page : Option ℕ) → stopped_page d.machine d.writable k ≡ page → TryKeeps d (with_turn d k page)
unfolding stopped_page
turn_keeps d k None is = event_keeps d k (next d.machine k)
turn_keeps d k (Some p) is = record {
  instant = refl;
  run = refl;
  writable = refl;
  picked = refl;
  queued = queue_by (λ p. is_protected d.writable p ≡ true) d.queue p (is_listed d.queue p)
      (stops_protected d.writable (event_written_page d.machine k) p is);
}

try_by : (d : BusData) (k : ℕ) (b : Bool) → TryKeeps d (if b then d else with_turn d k (stopped_page d.machine d.writable k))
try_by d k true = same_bus d
try_by d k false = turn_keeps d k (stopped_page d.machine d.writable k) refl

try_keeps : (d new : BusData) (k : ℕ) (answer : StepAnswer) → LeavesTry d k answer new → TryKeeps d new
unfolding after_try
try_keeps d new k answer leaves = subst (TryKeeps d) (sym leaves.after) (try_by d k (phase_ended d k))

-- an answer that an event has isn't Idle
event_answers : (page : Option ℕ) → event_answer page ≡ Idle → ⊥
event_answers None is = cc
event_answers (Some p) is = cc

idle_by : (d : BusData) (k : ℕ) (b : Bool) (page : Option ℕ) → Idle ≡ (if b then Idle else event_answer page) → (if b then d else with_turn d k page) ≡ d
idle_by d k true page is = refl
idle_by d k false page is = absurd (event_answers page (sym is))

-- a turn that is idle changes nothing
pub idle_same : (d new : BusData) (k : ℕ) → LeavesTry d k Idle new → new ≡ d
unfolding tried after_try
idle_same d new k leaves = leaves.after ∙ idle_by d k (phase_ended d k) (stopped_page d.machine d.writable k) leaves.answered

-- ---- The state

-- an event leaves the queue
moved_queue : (c : CoreState) (queue : List ℕ) (k : ℕ) (m : Option MachineData) → core_moved (with_queue c queue) k m ≡ with_queue (core_moved c k m) queue
moved_queue c queue k None = refl
moved_queue c queue k (Some m) = refl

-- so does the turn of a vCPU that no page stops
turn_queue : (c : CoreState) (queue : List ℕ) (k : ℕ) → stopped_page c.machine c.writable k ≡ None →
    core_turn (with_queue c queue) (CpuTurn k) ≡ with_queue (core_turn c (CpuTurn k)) queue
unfolding core_turn
turn_queue c queue k free =
    ap (core_event (with_queue c queue) k) free ∙ moved_queue c queue k (next c.machine k)
    ∙ ap (λ (x : CoreState). with_queue x queue) (sym (ap (core_event c k) free))

-- the state of the core after the turn, with its queue
turned_core : (x : SlicedData) (new : BusData) (recorded : List (ℕ × List ℕ)) (queue : List ℕ) (k : ℕ) (o : Option SaveEnd) → x.saved ≡ o →
    (x.saved ≡ None → queue ≡ x.bus.queue) → (HasEnded x → All (λ w. w ≡ true) x.bus.writable) →
    core_of new recorded ≡ core_turn (core_of x.bus recorded) (CpuTurn k) →
    (after : List ℕ) × (core_turn (with_queue (core_of x.bus recorded) queue) (CpuTurn k) ≡ with_queue (core_of new recorded) after) × (x.saved ≡ None → after ≡ new.queue)
turned_core x new recorded queue k None is same free moved =
    (new.queue, ap (λ q. core_turn (with_queue (core_of x.bus recorded) q) (CpuTurn k)) (same is) ∙ sym moved, λ none. refl)
turned_core x new recorded queue k (Some end) is same free moved =
    let ended : HasEnded x = λ none. none-some end (sym none ∙ is) in (
      queue,
      turn_queue (core_of x.bus recorded) queue k (unstopped x.bus.machine x.bus.writable k (free ended))
          ∙ ap (λ (c : CoreState). with_queue c queue) (sym moved),
      λ none. absurd (ended none),
    )

-- the turn of a vCPU whose phase goes on
at_moved : (i : MachineData) (n : ℕ) (x y : SlicedData) (s : SlicedState) (k : ℕ) (answer : StepAnswer) → IsSliced i n x → SaverStays x y →
    LeavesTry x.bus k answer y.bus → answer ≢ Idle → IsAt s x → IsAt (record s { core = core_turn s.core (CpuTurn k) }) y
at_moved i n x y s k answer is stays leaves busy at =
    let t = turned_core x y.bus at.recorded at.queue k x.saved refl at.queued is.writable (leaves.core at.recorded busy) in
    record {
      recorded = at.recorded;
      queue = t.0;
      core = ap (λ (c : CoreState). core_turn c (CpuTurn k)) at.core ∙ t.1;
      queued = λ none. t.2 (sym stays.saved ∙ none);
      saved = at.saved ∙ sym stays.saved;
      turns = λ none. at.turns (sym stays.saved ∙ none) ∙ ap (λ (d : SaverData). d.counts.faults + d.counts.sweep) (sym stays.saver);
      counts = at.counts ∙ ap (λ (d : SaverData). d.counts) (sym stays.saver);
    }

-- and of one whose phase has ended
at_idle : (x y : SlicedData) (s : SlicedState) → SaverStays x y → y.bus ≡ x.bus → IsAt s x → IsAt s y
at_idle x y s stays same at = record {
  recorded = at.recorded;
  queue = at.queue;
  core = at.core ∙ ap (λ (d : BusData). with_queue (core_of d at.recorded) at.queue) (sym same);
  queued = λ none. at.queued (sym stays.saved ∙ none) ∙ ap (λ (d : BusData). d.queue) (sym same);
  saved = at.saved ∙ sym stays.saved;
  turns = λ none. at.turns (sym stays.saved ∙ none) ∙ ap (λ (d : SaverData). d.counts.faults + d.counts.sweep) (sym stays.saver);
  counts = at.counts ∙ ap (λ (d : SaverData). d.counts) (sym stays.saver);
}

at_by : (i : MachineData) (n : ℕ) (x y : SlicedData) (s : SlicedState) (k : ℕ) (answer : StepAnswer) (b : Bool) → IsSliced i n x → SaverStays x y →
    LeavesTry x.bus k answer y.bus → has_ended x.bus.instant x.bus.run x.bus.machine k ≡ b → IsAt s x →
    IsAt (if b then s else record s { core = core_turn s.core (CpuTurn k) }) y
at_by i n x y s k answer true is stays leaves over at =
    let idle : answer ≡ Idle = leaves.idle.1 over in
    at_idle x y s stays (idle_same x.bus y.bus k (subst (λ a. LeavesTry x.bus k a y.bus) idle leaves)) at
at_by i n x y s k answer false is stays leaves on at =
    at_moved i n x y s k answer is stays leaves (λ idle. absurd (let no : true ≡ false = sym (leaves.idle.0 idle) ∙ on in cc)) at

-- whether a phase has ended, the core and the bus say alike
ended_alike : (i : MachineData) (n : ℕ) (x : SlicedData) (s : SlicedState) (k : ℕ) → IsSliced i n x → IsAt s x →
    has_ended i n s.core.machine k ≡ has_ended x.bus.instant x.bus.run x.bus.machine k
ended_alike i n x s k is at =
    ap (λ (m : MachineData). has_ended m n s.core.machine k) (sym is.instant) ∙ ap (λ r. has_ended x.bus.instant r s.core.machine k) (sym is.run)
    ∙ ap (λ (c : CoreState). has_ended x.bus.instant x.bus.run c.machine k) at.core

cpu_at : (i : MachineData) (n : ℕ) (fails_at : Option ℕ) (x y : SlicedData) (s : SlicedState) (k : ℕ) (answer : StepAnswer) → IsSliced i n x → SaverStays x y →
    LeavesTry x.bus k answer y.bus → IsAt s x → IsAt (cpu_turn (phase_of i n fails_at) s k) y
unfolding cpu_turn
cpu_at i n fails_at x y s k answer is stays leaves at =
    subst (λ (b : Bool). IsAt (if b then s else record s { core = core_turn s.core (CpuTurn k) }) y) (sym (ended_alike i n x s k is at))
    (at_by i n x y s k answer (has_ended x.bus.instant x.bus.run x.bus.machine k) is stays leaves refl at)

-- ---- The turn

pub cpu_comes : (i : MachineData) (n : ℕ) (turns : List TurnOf) (x y : SlicedData) (k : ℕ) (answer : StepAnswer) → IsSliced i n x → SaverStays x y →
    LeavesTry x.bus k answer y.bus → HasCome i n turns x → HasCome i n (turns ++ Cpu k ∷ []) y
cpu_comes i n turns x y k answer is stays leaves come = λ fails_at fits.
    (let taken : taken_by y ≡ taken_by x = ap (λ (d : SaverData). d.counts.faults + d.counts.sweep) stays.saver in
    let before : FitsEnd x.saved (taken_by x) fails_at =
    subst (λ o. FitsEnd o (taken_by x) fails_at) stays.saved (subst (λ t. FitsEnd y.saved t fails_at) taken fits) in
    subst (λ s. IsAt s y) (sym (after-push (phase_of i n fails_at) (sliced_from i) turns (Cpu k)))
    (cpu_at i n fails_at x y (sliced_after (phase_of i n fails_at) (sliced_from i) turns) k answer is stays leaves (come fails_at before)))

pub cpu_keeps : (i : MachineData) (n : ℕ) (x y : SlicedData) (k : ℕ) (answer : StepAnswer) → IsSliced i n x → SaverStays x y →
    LeavesTry x.bus k answer y.bus → IsSliced i n y
cpu_keeps i n x y k answer is stays leaves =
    let kept = try_keeps x.bus y.bus k answer leaves in
    let shape : y.bus.machine.shape ≡ x.bus.machine.shape = leaves.limits.shape ∙ ap (λ (m : MachineData). m.shape) kept.instant ∙ sym is.bus.shape in
    let none : y.saved ≡ None → x.saved ≡ None = λ h. sym stays.saved ∙ h in
    record {
      bus = leaves.limits;
      instant = kept.instant ∙ is.instant;
      run = kept.run ∙ is.run;
      limits = subst IsSaver (sym stays.saver) is.limits;
      save = subst (λ (d : SaverData). IsOfSave d (plant_state y.bus)) (sym stays.saver) (record {
        fits = leaves.limits;
        total = ap total_pages_of shape ∙ is.save.total;
        writable = λ runs p h. ap (λ w. slice_get w p) kept.writable ∙ is.save.writable runs p h;
        picked = λ p h. ap (λ w. slice_get w p) kept.picked ∙ is.save.picked p h;
        hand = subst (λ w. IsAmong w x.saver.hand) (sym kept.picked) is.save.hand;
      });
      hand = ap (λ (d : SaverData). d.hand) stays.saver ∙ is.hand;
      saved = ap (λ (d : SaverData). d.end) stays.saver ∙ is.saved ∙ sym stays.saved;
      queued = λ h. subst (λ w. All (λ p. is_protected w p ≡ true) y.bus.queue) (sym kept.writable) (kept.queued (is.queued (none h)));
      writable = λ h. subst (λ w. All (λ x. x ≡ true) w) (sym kept.writable) (is.writable (λ none. h (stays.saved ∙ none)));
      whole = λ complete. ap (λ (d : SaverData). d.left) stays.saver ∙ is.whole (sym stays.saved ∙ complete);
    }

pub cpu_writes : (i : MachineData) (x y : SlicedData) (file : FileState) (k : ℕ) (answer : StepAnswer) → SaverStays x y →
    LeavesTry x.bus k answer y.bus → IsWritten i x file → IsWritten i y file
cpu_writes i x y file k answer stays leaves written = λ none.
    (let way = written (sym stays.saved ∙ none) in
    subst (λ (d : SaverData). IsUnderWay d i (plant_state y.bus) file) (sym stays.saver) (record {
      runs = way.runs;
      saves = way.saves;
      stands = leaves.stands _ way.stands;
      told = way.told;
      shut = way.shut;
    }))
