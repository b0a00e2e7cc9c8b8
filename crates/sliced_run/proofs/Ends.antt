-- The start and the end of a phase on one thread.
use Rattle.std.proofs.Common.{◌≡◌, ◌⊎◌, inl, inr, ℕ, ◌+◌, ◌*◌, ◌<◌, true, false, List, [], ◌++◌, All, length, get_or, replicate, Option, Some, None, refl, sym, ◌∙◌, ap, subst, arith, zero-add}
use Rattle.std.specs.Prelude.{IfSome, slice_index}
use Rattle.std.specs.List.{range_with_len}
use Rattle.std.proofs.lemmas.List.{append_assoc}
use Rattle.std.proofs.lemmas.List.FromFn.{get_or-range_with_len, length-range_with_len}
use Rattle.std.proofs.lemmas.Option.{none-some, same_Some}
use Rattle.page_sweep.specs.Sweep.{IsSweep}
use Rattle.ram_block.specs.Shape.{total_pages_of}
use Rattle.medium.specs.Members.{file_state}
use Rattle.medium.specs.States.{FileState}
use Rattle.medium.specs.declared.readable.Readable as readable
use Rattle.flat_machine.specs.Machine.{IsMachine, MachineData}
use Rattle.flat_machine.specs.Run.{Phase, has_ended, run}
use Rattle.page_cell.specs.Core.{CoreState, is_protected}
use Rattle.page_cell.specs.Plant.{pages_of}
use Rattle.plain_bus.specs.Bus.{BusData, IsBus, StandsFor, bus_from, core_of}
use Rattle.plain_bus.specs.Plant.{plant_state}
use Rattle.bg_saver.specs.Saver.{SaverData, IsSaver, total_of}
use Rattle.bg_saver.specs.Save.{HasJustBegun, IsAtInstant, IsOfSave, IsUnderWay, saver_at}
use Rattle.bg_saver.proofs.Begun.{first_limits}
use Rattle.bg_saver.proofs.Instant.{begun_of_save, begun_under_way}
use Rattle.bg_saver.specs.Writes.{IsRefusedOr, LeavesSince}
use Rattle.bg_saver.specs.declared.counts.Counts.{Counts}
use Rattle.bg_saver.specs.declared.save_end.SaveEnd.{SaveEnd}
use Rattle.bg_saver.specs.declared.save_end.SaveEnd.TheVariants.{Complete, Failed}
use Rattle.bg_saver.specs.declared.save_job.PhaseOut.{PhaseOut}
use Rattle.vm_words.specs.declared.turns.TurnOf.{TurnOf}
use Rattle.sliced_run.specs.CoreRun.{SlicedState, core_run, rounds_of, saver_turns, sliced_after, sliced_from}
use Rattle.sliced_run.specs.Phase.{AddsOnly, IsCoreRun, IsPhaseOf, LeavesFile, failing_turn}
use Rattle.sliced_run.specs.Sliced.{FitsEnd, HasCome, HasEnded, HasRun, TurnsTaken, VcpuTurnsTaken, IsAt, IsSliced, SlicedData, WritesOn, phase_of, taken_by, with_queue}
use Rattle.sliced_run.proofs.Taken.{taken_next, taken_then, vcpus_taken}

-- ---- The end

-- how the save ended fits the turn at which it failed, if it did
fits_end : (saved : Option SaveEnd) (counts : Counts) → ((saved ≡ None) → ⊥) → FitsEnd saved (counts.faults + counts.sweep) (failing_turn saved counts)
fits_end None counts ended = absurd (ended refl)
fits_end (Some Complete) counts ended = refl
fits_end (Some Failed) counts ended = refl

-- the run of the core, by its parts
parts_of_run : (i : MachineData) (n : ℕ) (fails_at : Option ℕ) (turns : List TurnOf) →
    sliced_after (phase_of i n fails_at) (sliced_from i) ((turns ++ saver_turns i) ++ rounds_of i (2 * n)) ≡ core_run (phase_of i n fails_at) turns
unfolding core_run
parts_of_run i n fails_at turns = ap (sliced_after (phase_of i n fails_at) (sliced_from i)) (append_assoc turns (saver_turns i) (rounds_of i (2 * n)))

core_at : (s : SlicedState) (d : SlicedData) (out : PhaseOut) → IsAt s d → out.machine ≡ d.bus.machine → out.order.members ≡ d.bus.order.members → out.saved ≡ d.saved →
    out.blocked ≡ d.bus.blocked → out.counts ≡ d.saver.counts → IsCoreRun s out
core_at s d out at machine order saved blocked counts = record {
  machine = machine ∙ sym (ap (λ (c : CoreState). c.machine) at.core);
  order = order ∙ sym (ap (λ (c : CoreState). c.order) at.core);
  saved = saved ∙ sym at.saved;
  blocked = blocked ∙ sym (ap (λ (c : CoreState). c.blocked) at.core);
  counts = counts ∙ sym at.counts;
}

other_end : Complete ≡ Failed → ⊥
other_end same = cc

-- a save that is complete counts each page
all_counted : (i : MachineData) (n : ℕ) (d : SlicedData) → IsSliced i n d → d.saved ≡ Some Complete → taken_by d ≡ total_pages_of i.shape
all_counted i n d is complete =
    let none : length d.saver.left ≡ 0 = ap (λ (l : List ℕ). length l) (is.whole complete) in
    let all = is.limits.all (λ failed. other_end (same_Some Complete Failed (sym (is.saved ∙ complete) ∙ failed))) in
    let total : total_of d.saver ≡ total_pages_of i.shape =
    sym is.save.total ∙ ap total_pages_of is.bus.shape ∙ ap (λ (m : MachineData). total_pages_of m.shape) is.instant in
    omega (arith, all, none, total)

-- what is left of the phase
pub record IsOutOf (d : SlicedData) (out : PhaseOut) : Type 0 where
  pub machine : out.machine ≡ d.bus.machine
  pub order : out.order.members ≡ d.bus.order.members
  pub saved : out.saved ≡ d.saved
  pub blocked : out.blocked ≡ d.bus.blocked
  pub counts : out.counts ≡ d.saver.counts

pub phase_out : (i : MachineData) (n : ℕ) (turns : List TurnOf) (d : SlicedData) (out : PhaseOut) → IsSliced i n d → HasCome i n ((turns ++ saver_turns i) ++ rounds_of i (2 * n)) d →
    ((d.saved ≡ None) → ⊥) → Phase i n out.order.members → IsMachine out.machine → IsOutOf d out → IsPhaseOf i n turns out
phase_out i n turns d out is come ended phase limits of = record {
  phase = phase;
  ran = ap (run i) of.order ∙ (subst (λ (m : MachineData). run m d.bus.order.members ≡ Some d.bus.machine) is.instant is.bus.way.ran) ∙ ap Some (sym of.machine);
  core =
      (let fits : FitsEnd d.saved (taken_by d) (failing_turn out.saved out.counts) =
      subst (λ o. FitsEnd d.saved (taken_by d) (failing_turn o out.counts)) (sym of.saved)
      (subst (λ c. FitsEnd d.saved (taken_by d) (failing_turn d.saved c)) (sym of.counts) (fits_end d.saved d.saver.counts ended)) in
      subst (λ s. IsCoreRun s out) (parts_of_run i n (failing_turn out.saved out.counts) turns)
      (core_at _ d out (come (failing_turn out.saved out.counts) fits) of.machine of.order of.saved of.blocked of.counts));
  ended = λ none. ended (sym of.saved ∙ none);
  all = λ complete. ap (λ (c : Counts). c.faults + c.sweep) of.counts ∙ all_counted i n d is (sym of.saved ∙ complete);
  limits = limits;
}

-- ---- The file

module _ {M : Type 0} (g : readable.Ghosts M) (i : MachineData) where
  safe : (a b : M) → (b ≡ a) ⊎ LeavesSince (file_state g a) (file_state g b) (IsRefusedOr i) → AddsOnly i (file_state g a) (file_state g b)
  safe a b (inl same) = subst (λ (m : M). AddsOnly i (file_state g a) (file_state g m)) (sym same) (record { later = omega arith; nothing_else = λ t image le left. inl left })
  safe a b (inr since) = record { later = since.later; nothing_else = λ t image le left. since.earlier t image le left }

  safe_told : (told : Option (List ℕ)) (a b : M) → IfSome told (λ _. (b ≡ a) ⊎ LeavesSince (file_state g a) (file_state g b) (IsRefusedOr i)) →
      IfSome told (λ _. AddsOnly i (file_state g a) (file_state g b))
  safe_told None a b crash = tt
  safe_told (Some bytes) a b crash = safe a b crash

  -- what all turns leave of the file
  pub file_out : (x y : SlicedData) (a b : M) → x.saved ≡ None → WritesOn g i x y a b → LeavesFile i y.saved (file_state g a) (file_state g b)
  file_out x y a b none writes = record {
    whole = λ complete. writes.whole none complete;
    failed = λ failed. writes.failed none failed;
    never_falls = writes.never_falls;
    syncs = writes.syncs none;
    crash = safe_told (g.told a) a b writes.crash;
  }

-- ---- The start

-- a bus that has just started is one of a save at the instant
pub at_instant : (i : MachineData) (n : ℕ) (d : BusData) → d ≡ bus_from i n true → IsBus d → StandsFor d (pages_of i) → IsAtInstant i (plant_state d)
at_instant i n d same is stands = record {
  fits = is;
  total = ap (λ (b : BusData). total_pages_of b.machine.shape) same;
  protected = ap (λ (b : BusData). b.writable) same ∙ ap (λ (b : BusData). replicate (total_pages_of b.machine.shape) false) (sym same);
  stands = stands;
}

-- the sweep over all pages
full_sweep : (n : ℕ) → IsSweep (record { pages = n; list = range_with_len 0 n })
full_sweep n = record {
  ascending = λ k h.
      (let within : k + 1 < n = omega (arith, h, length-range_with_len 0 n) in
      let here : slice_index (range_with_len 0 n) k ≡ k = get_or-range_with_len 0 n k 0 (omega (arith, within)) ∙ zero-add k in
      let next : slice_index (range_with_len 0 n) (k + 1) ≡ k + 1 = get_or-range_with_len 0 n (k + 1) 0 within ∙ zero-add (k + 1) in
      omega (arith, here, next));
  below = λ k d h.
      (let within : k < n = omega (arith, h, length-range_with_len 0 n) in
      let here : get_or (range_with_len 0 n) k d ≡ k = get_or-range_with_len 0 n k d within ∙ zero-add k in
      omega (arith, here, within));
}

-- no page is queued, and the save goes on
pub begins : (i : MachineData) (n : ℕ) (d : BusData) (saver : SaverData) (file : FileState) → d ≡ bus_from i n true → IsBus d → IsOfSave saver (plant_state d) → HasJustBegun saver i file →
    IsSliced i n (record { bus = d; saver = saver; saved = None })
begins i n d saver file same is save begun =
    let before : saver ≡ saver_at i = begun.saver.saver in
    record {
      bus = is;
      instant = ap (λ (b : BusData). b.instant) same;
      run = ap (λ (b : BusData). b.run) same;
      limits = subst IsSaver (sym before) (first_limits i begun.saver.saves.machine (full_sweep (total_pages_of i.shape)));
      save = save;
      hand = ap (λ (s : SaverData). s.hand) before;
      saved = ap (λ (s : SaverData). s.end) before;
      queued = λ _. subst (All (λ p. is_protected d.writable p ≡ true)) (sym (ap (λ (b : BusData). b.queue) same)) (λ k e h. absurd (omega (arith, h)));
      writable = λ ended. absurd (ended refl);
      whole = λ complete. absurd (none-some Complete complete);
    }

-- and no turn was taken
pub come_none : (i : MachineData) (n : ℕ) (d : BusData) (saver : SaverData) (file : FileState) → d ≡ bus_from i n true → HasJustBegun saver i file →
    HasCome i n [] (record { bus = d; saver = saver; saved = None })
unfolding sliced_after
come_none i n d saver file same begun = λ fails_at fits.
    (let counts : record { faults = 0; sweep = 0 } ≡ saver.counts = sym (ap (λ (s : SaverData). s.counts) begun.saver.saver) in
    record {
      recorded = [];
      queue = [];
      core = ap (λ (b : BusData). with_queue (core_of b []) []) (sym same);
      queued = λ _. sym (ap (λ (b : BusData). b.queue) same);
      saved = refl;
      turns = λ _. ap (λ (c : Counts). c.faults + c.sweep) counts;
      counts = counts;
    })

-- a bus and a saver that begin, told of the bus
pub begins_here : (i : MachineData) (n : ℕ) (d : BusData) (saver : SaverData) (file : FileState) → d ≡ bus_from i n true → IsBus d → StandsFor d (pages_of i) → HasJustBegun saver i file →
    IsSliced d.instant d.run (record { bus = d; saver = saver; saved = None })
begins_here i n d saver file same is stands begun =
    let whole = begins i n d saver file same is (begun_of_save saver i (plant_state d) file begun (at_instant i n d same is stands)) begun in
    subst (λ r. IsSliced d.instant r (record { bus = d; saver = saver; saved = None })) (sym whole.run)
    (subst (λ (m : MachineData). IsSliced m n (record { bus = d; saver = saver; saved = None })) (sym whole.instant) whole)

pub under_way_here : (i : MachineData) (n : ℕ) (d : BusData) (saver : SaverData) (file : FileState) → d ≡ bus_from i n true → IsBus d → StandsFor d (pages_of i) → HasJustBegun saver i file →
    IsUnderWay saver d.instant (plant_state d) file
under_way_here i n d saver file same is stands begun =
    subst (λ (m : MachineData). IsUnderWay saver m (plant_state d) file) (sym (ap (λ (b : BusData). b.instant) same))
    (begun_under_way saver i (plant_state d) file begun (at_instant i n d same is stands))

-- the whole phase, told call by call
pub record Whole {M : Type 0} (g : readable.Ghosts M) (i : MachineData) (n : ℕ) (turns : List TurnOf) (x y : SlicedData) (a b : M) : Type 0 where
  pub taken : TurnsTaken g i n ((turns ++ saver_turns i) ++ rounds_of i (2 * n)) x y a b
  pub ended : HasEnded y
  pub run : HasRun i n y

pub whole_phase : {M : Type 0} (g : readable.Ghosts M) (i : MachineData) (n : ℕ) (turns : List TurnOf) (x y z w : SlicedData) (a b c : M) → x.bus.instant ≡ i → x.bus.run ≡ n →
    TurnsTaken g x.bus.instant x.bus.run turns x y a b → TurnsTaken g y.bus.instant y.bus.run (saver_turns y.bus.instant) y z b c → HasEnded z →
    VcpuTurnsTaken z.bus.instant n (rounds_of z.bus.instant (2 * n)) z w → HasRun z.bus.instant n w → Whole g i n turns x w a c
whole_phase g i n turns x y z w a b c instant run first second ended third over =
    let one : TurnsTaken g i n turns x y a b = subst (λ r. TurnsTaken g i r turns x y a b) run (subst (λ (m : MachineData). TurnsTaken g m x.bus.run turns x y a b) instant first) in
    let two : TurnsTaken g i n (turns ++ saver_turns i) x z a c =
    subst (λ (m : MachineData). TurnsTaken g i n (turns ++ saver_turns m) x z a c) one.keeps.instant (taken_next g turns (saver_turns y.bus.instant) i n x y z a b c one second) in
    let is = two.keeps in
    let rounds : VcpuTurnsTaken i n (rounds_of i (2 * n)) z w = subst (λ (m : MachineData). VcpuTurnsTaken m n (rounds_of m (2 * n)) z w) is.instant third in
    let last : TurnsTaken g i n (rounds_of i (2 * n)) z w c c = vcpus_taken g i n (rounds_of i (2 * n)) z w c ended rounds in
    record {
      taken = taken_then g i n (turns ++ saver_turns i) (rounds_of i (2 * n)) x z w a c c two last;
      ended = λ none. ended (sym rounds.stays.saved ∙ none);
      run = subst (λ (m : MachineData). HasRun m n w) is.instant over;
    }

-- what comes of it
pub whole_out : {M : Type 0} (g : readable.Ghosts M) (i : MachineData) (n : ℕ) (turns : List TurnOf) (x y : SlicedData) (a b : M) (file : FileState) (out : PhaseOut) →
    x ≡ record { bus = x.bus; saver = x.saver; saved = None } → x.bus ≡ bus_from i n true → HasJustBegun x.saver i file → Whole g i n turns x y a b →
    (((k : ℕ) → k < y.bus.instant.shape.vcpus → has_ended y.bus.instant y.bus.run y.bus.machine k ≡ true) → Phase y.bus.instant y.bus.run out.order.members) → IsMachine out.machine → IsOutOf y out →
    IsPhaseOf i n turns out
whole_out g i n turns x y a b file out none same begun whole phase limits of =
    let is = whole.taken.keeps in
    let come : HasCome i n [] x = subst (HasCome i n []) (sym none) (come_none i n x.bus x.saver file same begun) in
    let over : (k : ℕ) → k < y.bus.instant.shape.vcpus → has_ended y.bus.instant y.bus.run y.bus.machine k ≡ true =
    λ k h.
    (let here : has_ended i n y.bus.machine k ≡ true = whole.run k (omega (arith, h, is.bus.instant.vcpus, ap (λ (m : MachineData). length m.vcpus) is.instant)) in
    subst (λ r. has_ended y.bus.instant r y.bus.machine k ≡ true) (sym is.run) (subst (λ (m : MachineData). has_ended m n y.bus.machine k ≡ true) (sym is.instant) here)) in
    phase_out i n turns y out is (whole.taken.comes [] come) whole.ended
    (subst (λ r. Phase i r out.order.members) is.run (subst (λ (m : MachineData). Phase m y.bus.run out.order.members) is.instant (phase over))) limits of
