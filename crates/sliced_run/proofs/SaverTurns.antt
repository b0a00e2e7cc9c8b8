-- The turn of the saver over the bus is its turn in the run of the core.
use Rattle.std.proofs.Common.{◌≡◌, ℕ, suc, ◌+◌, ◌<◌, not, Bool, true, false, List, [], ◌∷◌, ◌++◌, All, length, map, drop, Option, Some, None, refl, sym, ◌∙◌, ap, subst, arith}
use Rattle.std.specs.Prelude.{if◌then◌else◌, cond, slice_set, IfSome}
use Rattle.std.specs.List.{slice_get, position_or_len}
use Rattle.std.proofs.Math.Dec.{ltb}
use Rattle.std.proofs.lemmas.Bool.{eq-eqb, le-ltb, lt-ltb, ne_eqb}
use Rattle.std.proofs.lemmas.List.Sums.{position_or_len_is}
use Rattle.std.proofs.lemmas.Option.{get_or_from_slice_get, none-some, slice_get_within}
use Rattle.flat_machine.specs.Machine.{MachineData, page_of}
use Rattle.page_cell.specs.Core.{CoreState, PickTurn, PageTurn, core_after, core_recorded, core_turn, is_protected}
use Rattle.plain_bus.specs.Bus.{BusData, core_of}
use Rattle.plain_bus.specs.Plant.{RestData, rest_of}
use Rattle.bg_saver.specs.Saver.{SaverData}
use Rattle.bg_saver.specs.Turn.{counts_with}
use Rattle.bg_saver.specs.declared.counts.Counts.{Counts}
use Rattle.bg_saver.specs.declared.save_end.SaveEnd.{SaveEnd}
use Rattle.bg_saver.specs.declared.save_end.SaveEnd.TheVariants.{Complete, Failed}
use Rattle.sliced_run.specs.CoreRun.{SlicedState, saver_turn, saver_takes, is_turn, least_protected, saver_fails, takes_fault, takes_page}
use Rattle.sliced_run.specs.Sliced.{SlicedData, IsAt, taken_by, with_queue}

-- ---- Pages

-- the first page that isn't writable is the least that is protected
pub least_is : (writable : List Bool) (p : ℕ) → slice_get writable p ≡ Some false → ((k : ℕ) → k < p → slice_get writable k ≡ Some true) →
    least_protected writable ≡ Some p
least_is writable p here before =
    let within : p < length writable = slice_get_within writable p false here in
    let at : position_or_len not writable ≡ p =
    position_or_len_is not writable p true (omega (arith, within))
    (λ k h. ap not (get_or_from_slice_get writable k true true (before k h)))
    (λ _. ap not (get_or_from_slice_get writable p false true here)) in
    ap (λ n. cond (ltb n (length writable)) (Some n) None) at ∙ ap (λ b. cond b (Some p) None) (lt-ltb p (length writable) within)

-- where each is writable, none is protected
none_least : (writable : List Bool) → All (λ w. w ≡ true) writable → least_protected writable ≡ None
none_least writable all =
    let at : position_or_len not writable ≡ length writable =
    position_or_len_is not writable (length writable) true (omega arith) (λ k h. ap not (all k true h)) (λ h. absurd (omega (arith, h))) in
    ap (λ n. cond (ltb n (length writable)) (Some n) None) at ∙ ap (λ b. cond b (Some (length writable)) None) (le-ltb (length writable) (length writable) (omega arith))

-- every page is writable
pub all_writable : (writable : List Bool) (n : ℕ) → length writable ≡ n → ((p : ℕ) → p < n → slice_get writable p ≡ Some true) → All (λ w. w ≡ true) writable
all_writable writable n count each = λ k d h. get_or_from_slice_get writable k true d (each k (omega (arith, h, count)))

-- flags that are all set
set_flags : (writable other : List Bool) → length other ≡ length writable → All (λ w. w ≡ true) other → map (λ _. true) writable ≡ other
set_flags [] [] count all = refl
set_flags [] (w ∷ other) count all = absurd (omega (arith, count))
set_flags (w ∷ writable) [] count all = absurd (omega (arith, count))
set_flags (w ∷ writable) (v ∷ other) count all =
    ap (λ f. true ∷ f) (set_flags writable other (omega (arith, count)) (λ k d h. all (suc k) d (omega (arith, h))))
    ∙ ap (λ f. f ∷ other) (sym (all 0 v (omega arith)))

-- ---- The state

-- the state of a save that goes on, with what was recorded
abbrev pub state_of : SlicedData → List (ℕ × List ℕ) → SlicedState
state_of x recorded = record { core = core_of x.bus recorded; saved = None; turns = taken_by x; counts = x.saver.counts }

pub state_is : (s : SlicedState) (x : SlicedData) (at : IsAt s x) → x.saved ≡ None → s ≡ state_of x at.recorded
state_is s x at runs =
    ap (λ c. record { core = c; saved = s.saved; turns = s.turns; counts = s.counts }) (at.core ∙ ap (with_queue (core_of x.bus at.recorded)) (at.queued runs))
    ∙ ap (λ o. record { core = core_of x.bus at.recorded; saved = o; turns = s.turns; counts = s.counts }) (at.saved ∙ runs)
    ∙ ap (λ t. record { core = core_of x.bus at.recorded; saved = None; turns = t; counts = s.counts }) (at.turns runs)
    ∙ ap (λ c. record { core = core_of x.bus at.recorded; saved = None; turns = taken_by x; counts = c }) at.counts

-- the same, with this turn counted
abbrev pub counted_state : SlicedData → List (ℕ × List ℕ) → SlicedState
counted_state x recorded = record (state_of x recorded) { turns = taken_by x + 1 }

-- the turn of a save that goes on
goes_by : (x : SlicedData) (recorded : List (ℕ × List ℕ)) (fails_at : Option ℕ) (b : Bool) → is_turn fails_at (taken_by x + 1) ≡ b →
    saver_turn fails_at (state_of x recorded)
    ≡ (if b then saver_fails (counted_state x recorded) else saver_takes (counted_state x recorded) (least_protected x.bus.writable) x.bus.queue)
unfolding saver_turn
goes_by x recorded fails_at b is =
    ap (λ c. if c then saver_fails (counted_state x recorded) else saver_takes (counted_state x recorded) (least_protected x.bus.writable) x.bus.queue) is

-- it isn't the one at which the save fails
pub not_now : (fails_at : Option ℕ) (turn : ℕ) → IfSome fails_at (λ at. turn < at) → is_turn fails_at turn ≡ false
not_now None turn fits = refl
not_now (Some at) turn fits = ne_eqb at turn (λ same. absurd (omega (arith, fits, same)))

pub earlier : (fails_at : Option ℕ) (taken : ℕ) → IfSome fails_at (λ at. taken + 1 < at) → IfSome fails_at (λ at. taken < at)
earlier None taken fits = tt
earlier (Some at) taken fits = omega (arith, fits)

-- a core is that of the bus where each part is
core_is : (b : BusData) (m : MachineData) (w : List Bool) (q : List ℕ) (r : List (ℕ × List ℕ)) (blocked : ℕ) (o : List ℕ) → b.machine ≡ m → b.writable ≡ w →
    b.queue ≡ q → b.blocked ≡ blocked → b.order.members ≡ o →
    ◌≡◌ {A = CoreState} (record { machine = m; writable = w; queue = q; recorded = r; blocked = blocked; order = o }) (with_queue (core_of b r) b.queue)
core_is b m w q r blocked o machine writable queue stops order =
    sym (ap (λ x. record { machine = x; writable = b.writable; queue = b.queue; recorded = r; blocked = b.blocked; order = b.order.members }) machine
    ∙ ap (λ x. record { machine = m; writable = x; queue = b.queue; recorded = r; blocked = b.blocked; order = b.order.members }) writable
    ∙ ap (λ x. record { machine = m; writable = w; queue = x; recorded = r; blocked = b.blocked; order = b.order.members }) queue
    ∙ ap (λ x. record { machine = m; writable = w; queue = q; recorded = r; blocked = x; order = b.order.members }) stops
    ∙ ap (λ x. record { machine = m; writable = w; queue = q; recorded = r; blocked = blocked; order = x }) order)

-- what neither a pick nor a take changes
pub record SameRest (d b : BusData) : Type 0 where
  pub machine : b.machine ≡ d.machine
  pub order : b.order.members ≡ d.order.members
  pub blocked : b.blocked ≡ d.blocked
  pub instant : b.instant ≡ d.instant
  pub run : b.run ≡ d.run

pub same_rest : (d b : BusData) → rest_of b ≡ rest_of d → SameRest d b
same_rest d b same = record {
  machine = ap (λ (r : RestData). r.machine) same;
  order = ap (λ (r : RestData). r.order.members) same;
  blocked = ap (λ (r : RestData). r.blocked) same;
  instant = ap (λ (r : RestData). r.instant) same;
  run = ap (λ (r : RestData). r.run) same;
}

-- ---- A turn that takes a page

-- the bus after a page was copied out, and after the queue was left so
pub record Copied (x : SlicedData) (b : BusData) (p : ℕ) (queue : List ℕ) : Type 0 where
  pub rest : SameRest x.bus b
  pub writable : b.writable ≡ slice_set x.bus.writable p true
  pub queued : b.queue ≡ queue
  pub was : is_protected x.bus.writable p ≡ true

-- the state of the core once the page is recorded
abbrev pub record_page : SlicedData → List (ℕ × List ℕ) → ℕ → List (ℕ × List ℕ)
record_page x recorded p = recorded ++ (p, page_of x.bus.machine p) ∷ []

taken_core : (x : SlicedData) (b : BusData) (p : ℕ) (recorded : List (ℕ × List ℕ)) (queue : List ℕ) → Copied x b p queue →
    core_turn (with_queue (core_of x.bus recorded) queue) (PageTurn p) ≡ with_queue (core_of b (record_page x recorded p)) b.queue
unfolding core_turn
taken_core x b p recorded queue copied =
    ap (λ c. if c then core_recorded (with_queue (core_of x.bus recorded) queue) p else with_queue (core_of x.bus recorded) queue) copied.was
    ∙ core_is b x.bus.machine (slice_set x.bus.writable p true) queue (record_page x recorded p) x.bus.blocked x.bus.order.members
    copied.rest.machine copied.writable copied.queued copied.rest.blocked copied.rest.order

abbrev pub went_on : BusData → SaverData → SlicedData
went_on b v = record { bus = b; saver = v; saved = None }

-- two turns of the core
after_two : (c : CoreState) (p : ℕ) → core_after c (PickTurn ∷ PageTurn p ∷ []) ≡ core_turn (core_turn c PickTurn) (PageTurn p)
unfolding core_after
after_two c p = refl

more_faults : (c : Counts) → (counts_with c true).faults + (counts_with c true).sweep ≡ c.faults + c.sweep + 1
more_faults c = omega arith

more_sweep : (c : Counts) → (counts_with c false).faults + (counts_with c false).sweep ≡ c.faults + c.sweep + 1
more_sweep c = omega arith

-- of a page that was picked
pub fault_at : (x : SlicedData) (b : BusData) (v : SaverData) (p least : ℕ) (queue : List ℕ) (recorded : List (ℕ × List ℕ)) (fails_at : Option ℕ) →
    Copied x b p queue → v.counts ≡ counts_with x.saver.counts true → x.bus.queue ≡ p ∷ queue → least_protected x.bus.writable ≡ Some least →
    is_turn fails_at (taken_by x + 1) ≡ false → IsAt (saver_turn fails_at (state_of x recorded)) (went_on b v)
unfolding core_turn
fault_at x b v p least queue recorded fails_at copied counts queued some later =
    let step : saver_turn fails_at (state_of x recorded) ≡ takes_fault (counted_state x recorded) p =
    goes_by x recorded fails_at false later
    ∙ ap (λ l. saver_takes (counted_state x recorded) l x.bus.queue) some
    ∙ ap (saver_takes (counted_state x recorded) (Some least)) queued in
    let picked : core_turn (core_of x.bus recorded) PickTurn ≡ with_queue (core_of x.bus recorded) queue =
    ap (λ q. with_queue (core_of x.bus recorded) (drop 1 q)) queued in
    subst (λ s. IsAt s (went_on b v)) (sym step) (record {
      recorded = record_page x recorded p;
      queue = b.queue;
      core = after_two (core_of x.bus recorded) p ∙ ap (λ c. core_turn c (PageTurn p)) picked ∙ taken_core x b p recorded queue copied;
      queued = λ none. refl;
      saved = refl;
      turns = λ none. sym (ap (λ (c : Counts). c.faults + c.sweep) counts ∙ more_faults x.saver.counts);
      counts = sym counts;
    })

-- of the least page that is protected, where none is queued
pub sweep_at : (x : SlicedData) (b : BusData) (v : SaverData) (p : ℕ) (recorded : List (ℕ × List ℕ)) (fails_at : Option ℕ) →
    Copied x b p [] → v.counts ≡ counts_with x.saver.counts false → x.bus.queue ≡ [] → least_protected x.bus.writable ≡ Some p →
    is_turn fails_at (taken_by x + 1) ≡ false → IsAt (saver_turn fails_at (state_of x recorded)) (went_on b v)
sweep_at x b v p recorded fails_at copied counts queued least later =
    let step : saver_turn fails_at (state_of x recorded) ≡ takes_page (counted_state x recorded) p =
    goes_by x recorded fails_at false later
    ∙ ap (λ l. saver_takes (counted_state x recorded) l x.bus.queue) least
    ∙ ap (saver_takes (counted_state x recorded) (Some p)) queued in
    subst (λ s. IsAt s (went_on b v)) (sym step) (record {
      recorded = record_page x recorded p;
      queue = b.queue;
      core = ap (λ q. core_turn (with_queue (core_of x.bus recorded) q) (PageTurn p)) queued ∙ taken_core x b p recorded [] copied;
      queued = λ none. refl;
      saved = refl;
      turns = λ none. sym (ap (λ (c : Counts). c.faults + c.sweep) counts ∙ more_sweep x.saver.counts);
      counts = sym counts;
    })

-- ---- A turn that ends the save

abbrev pub ended_so : BusData → SaverData → SaveEnd → SlicedData
ended_so b v end = record { bus = b; saver = v; saved = Some end }

-- no page is protected: the save is complete
pub complete_at : (x : SlicedData) (b : BusData) (v : SaverData) (recorded : List (ℕ × List ℕ)) → b ≡ x.bus → v.counts ≡ x.saver.counts →
    All (λ w. w ≡ true) x.bus.writable → IsAt (saver_turn None (state_of x recorded)) (ended_so b v Complete)
complete_at x b v recorded same counts free =
    let step : saver_turn None (state_of x recorded) ≡ record (counted_state x recorded) { saved = Some Complete } =
    goes_by x recorded None false refl ∙ ap (λ l. saver_takes (counted_state x recorded) l x.bus.queue) (none_least x.bus.writable free) in
    subst (λ s. IsAt s (ended_so b v Complete)) (sym step) (record {
      recorded = recorded;
      queue = x.bus.queue;
      core = ap (λ (d : BusData). with_queue (core_of d recorded) x.bus.queue) (sym same);
      queued = λ none. absurd (none-some Complete (sym none));
      saved = refl;
      turns = λ none. absurd (none-some Complete (sym none));
      counts = sym counts;
    })

-- the save failed, and then each page was made writable
pub failed_at : (x : SlicedData) (b : BusData) (v : SaverData) (recorded : List (ℕ × List ℕ)) → SameRest x.bus b → length b.writable ≡ length x.bus.writable →
    v.counts ≡ x.saver.counts → All (λ w. w ≡ true) b.writable → IsAt (saver_turn (Some (taken_by x + 1)) (state_of x recorded)) (ended_so b v Failed)
failed_at x b v recorded rest count counts free =
    let step = goes_by x recorded (Some (taken_by x + 1)) true (eq-eqb (taken_by x + 1) (taken_by x + 1) refl) in
    subst (λ s. IsAt s (ended_so b v Failed)) (sym step) (record {
      recorded = recorded;
      queue = x.bus.queue;
      core = ap (λ w. record { machine = x.bus.machine; writable = w; queue = x.bus.queue; recorded = recorded; blocked = x.bus.blocked; order = x.bus.order.members }) (set_flags x.bus.writable b.writable count free)
          ∙ ap (λ m. record { machine = m; writable = b.writable; queue = x.bus.queue; recorded = recorded; blocked = x.bus.blocked; order = x.bus.order.members }) (sym rest.machine)
          ∙ ap (λ n. record { machine = b.machine; writable = b.writable; queue = x.bus.queue; recorded = recorded; blocked = n; order = x.bus.order.members }) (sym rest.blocked)
          ∙ ap (λ o. record { machine = b.machine; writable = b.writable; queue = x.bus.queue; recorded = recorded; blocked = b.blocked; order = o }) (sym rest.order);
      queued = λ none. absurd (none-some Failed (sym none));
      saved = refl;
      turns = λ none. absurd (none-some Failed (sym none));
      counts = sym counts;
    })
