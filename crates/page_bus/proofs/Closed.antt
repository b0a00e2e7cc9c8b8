-- What is known of a bus when all passes are back.
use Rattle.std.proofs.Common.{◌≡◌, inl, inr, ⊎_elim, ℕ, zero, suc, ◌+◌, ◌*◌, ◌^◌, ◌<◌, ◌≤◌, true, false, eqb, List, [], ◌∷◌, ◌++◌, All, get_or, length, map, Some, None, Result, Ok, Err, refl, sym, ◌∙◌, ap, subst, arith}
use Rattle.std.specs.List.{slice_get}
use Rattle.std.specs.Option.{option_map}
use mathlib.Core.Option as table
use lib.ListN.{get_elem?}
use Rattle.std.proofs.lemmas.Bool.{cases_Bool, eq-eqb, or_left}
use Rattle.std.proofs.lemmas.List.FromFn.{length-map-range_with_len}
use Rattle.std.proofs.lemmas.Option.{none-some, same_Some, slice_get-get_or, slice_get-map}
use Rattle.ram_block.specs.PageLinks.{is_listed}
use Rattle.ram_block.specs.Shape.{ShapeData, total_pages_of}
use Rattle.ram_block.specs.declared.cause.Cause.{Cause}
use Rattle.ram_block.specs.declared.place.Place.{Place}
use Rattle.ram_block.specs.declared.place.Place.TheVariants as places
use Rattle.rv64i_step.specs.Event as event
use Rattle.rv64i_step.specs.Event.{fetch_at, request_of, running_request}
use Rattle.rv64i_step.specs.Request.{written_page}
use Rattle.rv64i_step.specs.Vcpu.{VcpuData}
use Rattle.rv64i_step.specs.declared.state.State.{State}
use Rattle.rv64i_step.specs.declared.state.State.TheVariants.{Running, Halted}
use Rattle.flat_machine.specs.Laws.{ServesAll}
use Rattle.flat_machine.specs.Machine.{MachineData}
use Rattle.flat_machine.proofs.Outcomes.{All-slice_get}
use Rattle.flat_machine.proofs.Rests.{run_members}
use Rattle.flat_machine.proofs.Servable.{machine_serves, run_keeps, run_serves}
use Rattle.flat_machine.proofs.UnderWay.{way_clock, way_length}
use Rattle.page_cell.specs.declared.cell.Cell.{Cell}
use Rattle.bus_rule.specs.Ended.{Ended, HasJoined, IsWantedIn}
use Rattle.bus_rule.specs.Faults.{IsSought, IsWritten, NoneSought}
use Rattle.bus_rule.specs.Kept.{cells_of}
use Rattle.bus_rule.specs.Order.{order_of, places, traces_of}
use Rattle.bus_rule.specs.Story.{IsTold}
use Rattle.bus_rule.specs.Tells.{PassMe}
use Rattle.bus_rule.specs.Views.{Book}
use Rattle.bus_rule.proofs.Ends.{get_there}
use Rattle.bus_rule.proofs.Placed.{AreBelow, is_trace, order-places}
use Rattle.page_bus.specs.Closing.{AreAllOf, AreTracesOf, Closes, NonePending, NoneWritten}
use Rattle.page_bus.specs.Joining.{joined_with, task_of_pass, traced_of_pass}
use Rattle.page_bus.specs.Merge.{FitsOrder, FitsVcpus, IsAmong}
use Rattle.page_bus.specs.Moves.{IsBareOf, IsWhole}
use Rattle.page_bus.specs.Passes.{BusData, IsBus, IsSaverPass, SaverPassData, VcpuPassData, book_of}
use Rattle.page_bus.specs.PlantLaws.{same_lists}
use Rattle.page_bus.specs.Traced.{TracedData}
use Rattle.page_bus.specs.declared.bare_machine.BareMachine.{BareMachine}

-- ---- A vCPU with no pending access writes nothing next

fetch_writes_none : (r : Result Place Cause) → written_page (fetch_at r) ≡ None
fetch_writes_none (Ok (places.Ram page off)) = refl
fetch_writes_none (Ok (places.Serial reg)) = refl
fetch_writes_none (Ok (places.Timer reg)) = refl
fetch_writes_none (Err cause) = refl

rested_writes_none : (shape : ShapeData) (v : VcpuData) → v.pending ≡ None → written_page (request_of shape v) ≡ None
unfolding request_of
rested_writes_none shape v none = by_state v.state
  where
    by_state : (s : State) → written_page (event.request_in s (running_request shape v v.pending)) ≡ None
    by_state Running = ap (λ a. written_page (running_request shape v a)) none ∙ fetch_writes_none _
    by_state (Halted cause) = refl

-- what is so of the member at each place is so of all
all_of : {A : Type 0} (P : A → Type 0) (xs : List A) → ((k : ℕ) (a : A) → slice_get xs k ≡ Some a → P a) → All P xs
all_of P xs each k d below = each k (get_or xs k d) (slice_get-get_or xs k d below)

map_get : {A B : Type 0} (f : A → B) (xs : List A) (k : ℕ) (b : B) → slice_get (map f xs) k ≡ Some b → (a : A) × (slice_get xs k ≡ Some a) × (f a ≡ b)
map_get f [] k b is = absurd (none-some b is)
map_get f (x ∷ xs) zero b is = (x, refl, same_Some (f x) b is)
map_get f (x ∷ xs) (suc k) b is = map_get f xs k b is

get_map : {A B : Type 0} (f : A → B) (xs : List A) (k : ℕ) (a : A) → slice_get xs k ≡ Some a → slice_get (map f xs) k ≡ Some (f a)
get_map f xs k a is = slice_get-map f xs k ∙ ap (option_map f) is

module _ (bus : BusData) (passes : List VcpuPassData) (saver : SaverPassData) (is : IsBus bus) (all : AreAllOf bus passes saver) (saving : IsSaverPass saver) where
  abbrev pub book : Book
  book = record (book_of saver.view) { joined = (book_of saver.view).joined ++ map task_of_pass passes }

  joined_are : book.joined ≡ map task_of_pass passes
  joined_are = ap (λ ts. ts ++ map task_of_pass passes) saving.joined

  known : (j : ℕ) (p : VcpuPassData) → slice_get passes j ≡ Some p → get_elem? book.joined j ≡ table.some (task_of_pass p)
  known j p at = ap (λ ts. get_elem? ts j) joined_are ∙ get_there (map task_of_pass passes) j (task_of_pass p) (get_map task_of_pass passes j p at)

  among : (k : ℕ) → k < length bus.instant.vcpus → IsAmong (map traced_of_pass passes) k
  among k below =
      let a = all.each k below in
      record { place = a.0; one = traced_of_pass a.1; stands = get_map traced_of_pass passes a.0 a.1 a.2; who = a.3 }

  pub has_joined : (me : PassMe) (out : List _) → me ≡ (joined_with saver.view (map task_of_pass passes), out) → HasJoined me.0 book
  has_joined me out joined = record {
    role = ap (λ (m : PassMe). m.0.role) joined;
    none_held = ap (λ (m : PassMe). m.0.held) joined ∙ saving.none_held;
    each = λ k below.
        (let a = all.each k (subst (λ (m : MachineData). k < length m.vcpus) all.instant below) in
        (a.0, task_of_pass a.1, known a.0 a.1 a.2, a.3));
  }

  module _ (cells : List Cell) (end : Ended bus.instant bus.run bus.protect book cells) where
    its : (j : ℕ) (p : VcpuPassData) → slice_get passes j ≡ Some p → IsTold bus.instant bus.run end.order end.now (task_of_pass p)
    its j p at = end.told j (task_of_pass p) (known j p at)

    below : AreBelow (length bus.instant.vcpus) end.order
    below t k at = All-slice_get (λ j. j < length bus.instant.vcpus) end.order t k (run_members bus.instant end.order end.now end.way.ran) at

    pub fits_order : FitsOrder end.order (map traced_of_pass passes)
    fits_order = record {
      numbers = all_of (λ d. d.numbers ≡ places d.who end.order) (map traced_of_pass passes)
          (λ j d at.
          (let from = map_get traced_of_pass passes j d at in
          subst (λ (e : TracedData). e.numbers ≡ places e.who end.order) from.2 (its j from.0 from.1).numbers));
      each = all_of (IsAmong (map traced_of_pass passes)) end.order (λ t k at. among k (below t k at));
    }

    pub order_short : length end.order ≤ 2 * bus.run * length bus.instant.vcpus
    order_short = way_length bus.instant bus.run (record { machine = end.now; order = end.order }) is.rest end.way

    pub order_few : length end.order ≤ 16000000
    order_few = let short = order_short in let n = is.run in let count = is.machine.vcpus in let v = is.machine.shape.vcpus.1 in grind (arith, short, n, count, v)

    pub vcpu_count : length end.now.vcpus ≡ length bus.instant.vcpus
    vcpu_count = end.way.count

    pub fits_vcpus : FitsVcpus end.now.vcpus (map traced_of_pass passes)
    fits_vcpus = record {
      vcpu = all_of (λ d. slice_get end.now.vcpus d.who ≡ Some d.vcpu) (map traced_of_pass passes)
          (λ j d at.
          (let from = map_get traced_of_pass passes j d at in
          subst (λ (e : TracedData). slice_get end.now.vcpus e.who ≡ Some e.vcpu) from.2 (its j from.0 from.1).vcpu));
      each = λ k inside. among k (let e = vcpu_count in omega (arith, inside, e));
    }

    pub serves : ServesAll bus.instant
    serves = machine_serves bus.instant is.machine

    pub same_shape : end.now.shape ≡ bus.instant.shape
    same_shape = (run_keeps bus.instant end.order end.now serves end.way.ran).shape

    pub clock_is : end.now.clock ≡ bus.instant.clock + length end.order
    clock_is = way_clock bus.instant bus.run (record { machine = end.now; order = end.order }) serves end.way

    abbrev pub whole_now : (bare : BareMachine) → end.now.clock ≤ 2 ^ 63 → IsBareOf end.now bare → IsWhole bare cells
    whole_now bare clock bare_of = record {
      machine = end.now;
      writable = book.writable;
      queue = end.queue;
      serves = run_serves bus.instant end.order end.now serves end.way.ran;
      vcpus = vcpu_count ∙ is.machine.vcpus ∙ ap (λ (s : ShapeData). s.vcpus) (sym same_shape);
      clock = clock;
      bare_of = bare_of;
      cells = record {
        flags = end.flagged.writable ∙ ap total_pages_of (sym same_shape);
        count = end.count ∙ ap cells_of (sym same_shape);
        each = λ c inside. end.each c (subst (λ (s : ShapeData). c < cells_of s) same_shape inside);
      };
    }

    -- ---- What is answered

    traces_are : (traces : List (List ℕ)) → AreTracesOf bus passes traces → traces ≡ traces_of (length bus.instant.vcpus) end.order
    traces_are traces of =
        same_lists traces (traces_of (length bus.instant.vcpus) end.order) (of.count ∙ sym (length-map-range_with_len (λ k. places k end.order) 0 (length bus.instant.vcpus)))
        (λ k inside.
        (let within : k < length bus.instant.vcpus = (let e = of.count in omega (arith, inside, e)) in
        let a = all.each k within in
        ap (slice_get traces) (sym a.3) ∙ of.each a.0 a.1 a.2 ∙ ap Some ((its a.0 a.1 a.2).numbers ∙ ap (λ j. places j end.order) a.3)
        ∙ sym (is_trace (length bus.instant.vcpus) end.order k within)))

    -- where no access is pending, no page is wanted
    none_wanted : NonePending end.now → (p : ℕ) → IsWantedIn book p → ⊥
    none_wanted none p wanted =
        let told = end.told wanted.place wanted.task wanted.known in
        let waiting = end.waiting wanted.place wanted.task wanted.known in
        let rested = All-slice_get (λ v. v.pending ≡ None) end.now.vcpus wanted.task.who wanted.task.vcpu none told.vcpu in
        none-some p (sym (rested_writes_none wanted.task.shape wanted.task.vcpu rested) ∙ waiting.aims p wanted.wants)

    sought_written : NonePending end.now → (p : ℕ) → IsSought end.queue book.picked p → IsWritten bus.instant end.order p
    sought_written none p sought = ⊎_elim (λ wanted. absurd (none_wanted none p wanted)) (λ written. written) (end.because p sought)

    none_sought : NonePending end.now → NoneWritten bus.instant end.order → NoneSought end.queue book.picked
    none_sought none unwritten = (
      no_queue end.queue (λ p listed. unwritten p (sought_written none p (inl listed))),
      all_of (λ w. w ≡ false) book.picked
          (λ p w at.
          elim (cases_Bool w) as (λ _. w ≡ false) [
            | inl is_true ↦ absurd (unwritten p (sought_written none p (inr (at ∙ ap Some is_true))))
            | inr is_false ↦ is_false
          ]),
    )
      where
        no_queue : (queue : List ℕ) → ((p : ℕ) → is_listed queue p ≡ true → ⊥) → queue ≡ []
        no_queue [] never = refl
        no_queue (p ∷ queue) never = absurd (never p (or_left (eqb p p) (is_listed queue p) (eq-eqb p p refl)))

    pub it_closes : (machine : MachineData) (order : List ℕ) → machine ≡ end.now → order ≡ end.order → Closes bus passes saver machine order
    it_closes machine order machine_is order_is =
        subst (λ (o : List ℕ). Closes bus passes saver machine o) (sym order_is)
        (subst (λ (m : MachineData). Closes bus passes saver m end.order) (sym machine_is)
        (record {
          order_is = λ traces of. sym (order-places (length bus.instant.vcpus) end.order below) ∙ ap order_of (sym (traces_are traces of));
          ran = end.way.ran;
          told = its;
          picked = λ none p at. sought_written none p (inr at);
          calm = λ none unwritten j p at. (end.waiting j (task_of_pass p) (known j p at)).calm (none_sought none unwritten);
          phase = λ over. record { last = end.now; ran = end.way.ran; ended = over; each = end.way.each };
        }))
