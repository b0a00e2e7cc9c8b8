-- The step of an event.
use Rattle.std.proofs.Common.{◌≡◌, ◌≢◌, inl, ℕ, ◌+◌, ◌%◌, ◌^◌, ◌<◌, Bool, true, false, eqb, List, [], ◌∷◌, ◌++◌, length, map, set, slice_index, Some, None, refl, sym, ◌∙◌, ap, subst, arith, mod-eq_of_lt}
use Rattle.std.specs.List.{slice_get, list_any}
use mathlib.Core.Option.{some}
use lib.ListN.{get_elem?}
use Rattle.std.proofs.lemmas.Bool.{true≢false}
use Rattle.std.proofs.lemmas.List.{length-set, get_or-set_same, get_or-set_other, length-map}
use Rattle.std.proofs.lemmas.Option.{none-some, same_Some, slice_get_within}
use Rattle.atomic_table.specs.Table.{State}
use Rattle.ram_block.specs.Shape.{total_pages_of}
use Rattle.ram_block.specs.declared.cause.Cause.{Cause}
use Rattle.ram_block.specs.declared.place.Place.{Place}
use Rattle.ram_block.specs.declared.place.Place.TheVariants as places
use Rattle.rv64i_step.specs.Event.{request_of, fetched_vcpu}
use Rattle.rv64i_step.specs.Request.{ram_page, written_page}
use Rattle.rv64i_step.specs.Vcpu.{VcpuData}
use Rattle.rv64i_step.specs.declared.request.Request.{Request}
use Rattle.rv64i_step.specs.declared.request.Request.TheVariants as requests
use Rattle.flat_machine.specs.Cell.{CellName, PageCell, SerialCell, TimerCell, cell_at, content, content_after, gives}
use Rattle.flat_machine.specs.Laws.{IsCellOf, KeepsRest}
use Rattle.flat_machine.specs.Machine.{MachineData, page_of}
use Rattle.flat_machine.specs.Next as flat
use Rattle.flat_machine.specs.Next.{cell_of, next, vcpu_after}
use Rattle.flat_machine.specs.Run.{vcpu_ended, has_ended}
use Rattle.flat_machine.proofs.Events.{next_touches, next_no_fetch, slice_get-set_same}
use Rattle.flat_machine.proofs.Frames.{event_cell-is, next_keeps, request_content, cell_event_vcpu, cell_event_content}
use Rattle.flat_machine.proofs.Inside.{asked_served}
use Rattle.flat_machine.proofs.Phases.{has_ended-is}
use Rattle.flat_machine.proofs.Served.{cell_there}
use Rattle.flat_machine.proofs.UnderWay.{way_own}
use Rattle.flat_machine.proofs.Written.{event_written_page-is, other_pages_stay}
use Rattle.page_cell.specs.Cell.{cell_after, cell_gives, content_of, phase_in}
use Rattle.page_cell.specs.Core.{is_protected}
use Rattle.page_cell.specs.declared.cell.Cell.{Cell}
use Rattle.page_cell.specs.declared.cell.Cell.TheVariants as cells
use Rattle.page_cell.specs.declared.phase.Phase.TheVariants.{Protected}
use Rattle.page_cell.proofs.Instant.{protected_get}
use Rattle.page_cell.proofs.Parts.{cell_gives-is, stops_its_writes}
use Rattle.bus_rule.specs.Kept.{Kept, cell_number, due}
use Rattle.bus_rule.specs.Locks.{Has, Locks}
use Rattle.bus_rule.specs.Plays.{with_event, with_content, after_cell_event, after_no_fetch, CanGoOn, CanTouch, IsDrawn}
use Rattle.bus_rule.specs.Story.{numbers_of, IsBooked, IsTold, Story}
use Rattle.bus_rule.specs.Faults.{Faults}
use Rattle.bus_rule.specs.Views.{Entry, Task, Role, Working, PassData, number_of, hand_of, role_of, request_in}
use Rattle.bus_rule.proofs.Dues.{due_page, due_content, due_after, due_same}
use Rattle.bus_rule.proofs.Faulted.{faults_event}
use Rattle.bus_rule.proofs.Joined.{WorkingIsNone, booked_other, not_first}
use Rattle.bus_rule.proofs.Lists.{map_place, map_write, map_unseen, place_listed}
use Rattle.bus_rule.proofs.Locked.{changes_cell, keeps_cells}
use Rattle.bus_rule.proofs.Placed.{place_stands, length-places}
use Rattle.bus_rule.proofs.Steps.{serves_now, sizes_now, clock_room, role_at, hand_at}
use Rattle.bus_rule.proofs.Tasks.{working_task}
use Rattle.bus_rule.proofs.Told.{told_event}

-- the page that a request writes is the cell that it touches
place_cell : (place : Place) (p : ℕ) → ram_page place ≡ Some p → cell_at place ≡ PageCell p
place_cell (places.Ram page off) p is = ap PageCell (same_Some page p is)
place_cell (places.Serial reg) p is = absurd (none-some p is)
place_cell (places.Timer reg) p is = absurd (none-some p is)

written_cell : (r : Request) (p : ℕ) → written_page r ≡ Some p → cell_of r ≡ Some (PageCell p)
unfolding cell_of
written_cell requests.Nothing p is = absurd (none-some p is)
written_cell (requests.NoFetch cause) p is = absurd (none-some p is)
written_cell (requests.Fetch page off) p is = absurd (none-some p is)
written_cell (requests.Load place width) p is = absurd (none-some p is)
written_cell (requests.Store place width value) p is = ap Some (place_cell place p is)
written_cell (requests.Amo place width op value) p is = ap Some (place_cell place p is)

module _ (i : MachineData) (n : ℕ) (protect : Bool) (s : State Cell PassData) (k : Kept i n protect s) (id : ℕ) (p : PassData) (at : get_elem? s.views id ≡ some p)
    (t : Task) (can : CanGoOn p t) where
  working : get_elem? (map role_of s.views) id ≡ some (Working t)
  working = role_at i n protect s k id p at ∙ ap some can.role

  told : (t.who < k.book.split) × IsTold i n k.order k.now t
  told = k.story.told id 0 t (working_task (map role_of s.views) id t working)

  shape_now : t.shape ≡ k.now.shape
  shape_now = told.1.shape ∙ sym (sizes_now i n protect s k).shape

  asks : request_of k.now.shape t.vcpu ≡ request_in t
  asks = ap (λ sh. request_of sh t.vcpu) (sym shape_now)

  counted : slice_index s.words 0 ≡ i.clock + length k.order
  counted = k.clock ∙ (sizes_now i n protect s k).clock

  still_going : has_ended i n k.now t.who ≡ false
  still_going = has_ended-is i n k.now t.who t.vcpu told.1.vcpu ∙ ap (λ until. vcpu_ended until t.vcpu) (sym told.1.until) ∙ can.going

  -- the word after the draw is the clock after the event
  clock_after : (after : MachineData) → KeepsRest k.now t.who after → slice_index (set s.words 0 ((slice_index s.words 0 + 1) % 2 ^ 64)) 0 ≡ after.clock
  clock_after after keeps =
      let room = clock_room i n protect s k in
      let found = k.clock in
      let small : slice_index s.words 0 + 1 < 2 ^ 64 = omega (arith, room, found) in
      let words = k.locks.word_count in
      get_or-set_same s.words 0 ((slice_index s.words 0 + 1) % 2 ^ 64) 0 (omega (arith, words))
      ∙ mod-eq_of_lt small ∙ ap (λ c. c + 1) k.clock ∙ sym keeps.clock

  -- ---- What is known of the number that was drawn

  pub drawn : IsDrawn t (slice_index s.words 0)
  drawn = record {
    counted = (let start = told.1.start in let c = counted in omega (arith, start, c));
    above = λ a e is.
        (let has = place_listed (numbers_of t.trace) a e.0 (map_place (λ (x : Entry). x.0) t.trace a e is) in
        let stands = place_stands t.who k.order e.0 (ap (list_any (eqb e.0)) (sym told.1.numbers) ∙ has) in
        let within = slice_get_within k.order e.0 t.who stands in
        let start = told.1.start in
        let c = counted in
        omega (arith, within, start, c));
    room =
        (let own = way_own i n (record { machine = k.now; order = k.order }) t.who k.start.rest k.story.way still_going in
        let many = sym (length-map t.trace (λ (e : Entry). e.0)) ∙ ap length told.1.numbers ∙ length-places t.who k.order in
        let run = told.1.run in
        omega (arith, own, many, run));
  }

  -- ---- The rule after an event

  -- the machine after the event, and what has to be shown of the cells
  module _ (after : MachineData) (v : VcpuData) (held : List (ℕ × Cell)) (moved : next k.now t.who ≡ Some after) (stands : slice_get after.vcpus t.who ≡ Some v)
      (keeps_protected : (q : ℕ) → is_protected k.book.writable q ≡ true → page_of after q ≡ page_of k.now q) where
    abbrev view_after : PassData
    view_after = record p { role = Working (with_event t v (slice_index s.words 0)); held = held }

    abbrev words_after : List ℕ
    words_after = set s.words 0 ((slice_index s.words 0 + 1) % 2 ^ 64)

    roles_after : map role_of (set s.views id view_after) ≡ set (map role_of s.views) id (Working (with_event t v (slice_index s.words 0)))
    roles_after = map_write role_of s.views id view_after

    event_kept : Locks (due after k.book.writable k.queue) words_after s.homes (map hand_of (set s.views id view_after)) →
        Kept i n protect (record { words = words_after; homes = s.homes; views = set s.views id view_after })
    event_kept locks =
        let keeps = next_keeps k.now t.who after (serves_now i n protect s k) moved in
        record {
          order = k.order ++ t.who ∷ [];
          now = after;
          queue = k.queue;
          book = k.book;
          start = k.start;
          cells = k.cells;
          clock = clock_after after keeps;
          locks = locks;
          booked = subst (IsBooked i n k.book) (sym roles_after)
              (booked_other i n k.book (map role_of s.views) id (Working t) (Working (with_event t v (slice_index s.words 0))) k.booked working
              (not_first i n k.book (map role_of s.views) id t k.booked working) (WorkingIsNone (with_event t v (slice_index s.words 0))));
          story = subst (Story i n (k.order ++ t.who ∷ []) after k.book.split) (sym roles_after)
              (told_event i n k.order k.now after k.book.split (map role_of s.views) id t v (slice_index s.words 0) k.story (serves_now i n protect s k) working
              still_going moved stands counted);
          flagged = record {
            writable = k.flagged.writable;
            picked = k.flagged.picked;
            unprotected = k.flagged.unprotected;
            instant = λ q is. keeps_protected q is ∙ k.flagged.instant q is;
          };
          faults = subst (Faults i (k.order ++ t.who ∷ []) k.book.writable k.queue k.book.picked) (sym roles_after)
              (faults_event i k.order k.now k.book.writable k.queue k.book.picked (map role_of s.views) id t v (slice_index s.words 0) k.faults working k.story.way.ran
              told.1.vcpu shape_now);
        }

  -- a write to word 0 changes no lock word
  lock_words : (d w : ℕ) → slice_index (set s.words 0 w) (d + 1) ≡ slice_index s.words (d + 1)
  lock_words d w = get_or-set_other s.words 0 (d + 1) w 0 (λ e. omega (arith, e))

  -- a page that the event doesn't write stays
  unwritten : (after : MachineData) → next k.now t.who ≡ Some after → (q : ℕ) → is_protected k.book.writable q ≡ true → written_page (request_in t) ≢ Some q →
      page_of after q ≡ page_of k.now q
  unwritten after moved q is other =
      let within = slice_get_within k.book.writable q false (protected_get k.book.writable q is) in
      let pages = k.flagged.writable ∙ ap total_pages_of (sym (sizes_now i n protect s k).shape) in
      other_pages_stay k.now t.who after q (serves_now i n protect s k) moved (omega (arith, within, pages))
      (λ e. other (sym (event_written_page-is k.now t.who t.vcpu (request_in t) told.1.vcpu asks) ∙ e))

  -- ---- With nothing to fetch

  pub draws_alone : (cause : Cause) → request_in t ≡ requests.NoFetch cause →
      Kept i n protect (record { words = set s.words 0 ((slice_index s.words 0 + 1) % 2 ^ 64); homes = s.homes; views = set s.views id (after_no_fetch p t (slice_index s.words 0)) })
  draws_alone cause is =
      let v = fetched_vcpu t.shape t.vcpu None in
      let after = flat.after_event k.now t.who v in
      let moved : next k.now t.who ≡ Some after =
      next_no_fetch k.now t.who t.vcpu cause told.1.vcpu (asks ∙ is) ∙ ap (λ sh. Some (flat.after_event k.now t.who (fetched_vcpu sh t.vcpu None))) (sym shape_now) in
      let stands = slice_get-set_same k.now.vcpus t.who v (slice_get_within k.now.vcpus t.who t.vcpu told.1.vcpu) in
      let writes_none = λ (q : ℕ) (e : written_page (request_in t) ≡ Some q). none-some q (sym (ap written_page is) ∙ e) in
      let w = after_no_fetch p t (slice_index s.words 0) in
      let hands : map hand_of (set s.views id w) ≡ map hand_of s.views =
      map_unseen hand_of s.views id p w at (ap (λ (r : Role). record { number = number_of r; cells = p.held }) (sym can.role)) in
      let words = set s.words 0 ((slice_index s.words 0 + 1) % 2 ^ 64) in
      event_kept after v p.held moved stands (λ q protected. unwritten after moved q protected (writes_none q))
      (subst (Locks (due after k.book.writable k.queue) words s.homes) (sym hands)
      (keeps_cells (due k.now k.book.writable k.queue) s.words s.homes (map hand_of s.views) k.locks (due after k.book.writable k.queue) words
      (λ c. due_same k.now after k.book.writable k.queue c (λ d e. content_same d))
      (length-set s.words 0 ((slice_index s.words 0 + 1) % 2 ^ 64)) (λ d. lock_words d ((slice_index s.words 0 + 1) % 2 ^ 64))))
    where
      content_same : (d : CellName) → content (flat.after_event k.now t.who (fetched_vcpu t.shape t.vcpu None)) d ≡ content k.now d
      content_same (PageCell q) = refl
      content_same SerialCell = refl
      content_same TimerCell = refl

  -- ---- With a cell

  module _ (c : ℕ) (x : Cell) (touch : CanTouch p t c x) where
    abbrev below : List (ℕ × Cell)
    below = touch.top.0

    held_cell : Has p.held c x
    held_cell = subst (λ (cs : List (ℕ × Cell)). Has cs c x) (sym touch.top.1) (inl refl)

    fits : due k.now k.book.writable k.queue c ≡ Some x
    fits = (k.locks.each_hand id (hand_of p) c x (hand_at i n protect s k id p at) held_cell).fits

    pages : total_pages_of t.shape ≡ length k.book.writable
    pages = ap total_pages_of told.1.shape ∙ sym k.flagged.writable

    number : c ≡ cell_number (length k.book.writable) touch.cell
    number = touch.number ∙ ap (λ n. cell_number n touch.cell) pages

    is_there : IsCellOf k.now.shape touch.cell
    is_there =
        let can_serve = asked_served k.now t.who t.vcpu (serves_now i n protect s k) told.1.vcpu in
        cell_there k.now.shape (request_of k.now.shape t.vcpu) touch.cell can_serve (ap cell_of asks ∙ touch.touches)

    inside : (q : ℕ) → touch.cell ≡ PageCell q → q < length k.book.writable
    inside q is =
        let h : q < total_pages_of k.now.shape = subst (IsCellOf k.now.shape) is is_there in
        let e = pages in
        let sh = ap total_pages_of shape_now in
        omega (arith, h, e, sh)

    fits_number : due k.now k.book.writable k.queue (cell_number (length k.book.writable) touch.cell) ≡ Some x
    fits_number = ap (due k.now k.book.writable k.queue) (sym number) ∙ fits

    held_content : content_of x ≡ Some (content k.now touch.cell)
    held_content = due_content k.now k.book.writable k.queue touch.cell x inside fits_number

    after : MachineData
    after = flat.after_cell_event k.now t.who t.vcpu (request_in t) touch.cell

    moved : next k.now t.who ≡ Some after
    unfolding after
    moved = next_touches k.now t.who t.vcpu (request_in t) touch.cell told.1.vcpu asks touch.touches

    made : content after touch.cell ≡ content_after (request_in t) (content k.now touch.cell)
    unfolding after
    made =
        let serves = serves_now i n protect s k in
        cell_event_content k.now t.who t.vcpu (request_in t) touch.cell serves.ram
        (request_content k.now t.who t.vcpu (request_in t) touch.cell serves told.1.vcpu asks touch.touches)

    vcpu_stands : slice_get after.vcpus t.who ≡ Some (vcpu_after t.shape t.vcpu (request_in t) (cell_gives (request_in t) x (slice_index s.words 0)))
    unfolding after
    vcpu_stands =
        cell_event_vcpu k.now t.who t.vcpu (request_in t) touch.cell told.1.vcpu
        ∙ ap (λ sh. Some (vcpu_after sh t.vcpu (request_in t) (gives (request_in t) (content k.now touch.cell) k.now.clock))) (sym shape_now)
        ∙ ap (λ time. Some (vcpu_after t.shape t.vcpu (request_in t) (gives (request_in t) (content k.now touch.cell) time))) (sym k.clock)
        ∙ ap (λ value. Some (vcpu_after t.shape t.vcpu (request_in t) value)) (sym (cell_gives-is (request_in t) x (content k.now touch.cell) (slice_index s.words 0) held_content))

    -- a protected page stops what would write it
    protected_stays : (q : ℕ) → is_protected k.book.writable q ≡ true → page_of after q ≡ page_of k.now q
    protected_stays q is = unwritten after moved q is (λ writes.
        (let here : touch.cell ≡ PageCell q = same_Some touch.cell (PageCell q) (sym touch.touches ∙ written_cell (request_in t) q writes) in
        let flag = protected_get k.book.writable q is in
        let place : c ≡ q = number ∙ ap (cell_number (length k.book.writable)) here in
        let page : x ≡ cells.Page (page_of k.now q) Protected =
        same_Some x (cells.Page (page_of k.now q) Protected) (sym fits ∙ ap (due k.now k.book.writable k.queue) place ∙ due_page k.now k.book.writable k.queue q false flag) in
        let stops = (stops_its_writes k.now (request_in t) q x (touch.touches ∙ ap Some here) (held_content ∙ ap (λ d. Some (content k.now d)) here) (ap phase_in page)).1 writes in
        true≢false (sym stops ∙ touch.free)))

    cell_fits : due after k.book.writable k.queue c ≡ Some (cell_after (request_in t) x)
    cell_fits =
        ap (due after k.book.writable k.queue) number
        ∙ due_after k.now after k.book.writable k.queue touch.cell (request_in t) x inside fits_number made

    other_cells : (d : ℕ) → d ≢ c → due after k.book.writable k.queue d ≡ due k.now k.book.writable k.queue d
    other_cells d other =
        let keeps = next_keeps k.now t.who after (serves_now i n protect s k) moved in
        due_same k.now after k.book.writable k.queue d (λ name place. keeps.cells name (λ e.
        (let same : touch.cell ≡ name = same_Some touch.cell name (sym (event_cell-is k.now t.who t.vcpu (request_in t) told.1.vcpu asks ∙ touch.touches) ∙ e) in
        other (place ∙ ap (cell_number (length k.book.writable)) (sym same) ∙ sym number))))

    pub draws_with_cell : Kept i n protect (record {
      words = set s.words 0 ((slice_index s.words 0 + 1) % 2 ^ 64);
      homes = s.homes;
      views = set s.views id (after_cell_event p t x (slice_index s.words 0));
    })
    draws_with_cell =
        let w = (slice_index s.words 0 + 1) % 2 ^ 64 in
        let v = vcpu_after t.shape t.vcpu (request_in t) (cell_gives (request_in t) x (slice_index s.words 0)) in
        let view = after_cell_event p t x (slice_index s.words 0) in
        let y = cell_after (request_in t) x in
        let hand : hand_of view ≡ record { number = number_of p.role; cells = (c, y) ∷ below } =
        ap (λ (r : Role). record { number = number_of r; cells = with_content p.held y }) (sym can.role)
        ∙ ap (λ (cs : List (ℕ × Cell)). record { number = number_of p.role; cells = with_content cs y }) touch.top.1 in
        event_kept after v (with_content p.held y) moved vcpu_stands protected_stays
        (subst (Locks (due after k.book.writable k.queue) (set s.words 0 w) s.homes)
        (sym (map_write hand_of s.views id view ∙ ap (set (map hand_of s.views) id) hand))
        (changes_cell (due k.now k.book.writable k.queue) s.words s.homes (map hand_of s.views) k.locks (due after k.book.writable k.queue) (set s.words 0 w) c id (hand_of p) x y below
        (hand_at i n protect s k id p at) touch.top.1 cell_fits other_cells (length-set s.words 0 w) (λ d. lock_words d w)))
