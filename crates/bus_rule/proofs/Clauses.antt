-- What the rule says, clause by clause.
use Rattle.std.proofs.Common.{◌≡◌, inl, inr, ℕ, suc, ◌+◌, ◌<◌, ◌≤◌, Bool, true, false, eqb, List, [], ◌∷◌, get_or, length, map, take, slice_index, Some, refl, sym, ◌∙◌, ap, subst, subst₂, arith}
use Rattle.std.specs.List.{slice_get, list_any, range_with_len}
use mathlib.Core.Option.{some, none, some-injective, some-ne-none}
use lib.ListN.{get_elem?}
use Rattle.std.proofs.lemmas.Bool.{cases_lt}
use Rattle.std.proofs.lemmas.List.FromFn.{length-map-range_with_len}
use Rattle.std.proofs.lemmas.Option.{same_Some, slice_get_within, slice_get-get_or, get_or_from_slice_get}
use Rattle.atomic_table.specs.Table.{State}
use Rattle.ram_block.specs.Shape.{total_pages_of}
use Rattle.rv64i_step.specs.Event.{request_of}
use Rattle.flat_machine.specs.Laws.{IsCellOf}
use Rattle.flat_machine.specs.Machine.{MachineData, page_of}
use Rattle.flat_machine.specs.Run.{run, has_ended}
use Rattle.flat_machine.proofs.Outcomes.{All-slice_get}
use Rattle.flat_machine.proofs.Phases.{going}
use Rattle.flat_machine.proofs.Servable.{run_keeps}
use Rattle.flat_machine.proofs.Written.{event_written_page-is}
use Rattle.page_cell.specs.Cell.{phase_in}
use Rattle.page_cell.specs.declared.cell.Cell.{Cell}
use Rattle.page_cell.specs.declared.cell.Cell.TheVariants as cells
use Rattle.page_cell.proofs.Instant.{get_protected}
use Rattle.bus_rule.specs.Clauses.{Holds, Contains, SaysHolders, AreTold, IsMoment, SaysVcpu, SaysContents, SaysPhases, IsQueued, SaysReached, SaysPasses, SaysFaults, IsSavers}
use Rattle.bus_rule.specs.Kept.{Kept, cell_number, queue_number, phase_of, due}
use Rattle.bus_rule.specs.Locks.{Hand, Has}
use Rattle.bus_rule.specs.Order.{places, traces_of, order_of}
use Rattle.bus_rule.specs.Story.{numbers_of}
use Rattle.bus_rule.specs.Views.{Entry, Task, Book, Role, PassData, number_of, hand_of, role_of, IsTask, request_in}
use Rattle.bus_rule.proofs.Dues.{due_page, due_content, due_queue}
use Rattle.bus_rule.specs.Tells.{queue_in}
use Rattle.bus_rule.proofs.Joined.{is_first}
use Rattle.bus_rule.proofs.Lists.{map_place, map_came, one_there, place_listed, place_within}
use Rattle.bus_rule.proofs.Locked.{held_is_away, only_holder}
use Rattle.bus_rule.proofs.Placed.{places_are_traces, order-places, total-places, is_trace, place_stands, AreBelow}
use Rattle.bus_rule.proofs.Steps.{serves_start, sizes_now}

module _ (i : MachineData) (n : ℕ) (protect : Bool) (s : State Cell PassData) (k : Kept i n protect s) where
  abbrev roles : List Role
  roles = map role_of s.views

  -- a holder as a hand
  hand_holds : (j c : ℕ) (x : Cell) → Holds s j c x → (h : Hand Cell) × (get_elem? (map hand_of s.views) j ≡ some h) × Has h.cells c x
  hand_holds j c x holds = (hand_of holds.pass, map_place hand_of s.views j holds.pass holds.stands, holds.has)

  holds_hand : (j c : ℕ) (x : Cell) (h : Hand Cell) → get_elem? (map hand_of s.views) j ≡ some h → Has h.cells c x → Holds s j c x
  holds_hand j c x h at has =
      let came = map_came hand_of s.views j h at in
      record { pass = came.0; stands = came.1; has = subst (λ (y : Hand Cell). Has y.cells c x) (sym came.2) has }

  holds_fits : (j c : ℕ) (x : Cell) → Holds s j c x → due k.now k.book.writable k.queue c ≡ Some x
  holds_fits j c x holds = (let h = hand_holds j c x holds in (k.locks.each_hand j h.0 c x h.1 h.2).fits)

  -- what a cell contains is what is due
  contains_fits : (c : ℕ) (x : Cell) → Contains s c x → due k.now k.book.writable k.queue c ≡ Some x
  contains_fits c x (inr (j, holds)) = holds_fits j c x holds
  contains_fits c x (inl home) =
      elim (k.locks.each_cell c (within c x home)) as (λ _. due k.now k.book.writable k.queue c ≡ Some x) [
        | inl free ↦ free.fits ∙ ap Some (some-injective free.content x (some-injective (some free.content) (some x) (sym free.home ∙ home)))
        | inr (j, h, at, out) ↦ absurd (not_both c x home out.home)
      ]
    where
      within : (c : ℕ) (x : Cell) → get_elem? s.homes c ≡ some (some x) → c < length s.homes
      within c x is = place_within s.homes c (some x) is

      not_both : (c : ℕ) (x : Cell) → get_elem? s.homes c ≡ some (some x) → get_elem? s.homes c ≡ some none → ⊥
      not_both c x is also = some-ne-none x (some-injective (some x) none (sym is ∙ also))

  -- ---- The first

  pub says_holders : SaysHolders s
  unfolding hand_holds
  says_holders = record {
    word = λ j c number x holds numbered.
        (let h = hand_holds j c x holds in
        let held = k.locks.each_hand j h.0 c x h.1 h.2 in
        let same = one_there s.views j holds.pass numbered.pass holds.stands numbered.stands in
        held.word ∙ ap (λ (p : PassData). number_of p.role) same ∙ numbered.is);
    holder = λ j c number within numbered positive is.
        elim (k.locks.each_cell c within) as (λ _. (x : Cell) × Holds s j c x) [
          | inl free ↦ (let z = free.word in absurd (omega (arith, z, positive, is)))
          | inr (l, h, at, out) ↦
              (let mine = map_place hand_of s.views j numbered.pass numbered.stands in
              let number_is = numbered.is in
              let here : j ≡ l = k.locks.apart j l (hand_of numbered.pass) h mine at (omega (arith, positive, number_is)) (numbered.is ∙ sym is ∙ out.word) in
              (out.content, subst (λ (m : ℕ). Holds s m c out.content) (sym here) (holds_hand l c out.content h at out.has)))
        ];
    free = λ c within nobody.
        elim (k.locks.each_cell c within) as (λ _. slice_index s.words (c + 1) ≡ 0) [
          | inl free ↦ free.word
          | inr (l, h, at, out) ↦ absurd (nobody l out.content (holds_hand l c out.content h at out.has))
        ];
    one = λ j l c x y holds also.
        (let a = hand_holds j c x holds in
        let b = hand_holds l c y also in
        only_holder (due k.now k.book.writable k.queue) s.words s.homes (map hand_of s.views) k.locks c j l a.0 b.0 x y a.1 a.2 b.1 b.2);
    away = λ j c x holds.
        (let a = hand_holds j c x holds in
        held_is_away (due k.now k.book.writable k.queue) s.words s.homes (map hand_of s.views) k.locks c j a.0 x a.1 a.2);
    at_home = λ c within nobody.
        elim (k.locks.each_cell c within) as (λ _. (x : Cell) × (get_elem? s.homes c ≡ some (some x))) [
          | inl free ↦ (free.content, free.home)
          | inr (l, h, at, out) ↦ absurd (nobody l out.content (holds_hand l c out.content h at out.has))
        ];
  }

  -- ---- The second

  -- each event is one of a vCPU that there is
  members : AreBelow (length i.vcpus) k.order
  members t j is =
      let phase = k.story.way.each t (slice_get_within k.order t j is) in
      elim (cases_lt j (length i.vcpus)) as (λ _. j < length i.vcpus) [
        | inl below ↦ below
        | inr past ↦ absurd (past_ends t j is past)
      ]
    where
      past_ends : (t j : ℕ) → slice_get k.order t ≡ Some j → length i.vcpus ≤ j → ⊥
      past_ends t j is past =
          let phase = k.story.way.each t (slice_get_within k.order t j is) in
          let sizes = run_keeps i (take t k.order) phase.before (serves_start i n k.start) phase.ran in
          let there = going i n phase.before j (ap (has_ended i n phase.before) (sym (get_or_from_slice_get k.order t j 0 is)) ∙ phase.going_on) in
          let h = slice_get_within phase.before.vcpus j there.vcpu there.stood in
          let count = sizes.vcpus in
          omega (arith, h, count, past)

  pub says_moment : IsMoment s i k.order k.now
  says_moment = record {
    traces = traces_of (length i.vcpus) k.order;
    told = record {
      count = length-map-range_with_len (λ j. places j k.order) 0 (length i.vcpus);
      told = λ j a t task.
          (let told = k.story.told j a t task in
          let h = told.0 in
          let most = k.booked.split in
          is_trace (length i.vcpus) k.order t.who (omega (arith, h, most)) ∙ ap Some (sym told.1.numbers));
      untold = λ l within nobody.
          elim (cases_lt l k.book.split) as (λ _. slice_get (traces_of (length i.vcpus) k.order) l ≡ Some []) [
            | inl split ↦ (let e = k.story.each l split in absurd (nobody e.0 e.1 e.2 e.3 e.4))
            | inr from ↦ is_trace (length i.vcpus) k.order l within ∙ ap Some (k.story.untold l from within).places
          ];
    };
    are = places_are_traces (length i.vcpus) k.order members;
    total =
        (let clock = (sizes_now i n protect s k).clock in
        let total = total-places (length i.vcpus) k.order members in
        let word = k.clock in
        omega (arith, clock, total, word));
    order = order-places (length i.vcpus) k.order members;
    ran = k.story.way.ran;
  }

  -- ---- The third

  pub says_vcpus : (j a : ℕ) (t : Task) → IsTask roles j a t → SaysVcpu i n k.order k.now t
  says_vcpus j a t task =
      let told = (k.story.told j a t task).1 in
      record {
        vcpu = told.vcpu;
        until = told.until;
        entries = λ c e at.
            (let shows = told.shows c e at in
            let has = place_listed (numbers_of t.trace) c e.0 (map_place (λ (x : Entry). x.0) t.trace c e at) in
            let stands = place_stands t.who k.order e.0 (ap (list_any (eqb e.0)) (sym told.numbers) ∙ has) in
            let phase = k.story.way.each e.0 shows.within in
            record {
              after = shows.after;
              ran = shows.ran;
              vcpu = shows.vcpu;
              before = phase.before;
              ran_before = phase.ran;
              going = ap (has_ended i n phase.before) (sym (get_or_from_slice_get k.order e.0 t.who 0 stands)) ∙ phase.going_on;
            });
      }

  -- ---- The fourth

  pages_now : total_pages_of k.now.shape ≡ length k.book.writable
  pages_now = ap total_pages_of (sizes_now i n protect s k).shape ∙ sym k.flagged.writable

  pub says_contents : SaysContents s k.now
  says_contents d x there contains =
      due_content k.now k.book.writable k.queue d x (λ p is. inside p (subst (IsCellOf k.now.shape) is there))
      (ap (λ pages. due k.now k.book.writable k.queue (cell_number pages d)) (sym pages_now) ∙ contains_fits (cell_number (total_pages_of k.now.shape) d) x contains)
    where
      inside : (p : ℕ) → p < total_pages_of k.now.shape → p < length k.book.writable
      inside p h = (let e = pages_now in omega (arith, h, e))

  -- ---- The fifth

  phase_says : (p : ℕ) (x : Cell) (w : Bool) → slice_get k.book.writable p ≡ Some w → Contains s p x → phase_in x ≡ phase_of w
  phase_says p x w flag contains =
      ap phase_in (same_Some x (cells.Page (page_of k.now p) (phase_of w)) (sym (contains_fits p x contains) ∙ due_page k.now k.book.writable k.queue p w flag))

  pub says_phases : SaysPhases s i protect k.now k.book
  says_phases = record {
    writable = λ p x flag contains. phase_says p x true flag contains;
    protected = λ p x flag contains. phase_says p x false flag contains;
    instant = λ p flag. k.flagged.instant p (get_protected k.book.writable p flag);
    unprotected = λ off p within.
        (let count = k.flagged.writable in
        let inside : p < length k.book.writable = omega (arith, within, count) in
        let flag = slice_get-get_or k.book.writable p true inside in
        flag ∙ ap Some (All-slice_get (λ w. w ≡ true) k.book.writable p (get_or k.book.writable p true) (k.flagged.unprotected off) flag));
    count = k.flagged.writable;
  }

  -- ---- The sixth and the eighth

  pub says_queued : IsQueued s i k.queue
  says_queued =
      let pages = k.flagged.writable in
      let within : queue_number (total_pages_of i.shape) < length s.homes = (let c = k.cells in omega (arith, c)) in
      let fits : due k.now k.book.writable k.queue (queue_number (total_pages_of i.shape)) ≡ Some (cells.Faults (record { pages = total_pages_of i.shape; list = k.queue })) =
      due_queue k.now k.book.writable k.queue (queue_number (total_pages_of i.shape)) (ap queue_number (sym pages))
      ∙ ap (λ m. Some (cells.Faults (record { pages = m; list = k.queue }))) pages in
      elim (k.locks.each_cell (queue_number (total_pages_of i.shape)) within) as (λ _. IsQueued s i k.queue) [
        | inl free ↦
            (let same = same_Some free.content (cells.Faults (record { pages = total_pages_of i.shape; list = k.queue })) (sym free.fits ∙ fits) in
            inl (free.home ∙ ap (λ x. some (some x)) same))
        | inr (j, h, at, out) ↦
            (let held = k.locks.each_hand j h (queue_number (total_pages_of i.shape)) out.content at out.has in
            let same = same_Some out.content (cells.Faults (record { pages = total_pages_of i.shape; list = k.queue })) (sym held.fits ∙ fits) in
            inr (j, subst (Holds s j (queue_number (total_pages_of i.shape))) same (holds_hand j (queue_number (total_pages_of i.shape)) out.content h at out.has)))
      ]

  says_reached : SaysReached s k.book k.queue
  says_reached j a p t task wants = (k.faults.waiting j a t task).reached p wants

  says_faults : SaysFaults s i k.order k.now k.book k.queue
  says_faults = record {
    aims = λ j a p t task wants.
        (let told = (k.story.told j a t task).1 in
        let shape : request_of k.now.shape t.vcpu ≡ request_in t = ap (λ sh. request_of sh t.vcpu) ((sizes_now i n protect s k).shape ∙ sym told.shape) in
        event_written_page-is k.now t.who t.vcpu (request_in t) told.vcpu shape ∙ (k.faults.waiting j a t task).aims p wants);
    because = k.faults.because;
    calm = λ j a t task none_sought. (k.faults.waiting j a t task).calm none_sought;
  }

  -- ---- The seventh

  pub says_passes : SaysPasses s i k.now k.book
  says_passes = record {
    numbers = λ j p t at role. ap number_of role;
    split = λ j a t task. (k.story.told j a t task).0;
    each = k.story.each;
    once = k.story.once;
    most = k.booked.split;
    unsplit = λ l from within. (k.story.untold l from within).vcpu;
  }

  -- ---- What is told of a moment, a book and a queue is of those of the rule

  -- a list by its members
  traces_are : (f : ℕ → List ℕ) (a : ℕ) (ts : List (List ℕ)) → ((l : ℕ) → l < length ts → slice_get ts l ≡ Some (f (a + l))) → ts ≡ map f (range_with_len a (length ts))
  traces_are f a [] are = refl
  traces_are f a (t ∷ ts) are =
      let z : a + 0 ≡ a = omega arith in
      let first : t ≡ f a = same_Some t (f a) (are 0 (omega arith) ∙ ap (λ x. Some (f x)) z) in
      let later = traces_are f (a + 1) ts (λ l within. (let e : a + suc l ≡ (a + 1) + l = omega arith in are (suc l) (omega (arith, within)) ∙ ap (λ x. Some (f x)) e)) in
      ap (λ x. x ∷ ts) first ∙ ap (λ xs. f a ∷ xs) later

  told_traces : (traces : List (List ℕ)) → AreTold s (length i.vcpus) traces → traces ≡ traces_of (length i.vcpus) k.order
  told_traces traces told =
      traces_are (λ l. places l k.order) 0 traces (λ l within. (let z : 0 + l ≡ l = omega arith in trace_at l (let c = told.count in omega (arith, within, c)) ∙ ap (λ x. Some (places x k.order)) (sym z)))
      ∙ ap (λ m. map (λ l. places l k.order) (range_with_len 0 m)) told.count
    where
      trace_at : (l : ℕ) → l < length i.vcpus → slice_get traces l ≡ Some (places l k.order)
      trace_at l within =
          elim (cases_lt l k.book.split) as (λ _. slice_get traces l ≡ Some (places l k.order)) [
            | inl split ↦
                (let e = k.story.each l split in
                ap (slice_get traces) (sym e.4) ∙ told.told e.0 e.1 e.2 e.3 ∙ ap Some (k.story.told e.0 e.1 e.2 e.3).1.numbers ∙ ap (λ w. Some (places w k.order)) e.4)
            | inr from ↦
                told.untold l within (λ j a t task who. (let h = (k.story.told j a t task).0 in omega (arith, h, who, from)))
                ∙ ap Some (sym (k.story.untold l from within).places)
          ]

  moment_is : (o : List ℕ) (m : MachineData) → IsMoment s i o m → (o ≡ k.order) × (m ≡ k.now)
  moment_is o m moment =
      let order : o ≡ k.order = sym moment.order ∙ ap order_of (told_traces moment.traces moment.told) ∙ order-places (length i.vcpus) k.order members in
      (order, same_Some m k.now (sym moment.ran ∙ ap (run i) order ∙ k.story.way.ran))

  book_is : (b : Book) → IsSavers s b → b ≡ k.book
  book_is b savers = (is_first i n k.book b roles savers.pass k.booked savers.stands).1

  queue_is : (queue : List ℕ) → IsQueued s i queue → queue ≡ k.queue
  queue_is queue queued =
      let number = queue_number (total_pages_of i.shape) in
      let one = contains_fits number (cells.Faults (record { pages = total_pages_of i.shape; list = queue })) queued in
      let other = contains_fits number (cells.Faults (record { pages = total_pages_of i.shape; list = k.queue })) says_queued in
      let same = same_Some (cells.Faults (record { pages = total_pages_of i.shape; list = queue })) (cells.Faults (record { pages = total_pages_of i.shape; list = k.queue })) (sym one ∙ other) in
      ap (λ x. (queue_in x).list) same

-- ---- The eight clauses

pub holders_said : (i : MachineData) (n : ℕ) (protect : Bool) (s : State Cell PassData) → Kept i n protect s → SaysHolders s
holders_said i n protect s k = says_holders i n protect s k

pub moment_said : (i : MachineData) (n : ℕ) (protect : Bool) (s : State Cell PassData) → Kept i n protect s → (o : List ℕ) × (m : MachineData) × IsMoment s i o m
moment_said i n protect s k = (k.order, k.now, says_moment i n protect s k)

pub book_said : (i : MachineData) (n : ℕ) (protect : Bool) (s : State Cell PassData) → Kept i n protect s → (b : Book) × IsSavers s b
book_said i n protect s k = (k.book, record { pass = 0; stands = k.booked.first; alone = k.booked.alone })

pub queue_said : (i : MachineData) (n : ℕ) (protect : Bool) (s : State Cell PassData) → Kept i n protect s → (queue : List ℕ) × IsQueued s i queue
queue_said i n protect s k = (k.queue, says_queued i n protect s k)

pub vcpus_said : (i : MachineData) (n : ℕ) (protect : Bool) (s : State Cell PassData) (o : List ℕ) (m : MachineData) → Kept i n protect s → IsMoment s i o m →
    (j a : ℕ) (t : Task) → IsTask (map role_of s.views) j a t → SaysVcpu i n o m t
vcpus_said i n protect s o m k moment j a t task =
    let is = moment_is i n protect s k o m moment in
    subst₂ (λ (x : List ℕ) (y : MachineData). SaysVcpu i n x y t) (sym is.0) (sym is.1) (says_vcpus i n protect s k j a t task)

pub contents_said : (i : MachineData) (n : ℕ) (protect : Bool) (s : State Cell PassData) (o : List ℕ) (m : MachineData) → Kept i n protect s → IsMoment s i o m → SaysContents s m
contents_said i n protect s o m k moment = subst (SaysContents s) (sym (moment_is i n protect s k o m moment).1) (says_contents i n protect s k)

pub phases_said : (i : MachineData) (n : ℕ) (protect : Bool) (s : State Cell PassData) (o : List ℕ) (m : MachineData) (b : Book) → Kept i n protect s → IsMoment s i o m → IsSavers s b →
    SaysPhases s i protect m b
phases_said i n protect s o m b k moment savers =
    subst₂ (λ (y : MachineData) (c : Book). SaysPhases s i protect y c) (sym (moment_is i n protect s k o m moment).1) (sym (book_is i n protect s k b savers)) (says_phases i n protect s k)

pub reached_said : (i : MachineData) (n : ℕ) (protect : Bool) (s : State Cell PassData) (b : Book) (queue : List ℕ) → Kept i n protect s → IsSavers s b → IsQueued s i queue → SaysReached s b queue
reached_said i n protect s b queue k savers queued =
    subst₂ (λ (c : Book) (q : List ℕ). SaysReached s c q) (sym (book_is i n protect s k b savers)) (sym (queue_is i n protect s k queue queued)) (says_reached i n protect s k)

pub passes_said : (i : MachineData) (n : ℕ) (protect : Bool) (s : State Cell PassData) (o : List ℕ) (m : MachineData) (b : Book) → Kept i n protect s → IsMoment s i o m → IsSavers s b → SaysPasses s i m b
passes_said i n protect s o m b k moment savers =
    subst₂ (λ (y : MachineData) (c : Book). SaysPasses s i y c) (sym (moment_is i n protect s k o m moment).1) (sym (book_is i n protect s k b savers)) (says_passes i n protect s k)

pub faults_said : (i : MachineData) (n : ℕ) (protect : Bool) (s : State Cell PassData) (o : List ℕ) (m : MachineData) (b : Book) (queue : List ℕ) → Kept i n protect s → IsMoment s i o m →
    IsSavers s b → IsQueued s i queue → SaysFaults s i o m b queue
faults_said i n protect s o m b queue k moment savers queued =
    let is = moment_is i n protect s k o m moment in
    subst₂ (λ (x : List ℕ) (y : MachineData). SaysFaults s i x y b queue) (sym is.0) (sym is.1)
    (subst₂ (λ (c : Book) (q : List ℕ). SaysFaults s i k.order k.now c q) (sym (book_is i n protect s k b savers)) (sym (queue_is i n protect s k queue queued)) (says_faults i n protect s k))
