-- The rule holds of a bus at its start, and what it says of one at its end.
use Rattle.std.proofs.Common.{◌≡◌, inl, inr, ⊎_elim, ℕ, zero, suc, ◌+◌, ◌<◌, not, Bool, true, false, List, [], ◌∷◌, All, get_or, length, map, replicate, slice_index, Some, refl, sym, ◌∙◌, ap, subst, arith}
use Rattle.std.specs.List.{slice_get}
use mathlib.Core.Option.{some, some-injective, some-ne-none}
use lib.ListN.{get_elem?}
use Rattle.std.proofs.lemmas.Bool.{false≢true}
use Rattle.std.proofs.lemmas.List.{length-map, length-replicate}
use Rattle.std.proofs.lemmas.List.Elements.{All-cons, All-nil}
use Rattle.std.proofs.lemmas.Option.{none-some, same_Some, slice_get-get_or}
use Rattle.atomic_table.specs.Table.{State, opening, Final, Seen}
use Rattle.atomic_table.proofs.Lists.{at_map}
use Rattle.ram_block.specs.Shape.{total_pages_of}
use Rattle.flat_machine.specs.Machine.{MachineData}
use Rattle.flat_machine.proofs.RoundPhases.{begins}
use Rattle.page_cell.specs.declared.cell.Cell.{Cell}
use Rattle.bus_rule.specs.Ended.{IsOpening, HasJoined, IsWantedIn, Ended}
use Rattle.bus_rule.specs.Kept.{Kept, cells_of, due}
use Rattle.bus_rule.specs.Locks.{Hand, Has, IsOnceEach}
use Rattle.bus_rule.specs.Plays.{first_book, first_pass}
use Rattle.bus_rule.specs.Views.{Task, Book, Role, Spent, Working, Saving, PassData, number_of, hand_of, role_of, tasks_of, IsTask}
use Rattle.bus_rule.proofs.Joined.{is_first}
use Rattle.bus_rule.proofs.Lists.{map_place, map_came, one_there}
use Rattle.bus_rule.proofs.Tasks.{working_task}

-- ---- Lists of the table and lists of std

pub there_get : {A : Type 0} (xs : List A) (c : ℕ) (x : A) → get_elem? xs c ≡ some x → slice_get xs c ≡ Some x
there_get [] c x is = absurd (some-ne-none x (sym is))
there_get (y ∷ ys) zero x is = ap Some (some-injective y x is)
there_get (y ∷ ys) (suc c) x is = there_get ys c x is

pub get_there : {A : Type 0} (xs : List A) (c : ℕ) (x : A) → slice_get xs c ≡ Some x → get_elem? xs c ≡ some x
get_there [] c x is = absurd (none-some x is)
get_there (y ∷ ys) zero x is = ap some (same_Some y x is)
get_there (y ∷ ys) (suc c) x is = get_there ys c x is

-- ---- At the start

-- a list of one
only_one : {A : Type 0} (a b : A) (j : ℕ) → get_elem? (a ∷ []) j ≡ some b → (j ≡ 0) × (a ≡ b)
only_one a b zero is = (refl, some-injective a b is)
only_one a b (suc j) is = absurd (some-ne-none b (sym is))

-- flags that are all the same
flags_are : (w : Bool) (n p : ℕ) (x : Bool) → slice_get (replicate n w) p ≡ Some x → w ≡ x
flags_are w zero p x is = absurd (none-some x is)
flags_are w (suc n) zero x is = same_Some w x is
flags_are w (suc n) (suc p) x is = flags_are w n p x is

all_same : (w : Bool) (n : ℕ) → All (λ x. x ≡ w) (replicate n w)
all_same w zero = All-nil (λ x. x ≡ w)
all_same w (suc n) = All-cons (λ x. x ≡ w) w (replicate n w) refl (all_same w n)

-- nobody is known of, and nothing is held
no_task : (b : Book) (j a : ℕ) (t : Task) → b.joined ≡ [] → IsTask (Saving b ∷ []) j a t → ⊥
no_task b j a t empty task =
    let only = only_one (Saving b) task.role j task.pass in
    some-ne-none t (sym (ap (λ r. get_elem? (tasks_of r) a) only.1 ∙ task.task) ∙ ap (λ ts. get_elem? ts a) empty)

-- the words of cells are 0
zero_word : (i : MachineData) (words : List ℕ) (c : ℕ) → words ≡ i.clock ∷ replicate (cells_of i.shape) 0 → c < cells_of i.shape → slice_index words (c + 1) ≡ 0
zero_word i words c is within =
    let e : c + 1 ≡ suc c = omega arith in
    ap (λ ws. slice_index ws (c + 1)) is
    ∙ ap (λ d. slice_index (i.clock ∷ replicate (cells_of i.shape) 0) d) e
    ∙ zeros (cells_of i.shape) c
  where
    zeros : (n d : ℕ) → slice_index (replicate n 0) d ≡ 0
    zeros zero d = refl
    zeros (suc n) zero = refl
    zeros (suc n) (suc d) = zeros n d

pub opens : (i : MachineData) (n : ℕ) (protect : Bool) (words : List ℕ) (cells : List Cell) → IsOpening i n protect words cells →
    Kept i n protect (opening words cells (first_pass i n protect))
opens i n protect words cells open_at =
    let book = first_book i n protect in
    let flags = replicate (total_pages_of i.shape) (not protect) in
    let homes : length (map some cells) ≡ cells_of i.shape = length-map cells some ∙ open_at.count in
    record {
      order = [];
      now = i;
      queue = [];
      book = book;
      start = open_at.start;
      cells = homes;
      clock = ap (λ ws. slice_index ws 0) open_at.numbers;
      locks = record {
        each_cell = λ c within.
            (let inside : c < length cells = omega (arith, within, length-map cells some) in
            let x = get_or cells c (first_of_list cells c inside) in
            let there : slice_get cells c ≡ Some x = slice_get-get_or cells c (first_of_list cells c inside) inside in
            inl (record {
              word = zero_word i words c open_at.numbers (omega (arith, within, homes));
              content = x;
              home = at_map some cells c x (get_there cells c x there);
              fits = open_at.each c x there;
            }));
        each_hand = λ j h c x at has.
            absurd (subst (λ (y : Hand Cell). Has y.cells c x) (sym (only_one (hand_of (first_pass i n protect)) h j at).1) has);
        once = λ j h at. subst (λ (y : Hand Cell). IsOnceEach y.cells) (only_one (hand_of (first_pass i n protect)) h j at).1 tt;
        apart = λ j k g h at also positive same.
            (only_one (hand_of (first_pass i n protect)) g j at).0 ∙ sym (only_one (hand_of (first_pass i n protect)) h k also).0;
        word_count =
            ap length open_at.numbers
            ∙ (let nought : ℕ = 0 in let z = length-replicate (cells_of i.shape) nought in omega (arith, z, homes));
      };
      booked = record {
        first = refl;
        alone = λ j other at. (only_one (Saving book) (Saving other) j at).0;
        instant = refl;
        run = refl;
        split = omega arith;
      };
      story = record {
        way = begins i n open_at.start.rest;
        told = λ j a t task. absurd (no_task book j a t refl task);
        once = λ j a k b t u task also same. absurd (no_task book j a t refl task);
        each = λ k below. absurd (omega (arith, below));
        untold = λ k from within. record { places = refl; vcpu = refl };
      };
      flagged = record {
        writable = length-replicate (total_pages_of i.shape) (not protect);
        picked = length-replicate (total_pages_of i.shape) false;
        unprotected = λ off. subst (λ (b : Bool). All (λ w. w ≡ true) (replicate (total_pages_of i.shape) (not b))) (sym off) (all_same true (total_pages_of i.shape));
        instant = λ p is. refl;
      };
      faults = record {
        waiting = λ j a t task. absurd (no_task book j a t refl task);
        below = λ p is. absurd (false≢true is);
        because = λ p. ⊎_elim (λ is. absurd (false≢true is)) (λ is. absurd (false≢true (flags_are false (total_pages_of i.shape) p true is)));
      };
    }
  where
    first_of_list : (xs : List Cell) (c : ℕ) → c < length xs → Cell
    first_of_list [] c within = absurd (omega (arith, within))
    first_of_list (x ∷ xs) c within = x

-- ---- At the end

module _ (i : MachineData) (n : ℕ) (protect : Bool) (id : ℕ) (p : PassData) (b : Book) (words : List ℕ) (cells : List Cell)
    (last : Final (Seen (Kept i n protect) id p) words cells) (joined : HasJoined p b) where
  state : State Cell PassData
  state = last.0

  kept : Kept i n protect last.0
  kept = last.1.0

  saving : get_elem? (map role_of last.0.views) id ≡ some (Saving b)
  saving = map_place role_of last.0.views id p last.1.1 ∙ ap some joined.role

  the_book : (id ≡ 0) × (b ≡ kept.book)
  the_book = is_first i n kept.book b (map role_of last.0.views) id kept.booked saving

  known : (a : ℕ) (t : Task) → get_elem? b.joined a ≡ some t → IsTask (map role_of last.0.views) id a t
  known a t at = record { role = Saving b; pass = saving; task = at }

  -- each vCPU's pass was joined, so that every other pass is spent, and holds nothing
  spent_or_saver : (j : ℕ) (w : PassData) (r : Role) → get_elem? last.0.views j ≡ some w → w.role ≡ r → 0 < number_of r → j ≡ id
  spent_or_saver j w Spent at is positive = absurd (omega (arith, positive))
  spent_or_saver j w (Working t) at is positive =
      let working : get_elem? (map role_of last.0.views) j ≡ some (Working t) = map_place role_of last.0.views j w at ∙ ap some is in
      let task = working_task (map role_of last.0.views) j t working in
      let h = (kept.story.told j 0 t task).0 in
      let most = kept.booked.split in
      let count : length b.instant.vcpus ≡ length i.vcpus = ap (λ (y : Book). length y.instant.vcpus) the_book.1 ∙ ap (λ (m : MachineData). length m.vcpus) kept.booked.instant in
      let its = joined.each t.who (omega (arith, h, most, count)) in
      (kept.story.once j 0 id its.0 t its.1 task (known its.0 its.1 its.2) (sym its.3)).0
  spent_or_saver j w (Saving c) at is positive =
      (is_first i n kept.book c (map role_of last.0.views) j kept.booked (map_place role_of last.0.views j w at ∙ ap some is)).0 ∙ sym the_book.0

  nothing_held : (j : ℕ) (h : Hand Cell) (c : ℕ) (x : Cell) → get_elem? (map hand_of last.0.views) j ≡ some h → Has h.cells c x → ⊥
  nothing_held j h c x at has =
      let came = map_came hand_of last.0.views j h at in
      let held = kept.locks.each_hand j h c x at has in
      let number : number_of came.0.role ≡ h.number = ap (λ (y : Hand Cell). y.number) came.2 in
      let here : j ≡ id = spent_or_saver j came.0 came.0.role came.1 refl (let q = held.number in omega (arith, q, number)) in
      let same : came.0 ≡ p = one_there last.0.views id came.0 p (ap (get_elem? last.0.views) (sym here) ∙ came.1) last.1.1 in
      let none : h.cells ≡ [] = ap (λ (y : Hand Cell). y.cells) (sym came.2) ∙ ap (λ (w : PassData). w.held) same ∙ joined.none_held in
      subst (λ (cs : List (ℕ × Cell)). Has cs c x) none has

  -- so each cell is at home, with what is due
  at_home : (c : ℕ) → c < cells_of i.shape → slice_get cells c ≡ due kept.now kept.book.writable kept.queue c
  at_home c within =
      elim (kept.locks.each_cell c (let h = kept.cells in omega (arith, within, h))) as (λ _. slice_get cells c ≡ due kept.now kept.book.writable kept.queue c) [
        | inl free ↦ there_get cells c free.content (last.4 c free.content free.home) ∙ sym free.fits
        | inr (j, h, at, out) ↦ absurd (nothing_held j h c out.content at out.has)
      ]

  -- a page that some pass wants is wanted by one that was joined
  wanted_in : (q : ℕ) (j a : ℕ) (t : Task) → IsTask (map role_of last.0.views) j a t → t.wants ≡ Some q → IsWantedIn b q
  wanted_in q j a t task wants =
      let h = (kept.story.told j a t task).0 in
      let most = kept.booked.split in
      let count : length b.instant.vcpus ≡ length i.vcpus = ap (λ (y : Book). length y.instant.vcpus) the_book.1 ∙ ap (λ (m : MachineData). length m.vcpus) kept.booked.instant in
      let its = joined.each t.who (omega (arith, h, most, count)) in
      let place = kept.story.once j a id its.0 t its.1 task (known its.0 its.1 its.2) (sym its.3) in
      let here : IsTask (map role_of last.0.views) id its.0 t = subst (λ (x : ℕ). IsTask (map role_of last.0.views) id x t) place.1 (subst (λ (x : ℕ). IsTask (map role_of last.0.views) x a t) place.0 task) in
      known_in id its.0 t refl here wants
    where
      known_in : (j a : ℕ) (t : Task) → j ≡ id → IsTask (map role_of last.0.views) j a t → t.wants ≡ Some q → IsWantedIn b q
      known_in j a t at_saver task wants =
          let same = one_there (map role_of last.0.views) j task.role (Saving b) task.pass (ap (get_elem? (map role_of last.0.views)) at_saver ∙ saving) in
          record { place = a; task = t; known = ap (λ r. get_elem? (tasks_of r) a) (sym same) ∙ task.task; wants = wants }

  pub ends : Ended i n protect b cells
  ends =
      let writable : kept.book.writable ≡ b.writable = ap (λ (y : Book). y.writable) (sym the_book.1) in
      let whole : Ended i n protect kept.book cells = record {
        order = kept.order;
        now = kept.now;
        queue = kept.queue;
        way = kept.story.way;
        told = λ a t at. (kept.story.told id a t (known a t (ap (λ (y : Book). get_elem? y.joined a) the_book.1 ∙ at))).1;
        flagged = kept.flagged;
        waiting = λ a t at. kept.faults.waiting id a t (known a t (ap (λ (y : Book). get_elem? y.joined a) the_book.1 ∙ at));
        because = λ q sought. ⊎_elim
            (λ wanted. inl (subst (λ (y : Book). IsWantedIn y q) the_book.1 (wanted_in q wanted.pass wanted.place wanted.task wanted.known wanted.wants)))
            (λ written. inr written)
            (kept.faults.because q sought);
        count = sym last.3 ∙ kept.cells;
        each = at_home;
      } in
      subst (λ (y : Book). Ended i n protect y cells) (sym the_book.1) whole
