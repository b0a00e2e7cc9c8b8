-- Steps that leave the run as it is: a cell is taken, found held, or given back.
use Rattle.std.proofs.Common.{◌≡◌, ◌≢◌, ℕ, ◌+◌, ◌*◌, ◌^◌, ◌<◌, ◌≤◌, Bool, List, ◌∷◌, length, map, set, slice_index, Some, refl, sym, ◌∙◌, ap, subst, arith, mul-le-mul}
use mathlib.Core.Option.{some, none}
use lib.ListN.{get_elem?}
use Rattle.std.proofs.lemmas.List.{length-set, get_or-set_other, set-get_or}
use Rattle.atomic_table.specs.Table.{State, rest}
use Rattle.ram_block.specs.Shape.{total_pages_of}
use Rattle.ram_block.specs.declared.page_buf.TheConstants.{PAGE}
use Rattle.ram_block.specs.declared.shape.TheConstants.{MAX_VCPUS}
use Rattle.ram_block.specs.declared.limits.TheConstants.{MAX_PHASE}
use Rattle.flat_machine.specs.Laws.{ServesAll, KeepsSizes}
use Rattle.flat_machine.specs.Machine.{MachineData, page_of}
use Rattle.flat_machine.proofs.Inside.{length-page_of}
use Rattle.flat_machine.proofs.Servable.{run_serves, run_keeps}
use Rattle.flat_machine.proofs.UnderWay.{way_length}
use Rattle.page_cell.proofs.Instant.{get_protected}
use Rattle.page_cell.specs.declared.cell.Cell.{Cell}
use Rattle.page_cell.specs.declared.cell.Cell.TheVariants as cells
use Rattle.bus_rule.specs.Kept.{Kept, IsStart, due}
use Rattle.bus_rule.specs.Locks.{Locks}
use Rattle.bus_rule.specs.Plays.{with_cell, with_found, without_cell, CanTake, IsKind, IsBookedCell, IsFound}
use Rattle.bus_rule.specs.Story.{IsBooked, Story}
use Rattle.bus_rule.specs.Faults.{Faults}
use Rattle.bus_rule.specs.Views.{Book, Role, Spent, Working, Saving, PassData, number_of, hand_of, role_of}
use Rattle.bus_rule.proofs.Dues.{due_kind, is_page}
use Rattle.bus_rule.proofs.Joined.{is_first}
use Rattle.bus_rule.proofs.Lists.{map_place, map_write, map_unseen}
use Rattle.bus_rule.proofs.Locked.{free_cell, others_number, takes_cell, gives_cell}
use Rattle.bus_rule.proofs.Tasks.{working_task}

-- ---- What the rule says at once

-- the machine serves what is asked of it
pub serves_start : (i : MachineData) (n : ℕ) → IsStart i n → ServesAll i
serves_start i n start = record { ram = start.machine.ram; each = start.machine.servable }

pub serves_now : (i : MachineData) (n : ℕ) (protect : Bool) (s : State Cell PassData) (k : Kept i n protect s) → ServesAll k.now
serves_now i n protect s k = run_serves i k.order k.now (serves_start i n k.start) k.story.way.ran

pub sizes_now : (i : MachineData) (n : ℕ) (protect : Bool) (s : State Cell PassData) (k : Kept i n protect s) → KeepsSizes i k.order k.now
sizes_now i n protect s k = run_keeps i k.order k.now (serves_start i n k.start) k.story.way.ran

-- the clock is far from its greatest value
pub clock_room : (i : MachineData) (n : ℕ) (protect : Bool) (s : State Cell PassData) (k : Kept i n protect s) → k.now.clock + 1 < 2 ^ 64
clock_room i n protect s k =
    let most = way_length i n (record { machine = k.now; order = k.order }) k.start.rest k.story.way in
    let counted = (sizes_now i n protect s k).clock in
    let clock = k.start.rest.clock in
    let vcpus : length i.vcpus ≤ MAX_VCPUS = (let c = k.start.machine.vcpus in let h = k.start.machine.shape.vcpus.1 in omega (arith, c, h)) in
    let run : 2 * n ≤ 2 * MAX_PHASE = (let h = k.start.run in omega (arith, h)) in
    let product : 2 * n * length i.vcpus ≤ 2 * MAX_PHASE * MAX_VCPUS = mul-le-mul run vcpus in
    omega (arith, most, counted, clock, product)

-- each page is whole
pub pages_whole : (i : MachineData) (n : ℕ) (protect : Bool) (s : State Cell PassData) (k : Kept i n protect s) (p : ℕ) → p < length k.book.writable → length (page_of k.now p) ≡ PAGE
pages_whole i n protect s k p within =
    let shape = (sizes_now i n protect s k).shape in
    let pages = k.flagged.writable ∙ ap total_pages_of (sym shape) in
    length-page_of k.now p (serves_now i n protect s k).ram (omega (arith, within, pages))

module _ (i : MachineData) (n : ℕ) (protect : Bool) (s : State Cell PassData) (k : Kept i n protect s) (id : ℕ) (p : PassData) (at : get_elem? s.views id ≡ some p) where
  -- the role and the hand of the pass that steps
  pub role_at : get_elem? (map role_of s.views) id ≡ some p.role
  role_at = map_place role_of s.views id p at

  pub hand_at : get_elem? (map hand_of s.views) id ≡ some (hand_of p)
  hand_at = map_place hand_of s.views id p at

  -- a step that leaves the role leaves all roles
  pub same_roles : (w : PassData) → w.role ≡ p.role → map role_of (set s.views id w) ≡ map role_of s.views
  same_roles w same = map_unseen role_of s.views id p w at same

  -- ---- Take

  -- what is known of a cell that has what is due
  booked_cell : (b : Book) (c : ℕ) (x : Cell) → b ≡ k.book → due k.now k.book.writable k.queue c ≡ Some x → IsBookedCell b c x
  booked_cell b c (cells.Page bytes phase) same fits =
      let page = is_page k.now k.book.writable k.queue c bytes phase fits in
      subst (λ (y : Book). IsBookedCell y c (cells.Page bytes phase)) (sym same) (record {
        flag = page.flag;
        stands = page.stands;
        is_in = sym page.is_in;
        holds = λ off.
            sym page.holds
            ∙ k.flagged.instant c (get_protected k.book.writable c (page.stands ∙ ap Some off))
            ∙ ap (λ (m : MachineData). page_of m c) (sym k.booked.instant);
      })
  booked_cell b c (cells.Serial x) same fits = tt
  booked_cell b c (cells.Timer x) same fits = tt
  booked_cell b c (cells.Faults x) same fits = tt

  found_cell : (r : Role) (c : ℕ) (x : Cell) → p.role ≡ r → due k.now k.book.writable k.queue c ≡ Some x → IsFound r c x
  found_cell Spent c x is fits = tt
  found_cell (Working t) c x is fits =
      let told = (k.story.told id 0 t (working_task (map role_of s.views) id t (role_at ∙ ap some is))).1 in
      let pages : length k.book.writable ≡ total_pages_of t.shape = k.flagged.writable ∙ ap total_pages_of (sym told.shape) in
      subst (λ (n : ℕ). IsKind n c x) pages (due_kind k.now k.book.writable k.queue c x (pages_whole i n protect s k) fits)
  found_cell (Saving b) c x is fits =
      let first = is_first i n k.book b (map role_of s.views) id k.booked (role_at ∙ ap some is) in
      let pages : length k.book.writable ≡ total_pages_of b.instant.shape =
      k.flagged.writable ∙ ap (λ (m : MachineData). total_pages_of m.shape) (sym k.booked.instant) ∙ ap (λ (y : Book). total_pages_of y.instant.shape) (sym first.1) in
      (subst (λ (n : ℕ). IsKind n c x) pages (due_kind k.now k.book.writable k.queue c x (pages_whole i n protect s k) fits), booked_cell b c x first.1 fits)

  -- a cell whose word is 0 is taken
  pub takes_home : (c : ℕ) → CanTake p c → c < length s.homes → slice_index s.words (c + 1) ≡ 0 →
      (x : Cell) × (get_elem? s.homes c ≡ some (some x)) × IsFound p.role c x
      × Kept i n protect (record { words = set s.words (c + 1) (number_of p.role); homes = set s.homes c none; views = set s.views id (with_cell p c x) })
  takes_home c can within zero_word =
      let free = free_cell (due k.now k.book.writable k.queue) s.words s.homes (map hand_of s.views) k.locks c within zero_word in
      let x = free.content in
      let w = with_cell p c x in
      let roles = same_roles w refl in
      let locks = takes_cell (due k.now k.book.writable k.queue) s.words s.homes (map hand_of s.views) k.locks c id (hand_of p) x hand_at can.number within zero_word free.home in (
        x,
        free.home,
        found_cell p.role c x refl free.fits,
        record {
          order = k.order;
          now = k.now;
          queue = k.queue;
          book = k.book;
          start = k.start;
          cells = length-set s.homes c none ∙ k.cells;
          clock = get_or-set_other s.words (c + 1) 0 (number_of p.role) 0 (λ e. omega (arith, e)) ∙ k.clock;
          locks = subst (Locks (due k.now k.book.writable k.queue) (set s.words (c + 1) (number_of p.role)) (set s.homes c none)) (sym (map_write hand_of s.views id w)) locks;
          booked = subst (IsBooked i n k.book) (sym roles) k.booked;
          story = subst (Story i n k.order k.now k.book.split) (sym roles) k.story;
          flagged = k.flagged;
          faults = subst (Faults i k.order k.book.writable k.queue k.book.picked) (sym roles) k.faults;
        },
      )

  -- a cell that another pass holds is found held
  pub finds_held : (c : ℕ) → CanTake p c → c < length s.homes → slice_index s.words (c + 1) ≢ 0 →
      (slice_index s.words (c + 1) ≢ number_of p.role)
      × Kept i n protect (record { words = set s.words (c + 1) (slice_index s.words (c + 1)); homes = s.homes; views = set s.views id (with_found p c) })
  finds_held c can within held =
      let w = with_found p c in
      let roles = same_roles w refl in
      let words = set-get_or s.words (c + 1) 0 in (
        others_number (due k.now k.book.writable k.queue) s.words s.homes (map hand_of s.views) k.locks c id (hand_of p) hand_at can.number within held can.free,
        record {
          order = k.order;
          now = k.now;
          queue = k.queue;
          book = k.book;
          start = k.start;
          cells = k.cells;
          clock = ap (λ ws. slice_index ws 0) words ∙ k.clock;
          locks =
              subst (λ (ws : List ℕ). Locks (due k.now k.book.writable k.queue) ws s.homes (map hand_of (set s.views id w))) (sym words)
              (subst (Locks (due k.now k.book.writable k.queue) s.words s.homes) (sym (map_unseen hand_of s.views id p w at refl)) k.locks);
          booked = subst (IsBooked i n k.book) (sym roles) k.booked;
          story = subst (Story i n k.order k.now k.book.split) (sym roles) k.story;
          flagged = k.flagged;
          faults = subst (Faults i k.order k.book.writable k.queue k.book.picked) (sym roles) k.faults;
        },
      )

  -- ---- Give

  -- the cell that was taken last goes home with its value due
  pub gives_home : (c : ℕ) (x : Cell) (below : List (ℕ × Cell)) → p.held ≡ (c, x) ∷ below →
      Kept i n protect (record { words = set s.words (c + 1) 0; homes = set s.homes c (some x); views = set s.views id (without_cell p) })
  gives_home c x below top =
      let w = without_cell p in
      let roles = same_roles w refl in
      let locks = gives_cell (due k.now k.book.writable k.queue) s.words s.homes (map hand_of s.views) k.locks c id (hand_of p) x below hand_at top in
      let hand : hand_of w ≡ record { number = number_of p.role; cells = below } = ap (λ xs. record { number = number_of p.role; cells = rest xs }) top in
      record {
        order = k.order;
        now = k.now;
        queue = k.queue;
        book = k.book;
        start = k.start;
        cells = length-set s.homes c (some x) ∙ k.cells;
        clock = get_or-set_other s.words (c + 1) 0 0 0 (λ e. omega (arith, e)) ∙ k.clock;
        locks = subst (Locks (due k.now k.book.writable k.queue) (set s.words (c + 1) 0) (set s.homes c (some x))) (sym (map_write hand_of s.views id w ∙ ap (set (map hand_of s.views) id) hand)) locks;
        booked = subst (IsBooked i n k.book) (sym roles) k.booked;
        story = subst (Story i n k.order k.now k.book.split) (sym roles) k.story;
        flagged = k.flagged;
        faults = subst (Faults i k.order k.book.writable k.queue k.book.picked) (sym roles) k.faults;
      }
