-- A mark of the cell that was taken last; and the release of a page.
use Rattle.std.proofs.Common.{◌≡◌, ◌≢◌, inl, inr, ℕ, ◌+◌, ◌<◌, Bool, true, false, List, ◌∷◌, All, length, map, set, slice_index, Some, refl, sym, ◌∙◌, ap, subst, arith}
use Rattle.std.specs.List.{slice_get}
use mathlib.Core.Option.{some}
use lib.ListN.{get_elem?}
use Rattle.std.proofs.lemmas.Bool.{cases_eq}
use Rattle.std.proofs.lemmas.List.{length-set, set-get_or}
use Rattle.std.proofs.lemmas.Option.{same_Some, slice_get_within}
use Rattle.atomic_table.specs.Table.{State}
use Rattle.flat_machine.specs.Machine.{MachineData}
use Rattle.flat_machine.proofs.Events.{slice_get-set_same, slice_get-set_other}
use Rattle.flat_machine.proofs.Outcomes.{All-slice_get}
use Rattle.page_cell.specs.Core.{is_protected}
use Rattle.page_cell.specs.declared.cell.Cell.{Cell}
use Rattle.page_cell.specs.declared.cell.Cell.TheVariants as cells
use Rattle.page_cell.specs.declared.phase.Phase.TheVariants.{Protected, Writable}
use Rattle.page_cell.proofs.Instant.{protected_get, get_protected}
use Rattle.bus_rule.specs.Faults.{Faults}
use Rattle.bus_rule.specs.Kept.{Kept, IsFlagged, due}
use Rattle.bus_rule.specs.Locks.{Has, Locks}
use Rattle.bus_rule.specs.Plays.{with_content, with_released, after_release, CanRelease}
use Rattle.bus_rule.specs.Story.{IsBooked, Story}
use Rattle.bus_rule.specs.Views.{Book, Role, Saving, PassData, number_of, hand_of, role_of}
use Rattle.bus_rule.proofs.Dues.{is_page, due_released, due_not_released, protected_flag}
use Rattle.bus_rule.proofs.Faulted.{Seeks, faults_same, faults_sought, seeks_released}
use Rattle.bus_rule.proofs.Joined.{is_first, rebooked}
use Rattle.bus_rule.proofs.Lists.{map_write}
use Rattle.bus_rule.proofs.Locked.{changes_cell}
use Rattle.bus_rule.proofs.Steps.{role_at, hand_at}
use Rattle.bus_rule.proofs.Told.{told_same}

-- ---- Flags

-- a page that is protected after one was released was protected, and is another
protected_before : (flags : List Bool) (p q : ℕ) → p < length flags → is_protected (set flags p true) q ≡ true → (q ≢ p) × (is_protected flags q ≡ true)
protected_before flags p q within is =
    let off = protected_get (set flags p true) q is in
    elim (cases_eq q p) as (λ _. (q ≢ p) × (is_protected flags q ≡ true)) [
      | inl here ↦
          (let e : true ≡ false = same_Some true false (sym (slice_get-set_same flags p true within) ∙ ap (slice_get (set flags p true)) (sym here) ∙ off) in absurd (cc e))
      | inr other ↦ (other, get_protected flags q (sym (slice_get-set_other flags p q true other) ∙ off))
    ]

-- where no flag was off, none is
all_set : (flags : List Bool) (p : ℕ) → All (λ w. w ≡ true) flags → slice_get flags p ≡ Some false → ⊥
all_set flags p all off = (let e = All-slice_get (λ w. w ≡ true) flags p false all off in cc e)

module _ (i : MachineData) (n : ℕ) (protect : Bool) (s : State Cell PassData) (k : Kept i n protect s) (id : ℕ) (p : PassData) (at : get_elem? s.views id ≡ some p) where
  -- the cell that was taken last has what is due
  pub top_fits : (c : ℕ) (x : Cell) (below : List (ℕ × Cell)) → p.held ≡ (c, x) ∷ below → due k.now k.book.writable k.queue c ≡ Some x
  top_fits c x below top =
      (k.locks.each_hand id (hand_of p) c x (hand_at i n protect s k id p at) (subst (λ (cs : List (ℕ × Cell)). Has cs c x) (sym top) (inl refl))).fits

  -- the locks, when what is due for that cell alone changes
  pub marked_locks : (writable : List Bool) (queue : List ℕ) (word c : ℕ) (x y : Cell) (below : List (ℕ × Cell)) (w : PassData) → p.held ≡ (c, x) ∷ below →
      due k.now writable queue c ≡ Some y → ((d : ℕ) → d ≢ c → due k.now writable queue d ≡ due k.now k.book.writable k.queue d) →
      hand_of w ≡ record { number = number_of p.role; cells = with_content p.held y } →
      Locks (due k.now writable queue) (set s.words word (slice_index s.words word)) s.homes (map hand_of (set s.views id w))
  marked_locks writable queue word c x y below w top fits others hand =
      let same = set-get_or s.words word 0 in
      let is : hand_of w ≡ record { number = number_of p.role; cells = (c, y) ∷ below } =
      hand ∙ ap (λ (cs : List (ℕ × Cell)). record { number = number_of p.role; cells = with_content cs y }) top in
      subst (Locks (due k.now writable queue) (set s.words word (slice_index s.words word)) s.homes)
      (sym (map_write hand_of s.views id w ∙ ap (set (map hand_of s.views) id) is))
      (changes_cell (due k.now k.book.writable k.queue) s.words s.homes (map hand_of s.views) k.locks (due k.now writable queue) (set s.words word (slice_index s.words word)) c id (hand_of p) x y below
      (hand_at i n protect s k id p at) top fits others (ap length same) (λ d. ap (λ ws. slice_index ws (d + 1)) same))

  -- the state after a mark of a cell
  abbrev pub marked : ℕ → PassData → State Cell PassData
  marked word w = record { words = set s.words word (slice_index s.words word); homes = s.homes; views = set s.views id w }

  pub clock_marked : (word : ℕ) → slice_index (set s.words word (slice_index s.words word)) 0 ≡ k.now.clock
  clock_marked word = ap (λ ws. slice_index ws 0) (set-get_or s.words word 0) ∙ k.clock

  -- ---- The saver's book

  -- the saver writes in its book, of pages alone
  pub book_kept : (b c : Book) (queue : List ℕ) (word : ℕ) (w : PassData) → p.role ≡ Saving b → w.role ≡ Saving c → c.instant ≡ b.instant → c.run ≡ b.run → c.split ≡ b.split → c.joined ≡ b.joined →
      Locks (due k.now c.writable queue) (set s.words word (slice_index s.words word)) s.homes (map hand_of (set s.views id w)) →
      IsFlagged i protect k.now c → Seeks k.book.writable c.writable k.queue queue k.book.picked c.picked → Kept i n protect (marked word w)
  book_kept b c queue word w was is instant run split joined locks flagged seeks =
      let first = is_first i n k.book b (map role_of s.views) id k.booked (role_at i n protect s k id p at ∙ ap some was) in
      let role : get_elem? (map role_of s.views) id ≡ some (Saving b) = role_at i n protect s k id p at ∙ ap some was in
      let roles : map role_of (set s.views id w) ≡ set (map role_of s.views) id (Saving c) = map_write role_of s.views id w ∙ ap (set (map role_of s.views) id) is in
      let first_roles : map role_of (set s.views id w) ≡ set (map role_of s.views) 0 (Saving c) = roles ∙ ap (λ j. set (map role_of s.views) j (Saving c)) first.0 in
      let split_now : k.book.split ≡ c.split = ap (λ (y : Book). y.split) (sym first.1) ∙ sym split in
      record {
        order = k.order;
        now = k.now;
        queue = queue;
        book = c;
        start = k.start;
        cells = k.cells;
        clock = clock_marked word;
        locks = locks;
        booked = subst (IsBooked i n c) (sym first_roles)
            (rebooked i n k.book c (map role_of s.views) k.booked (instant ∙ ap (λ (y : Book). y.instant) first.1) (run ∙ ap (λ (y : Book). y.run) first.1)
            (let h = k.booked.split in omega (arith, h, split_now)));
        story = subst (Story i n k.order k.now c.split) (sym roles)
            (told_same i n k.order k.now c.split (map role_of s.views) id (Saving b) (Saving c) (subst (λ (m : ℕ). Story i n k.order k.now m (map role_of s.views)) split_now k.story) role joined);
        flagged = flagged;
        faults = subst (Faults i k.order c.writable queue c.picked) (sym roles)
            (faults_same i k.order c.writable queue c.picked (map role_of s.views) id (Saving b) (Saving c)
            (faults_sought i k.order k.book.writable c.writable k.queue queue k.book.picked c.picked (map role_of s.views) k.faults seeks) role joined);
      }

  -- a page is released
  pub releases : (b : Book) (page : ℕ) (bytes : List ℕ) (word : ℕ) → CanRelease p b page bytes → Kept i n protect (marked word (after_release p b page bytes))
  releases b page bytes word can =
      let first = is_first i n k.book b (map role_of s.views) id k.booked (role_at i n protect s k id p at ∙ ap some can.role) in
      let fits = top_fits page (cells.Page bytes Protected) can.top.0 can.top.1 in
      let is = is_page k.now k.book.writable k.queue page bytes Protected fits in
      let within = slice_get_within k.book.writable page is.flag is.stands in
      let off : slice_get k.book.writable page ≡ Some false = is.stands ∙ ap Some (protected_flag is.flag is.is_in) in
      let w = after_release p b page bytes in
      let flags : set b.writable page true ≡ set k.book.writable page true = ap (λ (y : Book). set y.writable page true) first.1 in
      let back : (ws : List Bool) → ws ≡ set k.book.writable page true → Locks (due k.now ws k.queue) (set s.words word (slice_index s.words word)) s.homes (map hand_of (set s.views id w)) = λ ws e.
      subst (λ (xs : List Bool). Locks (due k.now xs k.queue) (set s.words word (slice_index s.words word)) s.homes (map hand_of (set s.views id w))) (sym e)
      (marked_locks (set k.book.writable page true) k.queue word page (cells.Page bytes Protected) (cells.Page bytes Writable) can.top.0 w can.top.1
      (due_released k.now k.book.writable k.queue page within ∙ ap (λ bs. Some (cells.Page bs Writable)) is.holds)
      (λ d other. due_not_released k.now k.book.writable k.queue page d other)
      (ap (λ (r : Role). record { number = number_of r; cells = with_content p.held (cells.Page bytes Writable) }) (sym can.role))) in
      book_kept b (with_released b page) k.queue word w can.role refl refl refl refl refl (back (set b.writable page true) flags)
      (record {
        writable = ap length flags ∙ length-set k.book.writable page true ∙ k.flagged.writable;
        picked = ap (λ (y : Book). length y.picked) first.1 ∙ k.flagged.picked;
        unprotected = λ e. absurd (all_set k.book.writable page (k.flagged.unprotected e) off);
        instant = λ q protected.
            (let before = protected_before k.book.writable page q within (ap (λ ws. is_protected ws q) (sym flags) ∙ protected) in
            k.flagged.instant q before.1);
      })
      (subst (λ (ws : List Bool). Seeks k.book.writable ws k.queue k.queue k.book.picked b.picked) (sym flags)
      (subst (λ (ps : List Bool). Seeks k.book.writable (set k.book.writable page true) k.queue k.queue k.book.picked ps) (ap (λ (y : Book). y.picked) (sym first.1))
      (seeks_released k.book.writable k.queue k.book.picked page)))
