-- The steps of the queue: its front is picked, it is found empty, or a page is queued by a stop.
use Rattle.std.proofs.Common.{◌≡◌, inl, inr, ℕ, ◌<◌, Bool, true, eqb, List, [], ◌∷◌, ◌++◌, All, length, drop, map, set, slice_index, Some, refl, sym, ◌∙◌, ap, subst, arith}
use mathlib.Core.Option.{some}
use lib.ListN.{get_elem?}
use Rattle.std.proofs.lemmas.Bool.{eq-eqb, or_left}
use Rattle.std.proofs.lemmas.List.{length-set}
use Rattle.std.proofs.lemmas.Option.{slice_get_within}
use Rattle.atomic_table.specs.Table.{State}
use Rattle.ram_block.specs.PageLinks.{is_listed}
use Rattle.flat_machine.specs.Machine.{MachineData}
use Rattle.page_cell.specs.Core.{is_protected}
use Rattle.page_cell.specs.declared.cell.Cell.{Cell}
use Rattle.page_cell.specs.declared.cell.Cell.TheVariants as cells
use Rattle.page_cell.specs.declared.phase.Phase.TheVariants.{Protected}
use Rattle.wp_fault.specs.Queue.{QueueData, queued}
use Rattle.bus_rule.specs.Faults.{Faults}
use Rattle.bus_rule.specs.Kept.{Kept, IsFlagged, queue_number, due}
use Rattle.bus_rule.specs.Locks.{Hand, Has, Locks}
use Rattle.bus_rule.specs.Plays.{with_content, with_stop, after_stop, CanStop, with_picked, with_empty, book_after_pick, after_pick, CanPick}
use Rattle.bus_rule.specs.Story.{IsBooked, IsTold, Story}
use Rattle.bus_rule.specs.Views.{Task, Book, Role, Working, Saving, PassData, number_of, hand_of, role_of}
use Rattle.bus_rule.proofs.Dues.{is_page, is_queue, due_queue, due_not_queue}
use Rattle.bus_rule.proofs.Faulted.{Seeks, faults_stop, seeks_picked, seeks_same}
use Rattle.bus_rule.proofs.Joined.{WorkingIsNone, booked_other, not_first, is_first}
use Rattle.bus_rule.proofs.Lists.{map_write}
use Rattle.bus_rule.proofs.Marks as marks
use Rattle.bus_rule.proofs.Steps.{role_at, hand_at}
use Rattle.bus_rule.proofs.Tasks.{working_task}
use Rattle.bus_rule.proofs.Told.{told_stop}

module _ (i : MachineData) (n : ℕ) (protect : Bool) (s : State Cell PassData) (k : Kept i n protect s) (id : ℕ) (p : PassData) (at : get_elem? s.views id ≡ some p) where
  abbrev marked : ℕ → PassData → State Cell PassData
  marked = marks.marked i n protect s k id p at

  abbrev hand_with : List (ℕ × Cell) → ℕ → Hand Cell
  hand_with held m = record { number = m; cells = held }

  top_fits : (c : ℕ) (x : Cell) (below : List (ℕ × Cell)) → p.held ≡ (c, x) ∷ below → due k.now k.book.writable k.queue c ≡ Some x
  top_fits = marks.top_fits i n protect s k id p at

  -- the front of the queue is picked, or it is found empty
  pub picks : (b : Book) (c : ℕ) (q : QueueData) (word : ℕ) → CanPick p b c q → Kept i n protect (marked word (after_pick p b q))
  picks b c q word can = pick_of q.list refl
    where
      first : (id ≡ 0) × (b ≡ k.book)
      first = is_first i n k.book b (map role_of s.views) id k.booked (role_at i n protect s k id p at ∙ ap some can.role)

      is : (c ≡ queue_number (length k.book.writable)) × (record { pages = length k.book.writable; list = k.queue } ≡ q)
      is = is_queue k.now k.book.writable k.queue c q (top_fits c (cells.Faults q) can.top.0 can.top.1)

      locks_after : (ws : List Bool) (rest : List ℕ) → ws ≡ k.book.writable → drop 1 q.list ≡ rest →
          Locks (due k.now ws rest) (set s.words word (slice_index s.words word)) s.homes (map hand_of (set s.views id (after_pick p b q)))
      locks_after ws rest same left =
          let w = after_pick p b q in
          let y = cells.Faults (record q { list = drop 1 q.list }) in
          subst (λ (xs : List Bool). Locks (due k.now xs rest) (set s.words word (slice_index s.words word)) s.homes (map hand_of (set s.views id w))) (sym same)
          (marks.marked_locks i n protect s k id p at k.book.writable rest word c (cells.Faults q) y can.top.0 w can.top.1
          (due_queue k.now k.book.writable rest c is.0
          ∙ ap (λ l. Some (cells.Faults (record { pages = length k.book.writable; list = l }))) (sym left)
          ∙ ap (λ m. Some (cells.Faults (record { pages = m; list = drop 1 q.list }))) (ap (λ (d : QueueData). d.pages) is.1))
          (λ d other. due_not_queue k.now k.book.writable k.queue rest d (λ e. other (e ∙ sym is.0)))
          (ap (hand_with (with_content p.held y)) (number_of_pick q.list ∙ ap number_of (sym can.role))))
        where
          number_of_pick : (l : List ℕ) → number_of (Saving (book_after_pick b l)) ≡ number_of (Saving b)
          number_of_pick [] = refl
          number_of_pick (page ∷ l) = refl

      flagged : (picked : List Bool) (fronts : List ℕ) → length picked ≡ length b.picked → IsFlagged i protect k.now (record b { picked = picked; fronts = fronts })
      flagged picked fronts same = record {
        writable = ap (λ (y : Book). length y.writable) first.1 ∙ k.flagged.writable;
        picked = same ∙ ap (λ (y : Book). length y.picked) first.1 ∙ k.flagged.picked;
        unprotected = λ e. subst (λ (y : Book). All (λ w. w ≡ true) y.writable) (sym first.1) (k.flagged.unprotected e);
        instant = λ q protected. k.flagged.instant q (ap (λ (y : Book). is_protected y.writable q) (sym first.1) ∙ protected);
      }

      seeks : (rest : List ℕ) (picked : List Bool) → Seeks k.book.writable k.book.writable k.queue rest k.book.picked picked → Seeks k.book.writable b.writable k.queue rest k.book.picked picked
      seeks rest picked = subst (λ (ws : List Bool). Seeks k.book.writable ws k.queue rest k.book.picked picked) (ap (λ (y : Book). y.writable) (sym first.1))

      listed : (l : List ℕ) → q.list ≡ l → k.queue ≡ l
      listed l list = ap (λ (d : QueueData). d.list) is.1 ∙ list

      pick_of : (l : List ℕ) → q.list ≡ l → Kept i n protect (marked word (after_pick p b q))
      pick_of [] list =
          let empty = listed [] list in
          marks.book_kept i n protect s k id p at b (with_empty b) [] word (after_pick p b q) can.role (ap (λ l. Saving (book_after_pick b l)) list) refl refl refl refl
          (locks_after b.writable [] (ap (λ (y : Book). y.writable) first.1) (ap (drop 1) list))
          (record {
            writable = (flagged b.picked b.fronts refl).writable;
            picked = (flagged b.picked b.fronts refl).picked;
            unprotected = (flagged b.picked b.fronts refl).unprotected;
            instant = (flagged b.picked b.fronts refl).instant;
          })
          (seeks [] b.picked (subst (λ (l : List ℕ). Seeks k.book.writable k.book.writable k.queue l k.book.picked b.picked) empty
          (subst (λ (ps : List Bool). Seeks k.book.writable k.book.writable k.queue k.queue k.book.picked ps) (ap (λ (y : Book). y.picked) (sym first.1)) (seeks_same k.book.writable k.queue k.book.picked))))
      pick_of (page ∷ rest) list =
          let front = listed (page ∷ rest) list in
          let here : is_listed k.queue page ≡ true = ap (λ l. is_listed l page) front ∙ or_left (eqb page page) (is_listed rest page) (eq-eqb page page refl) in
          let within = k.faults.below page here in
          marks.book_kept i n protect s k id p at b (with_picked b page) rest word (after_pick p b q) can.role (ap (λ l. Saving (book_after_pick b l)) list) refl refl refl refl
          (locks_after b.writable rest (ap (λ (y : Book). y.writable) first.1) (ap (drop 1) list))
          (flagged (set b.picked page true) (b.fronts ++ page ∷ []) (length-set b.picked page true))
          (seeks rest (set b.picked page true) (subst (λ (ps : List Bool). Seeks k.book.writable k.book.writable k.queue rest k.book.picked (set ps page true)) (ap (λ (y : Book). y.picked) (sym first.1))
          (subst (λ (l : List ℕ). Seeks k.book.writable k.book.writable l rest k.book.picked (set k.book.picked page true)) (sym front) (seeks_picked k.book.writable page rest k.book.picked within))))

  -- ---- A stop

  pub stops : (t : Task) (c page : ℕ) (bytes : List ℕ) (q : QueueData) (word : ℕ) → CanStop p t c page bytes q → Kept i n protect (marked word (after_stop p t page q))
  stops t c page bytes q word can =
      let roles_now = map role_of s.views in
      let working : get_elem? roles_now id ≡ some (Working t) = role_at i n protect s k id p at ∙ ap some can.role in
      let told = k.story.told id 0 t (working_task roles_now id t working) in
      let top = can.top.1 in
      let is = is_queue k.now k.book.writable k.queue c q (top_fits c (cells.Faults q) ((page, cells.Page bytes Protected) ∷ can.top.0) top) in
      let under : Has p.held page (cells.Page bytes Protected) = subst (λ (cs : List (ℕ × Cell)). Has cs page (cells.Page bytes Protected)) (sym top) (inr (inl refl)) in
      let fits = (k.locks.each_hand id (hand_of p) page (cells.Page bytes Protected) (hand_at i n protect s k id p at) under).fits in
      let flag = is_page k.now k.book.writable k.queue page bytes Protected fits in
      let in_flags = slice_get_within k.book.writable page flag.flag flag.stands in
      let same_length = k.flagged.writable ∙ sym k.flagged.picked in
      let within : page < length k.book.picked = omega (arith, in_flags, same_length) in
      let w = after_stop p t page q in
      let queue = queued k.queue page in
      let lists : queued q.list page ≡ queue = ap (λ (d : QueueData). queued d.list page) (sym is.1) in
      let y = cells.Faults (record q { list = queued q.list page }) in
      let roles : map role_of (set s.views id w) ≡ set roles_now id (Working (with_stop t page)) = map_write role_of s.views id w in
      record {
        order = k.order;
        now = k.now;
        queue = queue;
        book = k.book;
        start = k.start;
        cells = k.cells;
        clock = marks.clock_marked i n protect s k id p at word;
        locks = marks.marked_locks i n protect s k id p at k.book.writable queue word c (cells.Faults q) y ((page, cells.Page bytes Protected) ∷ can.top.0) w top
            (due_queue k.now k.book.writable queue c is.0
            ∙ ap (λ l. Some (cells.Faults (record { pages = length k.book.writable; list = l }))) (sym lists)
            ∙ ap (λ m. Some (cells.Faults (record { pages = m; list = queued q.list page }))) (ap (λ (d : QueueData). d.pages) is.1))
            (λ d other. due_not_queue k.now k.book.writable k.queue queue d (λ e. other (e ∙ sym is.0)))
            (ap (λ (r : Role). record { number = number_of r; cells = with_content p.held y }) (sym can.role));
        booked = subst (IsBooked i n k.book) (sym roles)
            (booked_other i n k.book roles_now id (Working t) (Working (with_stop t page)) k.booked working (not_first i n k.book roles_now id t k.booked working) (WorkingIsNone (with_stop t page)));
        story = subst (Story i n k.order k.now k.book.split) (sym roles)
            (told_stop i n k.order k.now k.book.split roles_now id t (with_stop t page) k.story working refl (stopped_told t page told.1));
        flagged = k.flagged;
        faults = subst (Faults i k.order k.book.writable queue k.book.picked) (sym roles)
            (faults_stop i k.order k.book.writable k.queue k.book.picked roles_now id t page k.faults working can.writes within);
      }
    where
      stopped_told : (u : Task) (q : ℕ) → IsTold i n k.order k.now u → IsTold i n k.order k.now (with_stop u q)
      stopped_told u q was = record {
        shape = was.shape;
        start = was.start;
        run = was.run;
        until = was.until;
        vcpu = was.vcpu;
        numbers = was.numbers;
        shows = was.shows;
      }
