-- The steps that make and end passes: the pass of the next vCPU is split off, and the saver's takes one in.
use Rattle.std.proofs.Common.{◌≡◌, ◌≢◌, ℕ, ◌+◌, ◌<◌, ◌≤◌, Bool, List, [], ◌∷◌, ◌++◌, length, get_or, map, set, Some, refl, sym, ◌∙◌, ap, subst, arith}
use Rattle.std.specs.List.{slice_get}
use mathlib.Core.Option.{some}
use lib.ListN.{get_elem?}
use Rattle.std.proofs.lemmas.List.{map-append}
use Rattle.std.proofs.lemmas.Option.{slice_get-get_or}
use Rattle.atomic_table.specs.Table.{State}
use Rattle.atomic_table.proofs.Lists.{set_else}
use Rattle.rv64i_step.specs.Vcpu.{boot_vcpu}
use Rattle.flat_machine.specs.Machine.{MachineData}
use Rattle.flat_machine.specs.Run.{steps_of}
use Rattle.page_cell.specs.declared.cell.Cell.{Cell}
use Rattle.bus_rule.specs.Faults.{Faults}
use Rattle.bus_rule.specs.Kept.{Kept, IsFlagged, due}
use Rattle.bus_rule.specs.Locks.{Hand, Locks}
use Rattle.bus_rule.specs.Plays.{spent_pass, first_task, role_for, next_role, next_pass, with_split, after_split, with_joined, after_join}
use Rattle.bus_rule.specs.Story.{IsBooked, Story}
use Rattle.bus_rule.specs.Views.{Task, Book, Role, Spent, Working, Saving, PassData, number_of, hand_of, role_of}
use Rattle.bus_rule.proofs.Faulted.{faults_moved, faults_same, faults_more}
use Rattle.bus_rule.proofs.Joined.{SpentIsNone, roles_joined, was_task, goes_to, told_join, booked_other, is_first, rebooked, booked_more}
use Rattle.bus_rule.proofs.Lists.{map_place, map_came, map_write, map_unseen}
use Rattle.bus_rule.proofs.Locked.{adds_hand, drops_hand}
use Rattle.bus_rule.proofs.Steps.{role_at}
use Rattle.bus_rule.proofs.Tasks.{working_task}
use Rattle.bus_rule.proofs.Told.{told_same, told_split, told_first}

-- a change of the book that no flag sees
flagged_same : (i : MachineData) (protect : Bool) (now : MachineData) (b c : Book) → c.writable ≡ b.writable → c.picked ≡ b.picked → IsFlagged i protect now b → IsFlagged i protect now c
flagged_same i protect now b c writable picked was =
    let moved = subst (λ (ws : List Bool). IsFlagged i protect now (record b { writable = ws })) (sym writable) (record {
      writable = was.writable;
      picked = was.picked;
      unprotected = was.unprotected;
      instant = was.instant;
    }) in
    record {
      writable = moved.writable;
      picked = ap length picked ∙ was.picked;
      unprotected = moved.unprotected;
      instant = moved.instant;
    }

module _ (i : MachineData) (n : ℕ) (protect : Bool) (s : State Cell PassData) (k : Kept i n protect s) (id : ℕ) (p : PassData) (at : get_elem? s.views id ≡ some p) (b : Book) (role : p.role ≡ Saving b) where
  saving : get_elem? (map role_of s.views) id ≡ some (Saving b)
  saving = role_at i n protect s k id p at ∙ ap some role

  first : (id ≡ 0) × (b ≡ k.book)
  first = is_first i n k.book b (map role_of s.views) id k.booked saving

  -- the book as the saver writes it, in the roles
  rebooked_here : (c : Book) → c.instant ≡ b.instant → c.run ≡ b.run → c.split ≤ length i.vcpus → IsBooked i n c (set (map role_of s.views) id (Saving c))
  rebooked_here c instant run split =
      subst (λ (j : ℕ). IsBooked i n c (set (map role_of s.views) j (Saving c))) (sym first.0)
      (rebooked i n k.book c (map role_of s.views) k.booked (instant ∙ ap (λ (y : Book). y.instant) first.1) (run ∙ ap (λ (y : Book). y.run) first.1) split)

  writable_here : k.book.writable ≡ b.writable
  writable_here = ap (λ (y : Book). y.writable) (sym first.1)

  picked_here : k.book.picked ≡ b.picked
  picked_here = ap (λ (y : Book). y.picked) (sym first.1)

  -- ---- Split

  -- no hand has the next number
  fresh : b.split < length i.vcpus → (j : ℕ) (g : Hand Cell) → get_elem? (map hand_of s.views) j ≡ some g → 0 < g.number → g.number ≢ b.split + 1
  fresh more j g there positive same =
      let came = map_came hand_of s.views j g there in
      let number : g.number ≡ number_of came.0.role = ap (λ (h : Hand Cell). h.number) (sym came.2) in
      numbered came.0.role (map_place role_of s.views j came.0 came.1) (omega (arith, positive, number)) (sym number ∙ same)
    where
      numbered : (r : Role) → get_elem? (map role_of s.views) j ≡ some r → 0 < number_of r → number_of r ≡ b.split + 1 → ⊥
      numbered Spent is positive same = omega (arith, positive)
      numbered (Working t) is positive same =
          let h = (k.story.told j 0 t (working_task (map role_of s.views) j t is)).0 in
          let e : k.book.split ≡ b.split = ap (λ (y : Book). y.split) (sym first.1) in
          omega (arith, h, e, same)
      numbered (Saving c) is positive same =
          let its = is_first i n k.book c (map role_of s.views) j k.booked is in
          let vcpus : c.instant.shape.vcpus ≡ i.shape.vcpus = ap (λ (y : Book). y.instant.shape.vcpus) its.1 ∙ ap (λ (m : MachineData). m.shape.vcpus) k.booked.instant in
          let count = k.start.machine.vcpus in
          omega (arith, vcpus, count, more, same)

  pub splits : b.split < length b.instant.vcpus → Kept i n protect (record { words = s.words; homes = s.homes; views = set s.views id (after_split p) ++ next_pass p ∷ [] })
  splits some_left =
      let instant : b.instant ≡ i = ap (λ (y : Book). y.instant) first.1 ∙ k.booked.instant in
      let more : b.split < length i.vcpus = (let e : length b.instant.vcpus ≡ length i.vcpus = ap (λ (m : MachineData). length m.vcpus) instant in omega (arith, some_left, e)) in
      let v = get_or b.instant.vcpus b.split (boot_vcpu 0) in
      let there : slice_get b.instant.vcpus b.split ≡ Some v = slice_get-get_or b.instant.vcpus b.split (boot_vcpu 0) some_left in
      let t = first_task b b.split v in
      let c : Book = record b { split = b.split + 1 } in
      let roles_now = map role_of s.views in
      let next : next_role p.role ≡ Working t = ap next_role role ∙ ap (role_for b b.split) there in
      let split_here : k.book.split ≡ b.split = ap (λ (y : Book). y.split) (sym first.1) in
      let roles : map role_of (set s.views id (after_split p) ++ next_pass p ∷ []) ≡ set roles_now id (Saving c) ++ Working t ∷ [] =
      map-append role_of (set s.views id (after_split p)) (next_pass p ∷ [])
      ∙ ap (λ rs. rs ++ next_role p.role ∷ []) (map_write role_of s.views id (after_split p) ∙ ap (λ r. set roles_now id (with_split r)) role)
      ∙ ap (λ r. set roles_now id (Saving c) ++ r ∷ []) next in
      let same_number : number_of (with_split p.role) ≡ number_of p.role = ap (λ r. number_of (with_split r)) role ∙ ap number_of (sym role) in
      let hands : map hand_of (set s.views id (after_split p) ++ next_pass p ∷ []) ≡ map hand_of s.views ++ record { number = b.split + 1; cells = [] } ∷ [] =
      map-append hand_of (set s.views id (after_split p)) (next_pass p ∷ [])
      ∙ ap (λ hs. hs ++ hand_of (next_pass p) ∷ []) (map_unseen hand_of s.views id p (after_split p) at (ap (λ m. record { number = m; cells = p.held }) same_number))
      ∙ ap (λ r. map hand_of s.views ++ record { number = number_of r; cells = [] } ∷ []) next in
      let untold = k.story.untold b.split (omega (arith, split_here)) more in
      let told = told_first i n k.order k.now t untold
      (ap (λ (m : MachineData). m.shape) instant) (ap (λ (m : MachineData). m.clock) instant) (ap (λ (y : Book). y.run) first.1 ∙ k.booked.run)
      (ap (λ (y : Book). first_until y) first.1 ∙ first_until_is)
      (ap (λ (m : MachineData). slice_get m.vcpus b.split) (sym instant) ∙ there) refl in
      let story = told_same i n k.order k.now b.split roles_now id (Saving b) (Saving c) (subst (λ (m : ℕ). Story i n k.order k.now m roles_now) split_here k.story) saving refl in
      let flags = flagged_same i protect k.now k.book c (sym writable_here) (sym picked_here) k.flagged in
      let faults = faults_more i k.order k.book.writable k.queue k.book.picked (set roles_now id (Saving c)) t
      (faults_same i k.order k.book.writable k.queue k.book.picked roles_now id (Saving b) (Saving c) k.faults saving refl) refl refl in
      record {
        order = k.order;
        now = k.now;
        queue = k.queue;
        book = c;
        start = k.start;
        cells = k.cells;
        clock = k.clock;
        locks =
            subst (λ (ws : List Bool). Locks (due k.now ws k.queue) s.words s.homes (map hand_of (set s.views id (after_split p) ++ next_pass p ∷ []))) writable_here
            (subst (Locks (due k.now k.book.writable k.queue) s.words s.homes) (sym hands)
            (adds_hand (due k.now k.book.writable k.queue) s.words s.homes (map hand_of s.views) k.locks (b.split + 1) (fresh more)));
        booked = subst (IsBooked i n c) (sym roles) (booked_more i n c (set roles_now id (Saving c)) t (rebooked_here c refl refl (omega (arith, more))));
        story = subst (Story i n k.order k.now (b.split + 1)) (sym roles) (told_split i n k.order k.now b.split (set roles_now id (Saving c)) t story refl told);
        flagged = flags;
        faults =
            subst (λ (ws : List Bool). Faults i k.order ws k.queue b.picked (map role_of (set s.views id (after_split p) ++ next_pass p ∷ []))) writable_here
            (subst (λ (ps : List Bool). Faults i k.order k.book.writable k.queue ps (map role_of (set s.views id (after_split p) ++ next_pass p ∷ []))) picked_here
            (subst (Faults i k.order k.book.writable k.queue k.book.picked) (sym roles) faults));
      }
    where
      first_until : Book → ℕ
      first_until y = steps_of y.instant b.split + y.run

      first_until_is : steps_of k.book.instant b.split + k.book.run ≡ steps_of i b.split + n
      first_until_is = ap (λ (m : MachineData). steps_of m b.split + k.book.run) k.booked.instant ∙ ap (λ (m : ℕ). steps_of i b.split + m) k.booked.run

  -- ---- Join

  pub joins : (other : ℕ) (o : PassData) (t : Task) → other ≢ id → get_elem? s.views other ≡ some o → o.role ≡ Working t → o.held ≡ [] →
      Kept i n protect (record { words = s.words; homes = s.homes; views = set (set s.views id (after_join p o)) other spent_pass })
  joins other o t elsewhere there other_role none_held =
      let c : Book = record b { joined = b.joined ++ t ∷ [] } in
      let roles_now = map role_of s.views in
      let w = after_join p o in
      let working : get_elem? roles_now other ≡ some (Working t) = map_place role_of s.views other o there ∙ ap some other_role in
      let joined : with_joined p.role o.role ≡ Saving c = ap (λ r. with_joined r o.role) role ∙ ap (with_joined (Saving b)) other_role in
      let roles : map role_of (set (set s.views id w) other spent_pass) ≡ roles_joined roles_now id other b t saving working elsewhere =
      map_write role_of (set s.views id w) other spent_pass
      ∙ ap (λ rs. set rs other Spent) (map_write role_of s.views id w ∙ ap (set roles_now id) joined) in
      let still : get_elem? (set s.views id w) other ≡ some o = set_else s.views id other w elsewhere ∙ there in
      let same_number : number_of (with_joined p.role o.role) ≡ number_of p.role = ap number_of joined ∙ ap number_of (sym role) in
      let hands : map hand_of (set (set s.views id w) other spent_pass) ≡ set (map hand_of s.views) other (record { number = 0; cells = [] }) =
      map_write hand_of (set s.views id w) other spent_pass
      ∙ ap (λ hs. set hs other (hand_of spent_pass)) (map_unseen hand_of s.views id p w at (ap (λ m. record { number = m; cells = p.held }) same_number)) in
      let not_saver : other ≢ 0 = λ e. elsewhere (e ∙ sym first.0) in
      let split_here : k.book.split ≡ b.split = ap (λ (y : Book). y.split) (sym first.1) in
      record {
        order = k.order;
        now = k.now;
        queue = k.queue;
        book = c;
        start = k.start;
        cells = k.cells;
        clock = k.clock;
        locks =
            subst (λ (ws : List Bool). Locks (due k.now ws k.queue) s.words s.homes (map hand_of (set (set s.views id w) other spent_pass))) writable_here
            (subst (Locks (due k.now k.book.writable k.queue) s.words s.homes) (sym hands)
            (drops_hand (due k.now k.book.writable k.queue) s.words s.homes (map hand_of s.views) k.locks other (hand_of o) (map_place hand_of s.views other o there) none_held));
        booked = subst (IsBooked i n c) (sym roles)
            (booked_other i n c (set roles_now id (Saving c)) other (Working t) Spent (rebooked_here c refl refl (let h = k.booked.split in omega (arith, h, split_here)))
            (set_else roles_now id other (Saving c) elsewhere ∙ working) not_saver SpentIsNone);
        story = subst (Story i n k.order k.now b.split) (sym roles)
            (told_join roles_now id other b t saving working elsewhere i n k.order k.now b.split (subst (λ (m : ℕ). Story i n k.order k.now m roles_now) split_here k.story));
        flagged = flagged_same i protect k.now k.book c (sym writable_here) (sym picked_here) k.flagged;
        faults =
            subst (λ (ws : List Bool). Faults i k.order ws k.queue b.picked (map role_of (set (set s.views id w) other spent_pass))) writable_here
            (subst (λ (ps : List Bool). Faults i k.order k.book.writable k.queue ps (map role_of (set (set s.views id w) other spent_pass))) picked_here
            (subst (Faults i k.order k.book.writable k.queue k.book.picked) (sym roles)
            (faults_moved i k.order k.book.writable k.queue k.book.picked roles_now (roles_joined roles_now id other b t saving working elsewhere) k.faults
            (was_task roles_now id other b t saving working elsewhere) (goes_to roles_now id other b t saving working elsewhere))));
      }
