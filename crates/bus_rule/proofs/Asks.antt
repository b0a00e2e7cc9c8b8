-- What each kind of step asks of the table: whatever its state, the pass has a view and an act that keep the rule.
use Rattle.std.proofs.Common.{◌≡◌, ◌≢◌, ℕ, zero, suc, ◌+◌, ◌-◌, ◌%◌, ◌^◌, ◌<◌, Bool, List, ◌∷◌, set, slice_index, eqb, refl, sym, ◌∙◌, ap, subst, arith}
use mathlib.Core.Option.{some}
use prog.Atomic.{either}
use Rattle.atomic_table.specs.Table.{State, Act, keeps, takes, gives, Valid, stepped, put_back, carried_after, Allows, Splits, Joins}
use Rattle.atomic_table.proofs.Lists.{exchanged, set_else}
use Rattle.flat_machine.specs.Machine.{MachineData}
use Rattle.page_cell.specs.declared.cell.Cell.{Cell}
use Rattle.wp_fault.specs.Queue.{QueueData}
use Rattle.bus_rule.specs.Kept.{Kept}
use Rattle.bus_rule.specs.Plays.{with_cell, with_found, without_cell, CanTake, CanGive, after_cell_event, after_no_fetch, CanTouch, CanStopShort, after_release, CanRelease, after_stop, CanStop, after_pick, CanPick, after_split, next_pass, CanSplit, after_join, spent_pass, CanJoin}
use Rattle.bus_rule.specs.Tells.{PassMe, IsFoundHeld, TakesOrFinds, GivesBack, IsDrawnBy, event_by, DrawsWithCell, no_fetch_by, DrawsAlone, release_by, stop_by, pick_by, MarksAs}
use Rattle.bus_rule.specs.Views.{Task, Book, Working, Saving, PassData, number_of}
use Rattle.bus_rule.proofs.Events.{drawn, draws_alone, draws_with_cell}
use Rattle.bus_rule.proofs.Marks.{releases}
use Rattle.bus_rule.proofs.Picks.{picks, stops}
use Rattle.bus_rule.proofs.Seats.{splits, joins}
use Rattle.bus_rule.proofs.Steps.{takes_home, finds_held, gives_home}

-- a cell that was found held
finds : (c number : ℕ) (before after : PassMe) (found : ℕ) → found ≢ 0 → IsFoundHeld c number found before after → TakesOrFinds c number before found after
finds c number before after zero held is = absurd (held refl)
finds c number before after (suc found) held is = is

module _ (i : MachineData) (n : ℕ) (protect : Bool) (slots id : ℕ) (me : PassMe) where
  -- what a step leaves, where the word becomes another
  abbrev Leaves : State Cell PassData → ℕ → (ℕ → PassMe → Type 0) → ℕ → Type 0
  Leaves s word then written =
      (w : PassData) × (a : Act Cell) × Valid s.homes me.1 a × Kept i n protect (stepped s word written id me.1 w a) × then (slice_index s.words word) (w, carried_after me.1 a)

  -- ---- Take

  pub ask_take : (c number : ℕ) → c < slots → number ≡ number_of me.0.role → CanTake me.0 c →
      Allows (Kept i n protect) slots id me (c + 1) (λ m. either (eqb m 0) number m) (TakesOrFinds (c + 1 - 1) number me)
  ask_take c number within same can s k size at small =
      let e : c + 1 - 1 ≡ c = omega arith in
      subst (λ (d : ℕ). Leaves s (c + 1) (TakesOrFinds d number me) (either (eqb (slice_index s.words (c + 1)) 0) number (slice_index s.words (c + 1)))) (sym e)
      (exchanged (slice_index s.words (c + 1)) 0 number (Leaves s (c + 1) (TakesOrFinds c number me))
      (λ home.
      (let t = takes_home i n protect s k id me.0 at c can (omega (arith, within, size)) home in (
        with_cell me.0 c t.0,
        takes c t.0,
        t.1,
        subst (λ (m : ℕ). Kept i n protect (stepped s (c + 1) m id me.1 (with_cell me.0 c t.0) (takes c t.0))) (sym same) t.3,
        subst (λ (m : ℕ). TakesOrFinds c number me m (with_cell me.0 c t.0, (c, t.0) ∷ me.1)) (sym home) (record { cell = t.0; known = t.2; view = refl }),
      )))
      (λ held.
      (let f = finds_held i n protect s k id me.0 at c can (omega (arith, within, size)) held in (
        with_found me.0 c,
        keeps,
        tt,
        f.1,
        finds c number me (with_found me.0 c, me.1) (slice_index s.words (c + 1)) held (record { held = held; others = λ e. f.0 (e ∙ same); view = refl }),
      ))))

  -- ---- Give

  pub ask_give : (c : ℕ) → CanGive me c → Allows (Kept i n protect) slots id me (c + 1) (λ _. 0) (λ _. GivesBack me)
  ask_give c can s k size at small =
      let back : put_back s.homes me.1 ≡ set s.homes c (some can.cell) = ap (put_back s.homes) can.out.1 in (
        without_cell me.0,
        gives,
        tt,
        subst (λ hs. Kept i n protect (record { words = set s.words (c + 1) 0; homes = hs; views = set s.views id (without_cell me.0) })) (sym back)
            (gives_home i n protect s k id me.0 at c can.cell can.due.0 can.due.1),
        refl,
      )

  -- ---- Event

  pub ask_draw : (t : Task) (c : ℕ) (x : Cell) → CanTouch me.0 t c x → Allows (Kept i n protect) slots id me 0 (λ m. (m + 1) % 2 ^ 64) (DrawsWithCell me)
  ask_draw t c x can s k size at small =
      let clock = slice_index s.words 0 in
      let view : event_by me.0 me.0.role me.0.held clock ≡ after_cell_event me.0 t x clock =
      ap (λ r. event_by me.0 r me.0.held clock) can.pass.role ∙ ap (λ h. event_by me.0 (Working t) h clock) can.top.1 in (
        after_cell_event me.0 t x clock,
        keeps,
        tt,
        draws_with_cell i n protect s k id me.0 at t can.pass c x can,
        record {
          drawn = subst (λ r. IsDrawnBy r clock) (sym can.pass.role) (drawn i n protect s k id me.0 at t can.pass);
          view = ap (λ (w : PassData). (w, me.1)) (sym view);
        },
      )

  pub ask_draw_alone : (t : Task) → CanStopShort me.0 t → Allows (Kept i n protect) slots id me 0 (λ m. (m + 1) % 2 ^ 64) (DrawsAlone me)
  ask_draw_alone t can s k size at small =
      let clock = slice_index s.words 0 in
      let view : no_fetch_by me.0 me.0.role clock ≡ after_no_fetch me.0 t clock = ap (λ r. no_fetch_by me.0 r clock) can.pass.role in (
        after_no_fetch me.0 t clock,
        keeps,
        tt,
        draws_alone i n protect s k id me.0 at t can.pass can.cause can.asks,
        record {
          drawn = subst (λ r. IsDrawnBy r clock) (sym can.pass.role) (drawn i n protect s k id me.0 at t can.pass);
          view = ap (λ (w : PassData). (w, me.1)) (sym view);
        },
      )

  -- ---- Mark

  pub ask_release : (b : Book) (page : ℕ) (bytes : List ℕ) (word : ℕ) → CanRelease me.0 b page bytes →
      Allows (Kept i n protect) slots id me word (λ m. m) (λ _. MarksAs release_by me)
  ask_release b page bytes word can s k size at small =
      let view : release_by me.0 me.0.role me.0.held ≡ after_release me.0 b page bytes =
      ap (λ r. release_by me.0 r me.0.held) can.role ∙ ap (release_by me.0 (Saving b)) can.top.1 in
      (after_release me.0 b page bytes, keeps, tt, releases i n protect s k id me.0 at b page bytes word can, ap (λ (w : PassData). (w, me.1)) (sym view))

  pub ask_stop : (t : Task) (c page : ℕ) (bytes : List ℕ) (q : QueueData) (word : ℕ) → CanStop me.0 t c page bytes q →
      Allows (Kept i n protect) slots id me word (λ m. m) (λ _. MarksAs stop_by me)
  ask_stop t c page bytes q word can s k size at small =
      let view : stop_by me.0 me.0.role me.0.held ≡ after_stop me.0 t page q =
      ap (λ r. stop_by me.0 r me.0.held) can.role ∙ ap (stop_by me.0 (Working t)) can.top.1 in
      (after_stop me.0 t page q, keeps, tt, stops i n protect s k id me.0 at t c page bytes q word can, ap (λ (w : PassData). (w, me.1)) (sym view))

  pub ask_pick : (b : Book) (c : ℕ) (q : QueueData) (word : ℕ) → CanPick me.0 b c q → Allows (Kept i n protect) slots id me word (λ m. m) (λ _. MarksAs pick_by me)
  ask_pick b c q word can s k size at small =
      let view : pick_by me.0 me.0.role me.0.held ≡ after_pick me.0 b q =
      ap (λ r. pick_by me.0 r me.0.held) can.role ∙ ap (pick_by me.0 (Saving b)) can.top.1 in
      (after_pick me.0 b q, keeps, tt, picks i n protect s k id me.0 at b c q word can, ap (λ (w : PassData). (w, me.1)) (sym view))

-- ---- Split and join

pub ask_split : (i : MachineData) (n : ℕ) (protect : Bool) (id : ℕ) (p : PassData) (b : Book) → CanSplit p b → Splits (Kept i n protect) id p (after_split p) (next_pass p)
ask_split i n protect id p b can s k at = splits i n protect s k id p at b can.role can.more

pub ask_join : (i : MachineData) (n : ℕ) (protect : Bool) (id : ℕ) (p : PassData) (other : ℕ) (o : PassData) (b : Book) (t : Task) → CanJoin p o b t →
    Joins (Kept i n protect) id p other o (after_join p o) spent_pass
ask_join i n protect id p other o b t can s k at apart there =
    joins i n protect s k id p at b can.role other o t apart (sym (set_else s.views id other (after_join p o) apart) ∙ there) can.other_role can.none_held
