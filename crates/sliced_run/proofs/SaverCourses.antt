-- What each course of the saver's turn makes of a phase on one thread.
use Rattle.std.proofs.Common.{◌≡◌, ◌≢◌, ℕ, suc, ◌+◌, ◌<◌, not, Bool, true, false, List, [], ◌∷◌, All, length, Option, Some, None, refl, sym, ◌∙◌, ap, subst, arith}
use Rattle.std.specs.Prelude.{slice_set, slice_index, nat_eq, IfSome, ◌||◌}
use Rattle.std.specs.List.{slice_get, IsDistinct}
use Rattle.std.specs.List.Sorted.{IsStrictlyIncreasing}
use Rattle.std.proofs.Math.Dec.{eqb}
use Rattle.std.proofs.lemmas.Bool.{eq-eqb, ne_eqb}
use Rattle.std.proofs.lemmas.List.Elements.{All-cons, All-tail}
use Rattle.std.proofs.lemmas.Option.{none-some, same_Some}
use Rattle.ram_block.specs.PageLinks.{is_listed}
use Rattle.ram_block.specs.Shape.{total_pages_of}
use Rattle.ram_block.proofs.LinkedPages.{head_absent}
use Rattle.medium.specs.Count.{HasRisen}
use Rattle.medium.specs.Members.{file_state}
use Rattle.medium.specs.States.{FileState}
use Rattle.medium.specs.declared.readable.Readable as readable
use Rattle.flat_machine.specs.Machine.{MachineData}
use Rattle.flat_machine.proofs.Events.{slice_get-set_other}
use Rattle.page_cell.specs.Core.{is_protected}
use Rattle.page_cell.specs.Plant.{KeepsPlant, PicksFront}
use Rattle.page_cell.specs.declared.plant.Pick.{Pick}
use Rattle.page_cell.specs.declared.plant.Pick.TheVariants as picks
use Rattle.page_cell.proofs.Instant.{get_protected, protected_get}
use Rattle.plain_bus.specs.Bus.{BusData, IsBus}
use Rattle.plain_bus.specs.Plant.{plant_state}
use Rattle.bg_saver.specs.Saver.{SaverData, IsSaver, total_of}
use Rattle.bg_saver.specs.Save.{IsOfSave}
use Rattle.bg_saver.specs.Release.{LeavesRelease}
use Rattle.bg_saver.specs.Turn.{LeavesCourse, LeavesTaken, LeavesTurn, LeavesOnePick, LeavesPicks, course_by, counts_with, turn_at}
use Rattle.bg_saver.specs.declared.counts.Counts.{Counts}
use Rattle.bg_saver.specs.declared.progress.PageInHand.{PageInHand}
use Rattle.bg_saver.specs.declared.save_end.SaveEnd.{SaveEnd}
use Rattle.bg_saver.specs.declared.save_end.SaveEnd.TheVariants as ends
use Rattle.bg_saver.specs.declared.turn.Released.TheVariants.{Done, Again}
use Rattle.bg_saver.specs.declared.turn.Turn.{Turn}
use Rattle.bg_saver.specs.declared.turn.Turn.TheVariants as turns
use Rattle.vm_words.specs.declared.turns.TurnOf.TheVariants.{Saver}
use Rattle.sliced_run.specs.CoreRun.{least_protected, saver_turn, sliced_after, sliced_from}
use Rattle.sliced_run.specs.Sliced.{SlicedData, IsAt, IsSliced, FitsEnd, SaverTurned, phase_of, taken_by}
use Rattle.sliced_run.proofs.Turns.{after-push, ended_stays}
use Rattle.sliced_run.proofs.SaverTurns.{SameRest, all_writable, complete_at, earlier, ended_so, failed_at, fault_at, least_is, not_now, same_rest, state_is, state_of, sweep_at, went_on}

-- ---- Pages left

-- a number below the first of ascending ones isn't among them
below_absent : (first : ℕ) (left : List ℕ) (k : ℕ) → IsStrictlyIncreasing (first ∷ left) → k < first → is_listed (first ∷ left) k ≡ false
below_absent first [] k ascends below = ap (λ b. b || false) (ne_eqb k first (λ same. absurd (omega (arith, below, same))))
below_absent first (next ∷ left) k ascends below =
    let up : first < next = ascends 0 (omega arith) in
    ap (λ b. b || is_listed (next ∷ left) k) (ne_eqb k first (λ same. absurd (omega (arith, below, same))))
    ∙ below_absent next left k
    (λ j h.
    (let e : suc j + 1 ≡ suc (j + 1) = omega arith in
    subst (λ t. slice_index (first ∷ next ∷ left) (suc j) < slice_index (first ∷ next ∷ left) t) e (ascends (suc j) (omega (arith, h)))))
    (omega (arith, up, below))

first_listed : (first : ℕ) (left : List ℕ) → is_listed (first ∷ left) first ≡ true
first_listed first left = ap (λ b. b || is_listed left first) (eq-eqb first first refl)

-- the first page left is the least that is protected
least_left : (x : SlicedData) (first : ℕ) (left : List ℕ) → IsSaver x.saver → IsOfSave x.saver (plant_state x.bus) → x.saver.end ≡ None → x.saver.left ≡ first ∷ left →
    (least_protected x.bus.writable ≡ Some first) × (slice_get x.bus.writable first ≡ Some false)
least_left x first left limits save runs is =
    let ascends : IsStrictlyIncreasing (first ∷ left) = subst IsStrictlyIncreasing is limits.sweep.ascending in
    let below : first < total_of x.saver = subst (λ l. All (λ p. p < total_of x.saver) l) is limits.sweep.below 0 first (omega arith) in
    let at : (p : ℕ) → p < total_of x.saver → slice_get x.bus.writable p ≡ Some (not (is_listed (first ∷ left) p)) =
    λ p h. save.writable runs p h ∙ ap (λ l. Some (not (is_listed l p))) is in
    let here : slice_get x.bus.writable first ≡ Some false = at first below ∙ ap (λ b. Some (not b)) (first_listed first left) in
    (least_is x.bus.writable first here (λ k h. at k (omega (arith, h, below)) ∙ ap (λ b. Some (not b)) (below_absent first left k ascends h)), here)

-- where none is left, each page is writable
none_left : (x : SlicedData) → IsBus x.bus → IsOfSave x.saver (plant_state x.bus) → x.saver.end ≡ None → x.saver.left ≡ [] → All (λ w. w ≡ true) x.bus.writable
none_left x bus save runs is =
    all_writable x.bus.writable (total_of x.saver) (bus.writable ∙ save.total) (λ p h. save.writable runs p h ∙ ap (λ l. Some (not (is_listed l p))) is)

-- ---- Pages queued

-- the others are protected still
still_protected : (writable : List Bool) (p q : ℕ) → is_protected writable q ≡ true → q ≢ p → is_protected (slice_set writable p true) q ≡ true
still_protected writable p q is other =
    get_protected (slice_set writable p true) q (slice_get-set_other writable p q true other ∙ protected_get writable q is)

neither : (a b : Bool) → (a || b) ≡ false → (a ≡ false) × (b ≡ false)
neither true b is = absurd (cc)
neither false b is = (refl, is)

others_protected : (writable : List Bool) (p : ℕ) (queue : List ℕ) → is_listed queue p ≡ false → All (λ q. is_protected writable q ≡ true) queue →
    All (λ q. is_protected (slice_set writable p true) q ≡ true) queue
others_protected writable p [] absent all = λ k d h. absurd (omega (arith, h))
others_protected writable p (q ∷ queue) absent all =
    let off = neither (eqb p q) (is_listed queue p) absent in
    All-cons (λ r. is_protected (slice_set writable p true) r ≡ true) q queue
    (still_protected writable p q (all 0 q (omega arith)) (λ same. absurd (let no : true ≡ false = sym (eq-eqb p q (sym same)) ∙ off.0 in cc)))
    (others_protected writable p queue off.1 (All-tail (λ r. is_protected writable r ≡ true) q queue all))

-- ---- A turn that took a page

-- where it came from: the queue, whose front it was, or the pages left where none was queued
abbrev pub From : SlicedData → BusData → ℕ → Bool → Type 0
From x b p true = (queue : List ℕ) × (x.bus.queue ≡ p ∷ queue) × (b.queue ≡ queue)
From x b p false = (x.bus.queue ≡ []) × (b.queue ≡ []) × (least_protected x.bus.writable ≡ Some p)

-- what stands of it
pub record Took (x : SlicedData) (b : BusData) (v : SaverData) (p : ℕ) (picked : Bool) : Type 0 where
  pub fits : IsBus b
  pub rest : SameRest x.bus b
  pub writable : b.writable ≡ slice_set x.bus.writable p true
  pub was : is_protected x.bus.writable p ≡ true
  pub from : From x b p picked
  pub some : (least : ℕ) × (least_protected x.bus.writable ≡ Some least)
  pub counts : v.counts ≡ counts_with x.saver.counts picked
  pub hand : v.hand ≡ None
  pub runs : v.end ≡ None

more_taken : (c : Counts) (picked : Bool) → (counts_with c picked).faults + (counts_with c picked).sweep ≡ c.faults + c.sweep + 1
more_taken c true = omega arith
more_taken c false = omega arith

taken_more : (x : SlicedData) (b : BusData) (v : SaverData) (p : ℕ) (picked : Bool) → Took x b v p picked → taken_by (went_on b v) ≡ taken_by x + 1
taken_more x b v p picked took = ap (λ (c : Counts). c.faults + c.sweep) took.counts ∙ more_taken x.saver.counts picked

took_at : (x : SlicedData) (b : BusData) (v : SaverData) (p : ℕ) (picked : Bool) (recorded : List (ℕ × List ℕ)) (fails_at : Option ℕ) → Took x b v p picked →
    IfSome fails_at (λ at. taken_by x + 1 < at) → IsAt (saver_turn fails_at (state_of x recorded)) (went_on b v)
took_at x b v p true recorded fails_at took fits =
    fault_at x b v p took.some.0 took.from.0 recorded fails_at
    (record { rest = took.rest; writable = took.writable; queued = took.from.2; was = took.was })
    took.counts took.from.1 took.some.1 (not_now fails_at (taken_by x + 1) fits)
took_at x b v p false recorded fails_at took fits =
    sweep_at x b v p recorded fails_at
    (record { rest = took.rest; writable = took.writable; queued = took.from.1; was = took.was })
    took.counts took.from.0 took.from.2 (not_now fails_at (taken_by x + 1) fits)

took_queued : (i : MachineData) (n : ℕ) (x : SlicedData) (b : BusData) (v : SaverData) (p : ℕ) (picked : Bool) → IsSliced i n x → x.saved ≡ None → Took x b v p picked →
    All (λ q. is_protected b.writable q ≡ true) b.queue
took_queued i n x b v p true is runs took =
    let queue = took.from.0 in
    let distinct : IsDistinct nat_eq (p ∷ queue) = subst (IsDistinct nat_eq) took.from.1 is.bus.queue.distinct in
    let all : All (λ q. is_protected x.bus.writable q ≡ true) (p ∷ queue) = subst (All (λ q. is_protected x.bus.writable q ≡ true)) took.from.1 (is.queued runs) in
    let kept = others_protected x.bus.writable p queue (head_absent p queue distinct) (All-tail (λ q. is_protected x.bus.writable q ≡ true) p queue all) in
    subst (λ w. All (λ q. is_protected w q ≡ true) b.queue) (sym took.writable)
    (subst (All (λ q. is_protected (slice_set x.bus.writable p true) q ≡ true)) (sym took.from.2) kept)
took_queued i n x b v p false is runs took =
    subst (All (λ q. is_protected b.writable q ≡ true)) (sym took.from.1) (λ k d h. absurd (omega (arith, h)))

pub took_turned : (i : MachineData) (n : ℕ) (x : SlicedData) (b : BusData) (v : SaverData) (p : ℕ) (picked : Bool) → IsSliced i n x → x.saved ≡ None →
    IsOfSave v (plant_state b) → IsSaver v → Took x b v p picked → SaverTurned i n x (went_on b v)
took_turned i n x b v p picked is runs save limits took = record {
  keeps = record {
    bus = took.fits;
    instant = took.rest.instant ∙ is.instant;
    run = took.rest.run ∙ is.run;
    limits = limits;
    save = save;
    hand = took.hand;
    saved = took.runs;
    queued = λ _. took_queued i n x b v p picked is runs took;
    writable = λ ended. absurd (ended refl);
    whole = λ complete. absurd (none-some ends.Complete complete);
  };
  comes = λ turns come fails_at fits.
      (let later : IfSome fails_at (λ at. taken_by x + 1 < at) = subst (λ t. IfSome fails_at (λ at. t < at)) (taken_more x b v p picked took) fits in
      let before : FitsEnd x.saved (taken_by x) fails_at = subst (λ o. FitsEnd o (taken_by x) fails_at) (sym runs) (earlier fails_at (taken_by x) later) in
      let s = sliced_after (phase_of i n fails_at) (sliced_from i) turns in
      let at = come fails_at before in
      subst (λ r. IsAt r (went_on b v)) (sym (after-push (phase_of i n fails_at) (sliced_from i) turns Saver))
      (subst (λ r. IsAt (saver_turn fails_at r) (went_on b v)) (sym (state_is s x at runs)) (took_at x b v p picked at.recorded fails_at took later)));
  more = λ _. taken_more x b v p picked took;
}

-- ---- A turn that ended the save

other_end : ends.Failed ≡ ends.Complete → ⊥
other_end same = cc

-- the save is complete
pub complete_turned : (i : MachineData) (n : ℕ) (x : SlicedData) (b : BusData) (v : SaverData) → IsSliced i n x → x.saved ≡ None → x.saver.left ≡ [] → b ≡ x.bus →
    v ≡ record x.saver { end = Some ends.Complete } → IsOfSave v (plant_state b) → IsSaver v → SaverTurned i n x (ended_so b v ends.Complete)
complete_turned i n x b v is runs none same saver save limits =
    let free = none_left x is.bus is.save (is.saved ∙ runs) none in
    let counts : v.counts ≡ x.saver.counts = ap (λ (d : SaverData). d.counts) saver in
    record {
      keeps = record {
        bus = subst IsBus (sym same) is.bus;
        instant = ap (λ (d : BusData). d.instant) same ∙ is.instant;
        run = ap (λ (d : BusData). d.run) same ∙ is.run;
        limits = limits;
        save = save;
        hand = ap (λ (d : SaverData). d.hand) saver ∙ is.hand;
        saved = ap (λ (d : SaverData). d.end) saver;
        queued = λ h. absurd (none-some ends.Complete (sym h));
        writable = λ _. subst (λ (d : BusData). All (λ w. w ≡ true) d.writable) (sym same) free;
        whole = λ _. ap (λ (d : SaverData). d.left) saver ∙ none;
      };
      comes = λ turns come fails_at never.
          (let before : FitsEnd x.saved (taken_by x) fails_at =
          subst (λ o. FitsEnd o (taken_by x) fails_at) (sym runs) (subst (λ f. IfSome f (λ at. taken_by x < at)) (sym never) tt) in
          let s = sliced_after (phase_of i n fails_at) (sliced_from i) turns in
          let at = come fails_at before in
          subst (λ r. IsAt r (ended_so b v ends.Complete)) (sym (after-push (phase_of i n fails_at) (sliced_from i) turns Saver))
          (subst (λ r. IsAt (saver_turn fails_at r) (ended_so b v ends.Complete)) (sym (state_is s x at runs))
          (subst (λ f. IsAt (saver_turn f (state_of x at.recorded)) (ended_so b v ends.Complete)) (sym never) (complete_at x b v at.recorded same counts free))));
      more = λ h. absurd (none-some ends.Complete (sym h));
    }

-- the turn failed: the bus has what neither a pick nor a take changes
pub record Failed (x : SlicedData) (b : BusData) (v : SaverData) : Type 0 where
  pub fits : IsBus b
  pub rest : SameRest x.bus b
  pub counts : v.counts ≡ x.saver.counts
  pub hand : v.hand ≡ None
  pub end : v.end ≡ Some ends.Failed

-- and then each page was made writable
pub failed_turned : (i : MachineData) (n : ℕ) (x : SlicedData) (b : BusData) (v : SaverData) → IsSliced i n x → x.saved ≡ None →
    All (λ w. w ≡ true) b.writable → IsOfSave v (plant_state b) → IsSaver v → Failed x b v → SaverTurned i n x (ended_so b v ends.Failed)
failed_turned i n x b v is runs free save limits failed =
    let shape : b.machine.shape ≡ x.bus.machine.shape = ap (λ (m : MachineData). m.shape) failed.rest.machine in
    let count : length b.writable ≡ length x.bus.writable = failed.fits.writable ∙ ap total_pages_of shape ∙ sym is.bus.writable in
    let taken : taken_by (ended_so b v ends.Failed) ≡ taken_by x = ap (λ (c : Counts). c.faults + c.sweep) failed.counts in
    record {
      keeps = record {
        bus = failed.fits;
        instant = failed.rest.instant ∙ is.instant;
        run = failed.rest.run ∙ is.run;
        limits = limits;
        save = save;
        hand = failed.hand;
        saved = failed.end;
        queued = λ h. absurd (none-some ends.Failed (sym h));
        writable = λ _. free;
        whole = λ complete. absurd (other_end (same_Some ends.Failed ends.Complete complete));
      };
      comes = λ turns come fails_at now.
          (let here : fails_at ≡ Some (taken_by x + 1) = now ∙ ap (λ t. Some (t + 1)) taken in
          let before : FitsEnd x.saved (taken_by x) fails_at =
          subst (λ o. FitsEnd o (taken_by x) fails_at) (sym runs) (subst (λ f. IfSome f (λ at. taken_by x < at)) (sym here) (omega arith)) in
          let s = sliced_after (phase_of i n fails_at) (sliced_from i) turns in
          let at = come fails_at before in
          subst (λ r. IsAt r (ended_so b v ends.Failed)) (sym (after-push (phase_of i n fails_at) (sliced_from i) turns Saver))
          (subst (λ r. IsAt (saver_turn fails_at r) (ended_so b v ends.Failed)) (sym (state_is s x at runs))
          (subst (λ f. IsAt (saver_turn f (state_of x at.recorded)) (ended_so b v ends.Failed)) (sym here)
          (failed_at x b v at.recorded failed.rest count failed.counts free))));
      more = λ h. absurd (none-some ends.Failed (sym h));
    }

-- a turn after the end does nothing
pub idle_turned : (i : MachineData) (n : ℕ) (x : SlicedData) (end : SaveEnd) → IsSliced i n x → x.saved ≡ Some end → SaverTurned i n x x
idle_turned i n x end is ended = record {
  keeps = is;
  comes = λ turns come fails_at fits.
      (let s = sliced_after (phase_of i n fails_at) (sliced_from i) turns in
      let at = come fails_at fits in
      subst (λ r. IsAt r x) (sym (after-push (phase_of i n fails_at) (sliced_from i) turns Saver ∙ ended_stays (phase_of i n fails_at) s end (at.saved ∙ ended))) at);
  more = λ none. absurd (none-some end (sym none ∙ ended));
}

-- ---- The courses

-- what each answer of a turn makes of the phase: where it failed, each page is still to be made writable
abbrev pub Outcome : MachineData → ℕ → SlicedData → BusData → SaverData → Turn → Type 0
Outcome i n x b v (turns.Saved p) = SaverTurned i n x (went_on b v)
Outcome i n x b v (turns.Skipped p) = ⊥
Outcome i n x b v turns.Again = ⊥
Outcome i n x b v turns.Complete = SaverTurned i n x (ended_so b v ends.Complete)
Outcome i n x b v turns.Failed = Failed x b v

-- no lock of this bus is ever found held
never_busy : HasRisen 0 0 → ⊥
never_busy rose = absurd (omega (arith, rose))

-- the turn took this page, by its answer
module _ (i : MachineData) (n : ℕ) (x : SlicedData) (b : BusData) (v : SaverData) (same_file : Type 0) (old_file new_file : FileState) where
  taken_by_answer : (taken : PageInHand) (answer : Turn) → IsSliced i n x → x.saved ≡ None → IsOfSave v (plant_state b) → IsSaver v →
      KeepsPlant (plant_state x.bus) (plant_state b) → From x b taken.page taken.picked → ((least : ℕ) × (least_protected x.bus.writable ≡ Some least)) →
      slice_get x.bus.writable taken.page ≡ Some false → LeavesTaken x.saver same_file (plant_state x.bus) (plant_state b) old_file new_file taken answer v →
      Outcome i n x b v answer
  taken_by_answer taken turns.Again is runs save limits keeps from some was left = absurd (never_busy left.busy)
  taken_by_answer taken (turns.Skipped p) is runs save limits keeps from some was left =
      absurd (let no : true ≡ false = same_Some true false (sym left.1.stale ∙ was) in cc)
  taken_by_answer taken (turns.Saved p) is runs save limits keeps from some was left =
      let saved = left.1.1 in
      took_turned i n x b v taken.page taken.picked is runs save limits (record {
        fits = keeps.fits;
        rest = same_rest x.bus b keeps.rest;
        writable = saved.copied.writable;
        was = get_protected x.bus.writable taken.page was;
        from = from;
        some = some;
        counts = ap (λ (d : SaverData). d.counts) saved.saver;
        hand = ap (λ (d : SaverData). d.hand) saved.saver;
        runs = ap (λ (d : SaverData). d.end) saved.saver ∙ is.saved ∙ runs;
      })
  taken_by_answer taken turns.Failed is runs save limits keeps from some was left =
      let failed = left.1 in
      record {
        fits = keeps.fits;
        rest = same_rest x.bus b keeps.rest;
        counts = ap (λ (d : SaverData). d.counts) failed.saver;
        hand = ap (λ (d : SaverData). d.hand) failed.saver;
        end = ap (λ (d : SaverData). d.end) failed.saver;
      }
  taken_by_answer taken turns.Complete is runs save limits keeps from some was left = absurd left

-- the one pick that was made
the_pick : (x : SlicedData) (b : BusData) (hand : Option PageInHand) → x.saver.hand ≡ hand → hand ≡ None → LeavesPicks hand (plant_state x.bus) (plant_state b) →
    (answer : Pick) × LeavesOnePick (plant_state x.bus) (plant_state b) answer
the_pick x b None is none picks = picks
the_pick x b (Some h) is none picks = absurd (none-some h (sym none))

front_of : (x : SlicedData) (b : BusData) (p : ℕ) (answer : Pick) → answer ≡ picks.Fault p → PicksFront (Some x.bus.queue) (Some b.queue) answer → From x b p true
front_of x b p answer is front =
    let f = subst (PicksFront (Some x.bus.queue) (Some b.queue)) is front in
    (f.0, f.1, same_Some b.queue f.0 f.2)

none_of : (x : SlicedData) (b : BusData) (answer : Pick) → answer ≡ picks.Empty → PicksFront (Some x.bus.queue) (Some b.queue) answer → (x.bus.queue ≡ []) × (b.queue ≡ [])
none_of x b answer is front =
    let f = subst (PicksFront (Some x.bus.queue) (Some b.queue)) is front in
    (f.0, same_Some b.queue [] f.1)

module _ {M : Type 0} (g : readable.Ghosts M) (i : MachineData) (n : ℕ) (x : SlicedData) (b : BusData) (v : SaverData) (file file_now : M) where
  by_course : (end : Option SaveEnd) (left : List ℕ) (hand : Option PageInHand) (last : Option Pick) (answer : Turn) → x.saver.end ≡ end → x.saver.left ≡ left →
      x.saver.hand ≡ hand → b.last ≡ last → IsSliced i n x → x.saved ≡ None → IsOfSave v (plant_state b) → IsSaver v →
      LeavesCourse g x.saver (b ≡ x.bus) (plant_state x.bus) (plant_state b) file file_now (course_by end left hand last) answer v → Outcome i n x b v answer
  by_course (Some e) left hand last answer end_is left_is hand_is last_is is runs save limits leaves = absurd (none-some e (sym (is.saved ∙ runs) ∙ end_is))
  by_course None [] hand last answer end_is left_is hand_is last_is is runs save limits leaves =
      finished leaves.1.0 answer leaves.0 leaves.1.1.answer leaves.1.1.saver
    where
      finished : (e : SaveEnd) (answer : Turn) → b ≡ x.bus → answer ≡ turn_at e → v ≡ record x.saver { end = Some e } → Outcome i n x b v answer
      finished ends.Complete answer same turn saver =
          subst (Outcome i n x b v) (sym turn) (complete_turned i n x b v is runs left_is same saver save limits)
      finished ends.Failed answer same turn saver =
          subst (Outcome i n x b v) (sym turn) (record {
            fits = subst IsBus (sym same) is.bus;
            rest = subst (SameRest x.bus) (sym same) (record { machine = refl; order = refl; blocked = refl; instant = refl; run = refl });
            counts = ap (λ (d : SaverData). d.counts) saver;
            hand = ap (λ (d : SaverData). d.hand) saver ∙ is.hand;
            end = ap (λ (d : SaverData). d.end) saver;
          })
  by_course None (first ∷ left) (Some h) last answer end_is left_is hand_is last_is is runs save limits leaves = absurd (none-some h (sym is.hand ∙ hand_is))
  by_course None (first ∷ left) None None answer end_is left_is hand_is last_is is runs save limits leaves = absurd leaves.pick.queue
  by_course None (first ∷ left) None (Some picks.Busy) answer end_is left_is hand_is last_is is runs save limits leaves = absurd leaves.pick.queue
  by_course None (first ∷ left) None (Some (picks.Fault p)) answer end_is left_is hand_is last_is is runs save limits leaves =
      let pick = the_pick x b x.saver.hand refl is.hand leaves.picks in
      let gave : pick.0 ≡ picks.Fault p = same_Some pick.0 (picks.Fault p) (sym pick.1.last ∙ last_is) in
      let from = front_of x b p pick.0 gave pick.1.queue in
      let least = least_left x first left is.limits is.save (is.saved ∙ runs) left_is in
      let queued : All (λ q. is_protected x.bus.writable q ≡ true) (p ∷ from.0) = subst (All (λ q. is_protected x.bus.writable q ≡ true)) from.1 (is.queued runs) in
      taken_by_answer i n x b v (file_now ≡ file) (file_state g file) (file_state g file_now) (record { page = p; picked = true }) answer is runs save limits
      leaves.keeps from (first, least.0) (protected_get x.bus.writable p (queued 0 p (omega arith))) leaves.taken
  by_course None (first ∷ left) None (Some picks.Empty) answer end_is left_is hand_is last_is is runs save limits leaves =
      let pick = the_pick x b x.saver.hand refl is.hand leaves.picks in
      let gave : pick.0 ≡ picks.Empty = same_Some pick.0 picks.Empty (sym pick.1.last ∙ last_is) in
      let none = none_of x b pick.0 gave pick.1.queue in
      let least = least_left x first left is.limits is.save (is.saved ∙ runs) left_is in
      taken_by_answer i n x b v (file_now ≡ file) (file_state g file) (file_state g file_now) (record { page = first; picked = false }) answer is runs save limits
      leaves.keeps (none.0, none.1, least.0) (first, least.0) least.1 leaves.taken

  -- each turn of a save that goes on
  pub turn_outcome : (answer : Turn) → IsSliced i n x → x.saved ≡ None → IsOfSave v (plant_state b) → IsSaver v →
      LeavesTurn g x.saver (b ≡ x.bus) (plant_state x.bus) (plant_state b) file file_now answer v → Outcome i n x b v answer
  turn_outcome answer is runs save limits leaves = by_course x.saver.end x.saver.left x.saver.hand b.last answer refl refl refl refl is runs save limits leaves

-- ---- A release

pub released_turned : (i : MachineData) (n : ℕ) (x : SlicedData) (b c : BusData) (v w : SaverData) → IsSliced i n x → x.saved ≡ None → Failed x b v →
    LeavesRelease v (plant_state b) (plant_state c) Done w → IsOfSave w (plant_state c) → IsSaver w → SaverTurned i n x (ended_so c w ends.Failed)
released_turned i n x b c v w is runs failed leaves save limits =
    let rest = same_rest b c leaves.pages.keeps.rest in
    let all = all_writable c.writable (total_pages_of c.machine.shape) leaves.pages.keeps.fits.writable leaves.answer.1 in
    failed_turned i n x c w is runs all save limits (record {
      fits = leaves.pages.keeps.fits;
      rest = record {
        machine = rest.machine ∙ failed.rest.machine;
        order = rest.order ∙ failed.rest.order;
        blocked = rest.blocked ∙ failed.rest.blocked;
        instant = rest.instant ∙ failed.rest.instant;
        run = rest.run ∙ failed.rest.run;
      };
      counts = ap (λ (d : SaverData). d.counts) leaves.pages.saver.1 ∙ failed.counts;
      hand = ap (λ (d : SaverData). d.hand) leaves.pages.saver.1 ∙ failed.hand;
      end = ap (λ (d : SaverData). d.end) leaves.pages.saver.1 ∙ failed.end;
    })

pub never_again : (b c : BusData) (v w : SaverData) → LeavesRelease v (plant_state b) (plant_state c) Again w → ⊥
never_again b c v w leaves = never_busy leaves.answer
