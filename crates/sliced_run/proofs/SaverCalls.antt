-- What a call of the saver makes of a phase on one thread and of its file.
use Rattle.std.proofs.Common.{◌≡◌, inl, inr, ℕ, ◌+◌, ◌≤◌, true, false, List, [], ◌∷◌, Option, Some, None, refl, sym, ◌∙◌, ap, subst}
use Rattle.std.specs.Prelude.{◌⊎◌, IfSome, IsSome, is_some}
use Rattle.std.proofs.lemmas.Option.{none-some}
use Rattle.medium.specs.Count.{HasRisen}
use Rattle.medium.specs.Members.{file_state}
use Rattle.medium.specs.declared.readable.Readable as readable
use Rattle.medium.proofs.Runs.{leaves_weaker}
use Rattle.flat_machine.specs.Machine.{MachineData}
use Rattle.plain_bus.specs.Bus.{BusData}
use Rattle.plain_bus.specs.Plant.{plant_state}
use Rattle.bg_saver.specs.Saver.{SaverData, IsSaver}
use Rattle.bg_saver.specs.Save.{IsOfSave, IsUnderWay, IsWhole}
use Rattle.bg_saver.specs.Release.{LeavesRelease}
use Rattle.bg_saver.specs.Turn.{LeavesTurn, MayBeLeft}
use Rattle.bg_saver.specs.Writes.{IsRefusedOr, LeavesSince}
use Rattle.bg_saver.specs.declared.save_end.SaveEnd.TheVariants as ends
use Rattle.bg_saver.specs.declared.turn.Released.{Released}
use Rattle.bg_saver.specs.declared.turn.Released.TheVariants.{Done, Again}
use Rattle.bg_saver.specs.declared.turn.Turn.{Turn}
use Rattle.bg_saver.specs.declared.turn.Turn.TheVariants as turns
use Rattle.vm_words.specs.declared.turns.TurnOf.TheVariants.{Saver}
use Rattle.sliced_run.specs.Sliced.{HasEnded, IsSliced, IsSyncedBy, IsWritten, SaverTurned, SlicedData, TurnsTaken, WritesOn, taken_by}
use Rattle.sliced_run.proofs.Files.{writes_none}
use Rattle.sliced_run.proofs.SaverCourses.{Failed, Outcome, idle_turned, never_again, released_turned, turn_outcome}
use Rattle.sliced_run.proofs.SaverTurns.{ended_so, went_on}
use Rattle.sliced_run.proofs.Syncs.{IsSyncedAfter, turn_syncs}
use Rattle.sliced_run.proofs.Taken.{saver_taken}

-- what a crash may leave of a turn is refused, or the machine's
refused_or : (left : List ℕ) (i : MachineData) (image : List ℕ) → MayBeLeft left i image → IsRefusedOr i image
refused_or [] i image safe = safe
refused_or (p ∷ left) i image safe = inl safe

none_of : {X : Type 0} (o : Option X) → false ≡ is_some o → o ≡ None
none_of None is = refl
none_of (Some x) is = absurd (let no : false ≡ true = is in cc)

some_of : {X : Type 0} (o : Option X) → true ≡ is_some o → (x : X) × (o ≡ Some x)
some_of None is = absurd (let no : true ≡ false = is in cc)
some_of (Some x) is = (x, refl)

-- what the saver says of its turn
pub record Shown {M : Type 0} (g : readable.Ghosts M) (x : SlicedData) (b : BusData) (v : SaverData) (file now : M) (answer : Turn) : Type 0 where
  pub leaves : LeavesTurn g x.saver (b ≡ x.bus) (plant_state x.bus) (plant_state b) file now answer v
  pub of_save : IsOfSave v (plant_state b)
  pub limits : IsSaver v
  pub kept : (i : MachineData) → IsUnderWay x.saver i (plant_state x.bus) (file_state g file) → v.end ≡ None → IsUnderWay v i (plant_state b) (file_state g now)
  pub complete : (i : MachineData) → IsUnderWay x.saver i (plant_state x.bus) (file_state g file) → answer ≡ turns.Complete → IsWhole i (g.told file) (file_state g now)
  pub crash : (i : MachineData) → IsUnderWay x.saver i (plant_state x.bus) (file_state g file)
      → IfSome (g.told file) (λ _. LeavesSince (file_state g file) (file_state g now) (MayBeLeft x.saver.left i))
  pub told : IfSome (g.told file) (λ _. IsSome (g.told now))
  pub never_falls : g.faults file ≤ g.faults now
  pub fault : x.saver.end ≡ None → answer ≡ turns.Failed → HasRisen (g.faults file) (g.faults now)

module _ {M : Type 0} (g : readable.Ghosts M) where
  crash_told : (told : Option (List ℕ)) (i : MachineData) (left : List ℕ) (a b : M) → IfSome told (λ _. LeavesSince (file_state g a) (file_state g b) (MayBeLeft left i)) →
      IfSome told (λ _. (b ≡ a) ⊎ LeavesSince (file_state g a) (file_state g b) (IsRefusedOr i))
  crash_told None i left a b safe = tt
  crash_told (Some bytes) i left a b safe = inr (leaves_weaker (λ image s. refused_or left i image s) safe)

  -- the file after a turn of a save that went on
  went_writes : (i : MachineData) (n : ℕ) (x : SlicedData) (b : BusData) (v : SaverData) (file now : M) (answer : Turn) → Shown g x b v file now answer →
      IsSliced i n x → IsWritten i x (file_state g file) → x.saved ≡ None → IsSliced i n (went_on b v) → g.syncs now ≡ g.syncs file →
      WritesOn g i x (went_on b v) file now
  went_writes i n x b v file now answer shown is way runs after syncs = record {
    ended = λ over. absurd (over runs);
    way = λ _. shown.kept i (way runs) after.saved;
    whole = λ _ complete. absurd (none-some ends.Complete complete);
    failed = λ _ failed. absurd (none-some ends.Failed failed);
    never_falls = shown.never_falls;
    syncs = λ _. syncs;
    telling = shown.told;
    crash = crash_told (g.told file) i x.saver.left file now (shown.crash i (way runs));
  }

  ended_writes : (i : MachineData) (x y : SlicedData) (b : BusData) (v : SaverData) (file now : M) (answer : Turn) → Shown g x b v file now answer →
      IsWritten i x (file_state g file) → x.saved ≡ None → HasEnded y → (y.saved ≡ Some ends.Complete → answer ≡ turns.Complete) →
      (y.saved ≡ Some ends.Failed → HasRisen (g.faults file) (g.faults now)) → IsSyncedBy y.saved (g.syncs file) (g.syncs now) → WritesOn g i x y file now
  ended_writes i x y b v file now answer shown way runs over complete failed syncs = record {
    ended = λ ended. absurd (ended runs);
    way = λ none. absurd (over none);
    whole = λ _ is. shown.complete i (way runs) (complete is);
    failed = λ _ is. failed is;
    never_falls = shown.never_falls;
    syncs = λ _. syncs;
    telling = shown.told;
    crash = crash_told (g.told file) i x.saver.left file now (shown.crash i (way runs));
  }

  -- ---- The calls, seen through the model of the phase

  -- the save has ended
  pub no_call : (y x : SlicedData) (file : M) → y ≡ x → true ≡ is_some y.saved → IsSliced x.bus.instant x.bus.run x → IsWritten x.bus.instant x (file_state g file) →
      TurnsTaken g x.bus.instant x.bus.run (Saver ∷ []) x x file file
  no_call y x file view is phase way =
      let end = some_of x.saved (is ∙ ap (λ (d : SlicedData). is_some d.saved) view) in
      saver_taken g x.bus.instant x.bus.run x x file file (idle_turned x.bus.instant x.bus.run x end.0 phase end.1) (writes_none g x.bus.instant x file way)

  -- a page was taken
  pub took_call : (y x : SlicedData) (b : BusData) (v : SaverData) (file now : M) (answer : Turn) → y ≡ x → false ≡ is_some y.saved → IsSliced x.bus.instant x.bus.run x →
      IsWritten x.bus.instant x (file_state g file) → Shown g y b v file now answer → (p : ℕ) → answer ≡ turns.Saved p →
      TurnsTaken g x.bus.instant x.bus.run (Saver ∷ []) x (record { bus = b; saver = v; saved = y.saved }) file now
      × (taken_by (record { bus = b; saver = v; saved = y.saved }) ≡ taken_by x + 1)
  took_call y x b v file now answer view is phase way shown p took =
      let i = x.bus.instant in
      let n = x.bus.run in
      let runs : x.saved ≡ None = none_of x.saved (is ∙ ap (λ (d : SlicedData). is_some d.saved) view) in
      let here : Shown g x b v file now answer = subst (λ d. Shown g d b v file now answer) view shown in
      let turned : SaverTurned i n x (went_on b v) =
      subst (Outcome i n x b v) took (turn_outcome g i n x b v file now answer phase runs here.of_save here.limits here.leaves) in
      let none : y.saved ≡ None = ap (λ (d : SlicedData). d.saved) view ∙ runs in
      let P : Option _ → Type 0 = λ o. TurnsTaken g i n (Saver ∷ []) x (record { bus = b; saver = v; saved = o }) file now
      × (taken_by (record { bus = b; saver = v; saved = o }) ≡ taken_by x + 1) in
      subst P (sym none) (
        saver_taken g i n x (went_on b v) file now turned (went_writes i n x b v file now answer here phase way runs turned.keeps
            (subst (λ a. IsSyncedAfter a (g.syncs file) (g.syncs now)) took (turn_syncs g i n x b v file now answer phase runs here.leaves))),
        turned.more refl,
      )

  -- no other answer comes of a save that goes on
  pub no_other_call : (y x : SlicedData) (b : BusData) (v : SaverData) (file now : M) (answer : Turn) → y ≡ x → false ≡ is_some y.saved → IsSliced x.bus.instant x.bus.run x →
      Shown g y b v file now answer → ((p : ℕ) × (answer ≡ turns.Skipped p)) ⊎ (answer ≡ turns.Again) → ⊥
  no_other_call y x b v file now answer view is phase shown other = by_answer other
    where
      outcome : Outcome x.bus.instant x.bus.run x b v answer
      outcome =
          let runs : x.saved ≡ None = none_of x.saved (is ∙ ap (λ (d : SlicedData). is_some d.saved) view) in
          let here : Shown g x b v file now answer = subst (λ d. Shown g d b v file now answer) view shown in
          turn_outcome g x.bus.instant x.bus.run x b v file now answer phase runs here.of_save here.limits here.leaves

      by_answer : ((p : ℕ) × (answer ≡ turns.Skipped p)) ⊎ (answer ≡ turns.Again) → ⊥
      by_answer (inl skipped) = subst (Outcome x.bus.instant x.bus.run x b v) skipped.1 outcome
      by_answer (inr again) = subst (Outcome x.bus.instant x.bus.run x b v) again outcome

  -- the save is complete
  pub complete_call : (y x : SlicedData) (b : BusData) (v : SaverData) (file now : M) (answer : Turn) → y ≡ x → false ≡ is_some y.saved → IsSliced x.bus.instant x.bus.run x →
      IsWritten x.bus.instant x (file_state g file) → Shown g y b v file now answer → answer ≡ turns.Complete →
      TurnsTaken g x.bus.instant x.bus.run (Saver ∷ []) x (ended_so b v ends.Complete) file now
  complete_call y x b v file now answer view is phase way shown complete =
      let i = x.bus.instant in
      let n = x.bus.run in
      let runs : x.saved ≡ None = none_of x.saved (is ∙ ap (λ (d : SlicedData). is_some d.saved) view) in
      let here : Shown g x b v file now answer = subst (λ d. Shown g d b v file now answer) view shown in
      let turned : SaverTurned i n x (ended_so b v ends.Complete) =
      subst (Outcome i n x b v) complete (turn_outcome g i n x b v file now answer phase runs here.of_save here.limits here.leaves) in
      saver_taken g i n x (ended_so b v ends.Complete) file now turned
      (ended_writes i x (ended_so b v ends.Complete) b v file now answer here way runs (λ none. none-some ends.Complete (sym none)) (λ _. complete)
      (λ failed. absurd (let no : Some ends.Complete ≡ Some ends.Failed = failed in cc))
      (subst (λ a. IsSyncedAfter a (g.syncs file) (g.syncs now)) complete (turn_syncs g i n x b v file now answer phase runs here.leaves)))

  -- it failed, and then each page was made writable
  pub failed_call : (y x : SlicedData) (b c : BusData) (v w : SaverData) (file now : M) (answer : Turn) (released : Released) → y ≡ x → false ≡ is_some y.saved →
      IsSliced x.bus.instant x.bus.run x → IsWritten x.bus.instant x (file_state g file) → Shown g y b v file now answer → answer ≡ turns.Failed →
      LeavesRelease v (plant_state b) (plant_state c) released w → IsOfSave w (plant_state c) → IsSaver w →
      TurnsTaken g x.bus.instant x.bus.run (Saver ∷ []) x (ended_so c w ends.Failed) file now
  failed_call y x b c v w file now answer Again view is phase way shown failing leaves save limits = absurd (never_again b c v w leaves)
  failed_call y x b c v w file now answer Done view is phase way shown failing leaves save limits =
      let i = x.bus.instant in
      let n = x.bus.run in
      let runs : x.saved ≡ None = none_of x.saved (is ∙ ap (λ (d : SlicedData). is_some d.saved) view) in
      let here : Shown g x b v file now answer = subst (λ d. Shown g d b v file now answer) view shown in
      let failed : Failed x b v =
      subst (Outcome i n x b v) failing (turn_outcome g i n x b v file now answer phase runs here.of_save here.limits here.leaves) in
      saver_taken g i n x (ended_so c w ends.Failed) file now (released_turned i n x b c v w phase runs failed leaves save limits)
      (ended_writes i x (ended_so c w ends.Failed) b v file now answer here way runs (λ none. none-some ends.Failed (sym none))
      (λ complete. absurd (let no : Some ends.Failed ≡ Some ends.Complete = complete in cc))
      (λ _. here.fault (phase.saved ∙ runs) failing)
      (subst (λ a. IsSyncedAfter a (g.syncs file) (g.syncs now)) failing (turn_syncs g i n x b v file now answer phase runs here.leaves)))
