-- What each answer of a turn of the saver says of the saver, of its plant, and of how often the file was made sure of.
use Rattle.std.proofs.Common.{◌≡◌, ◌⊎◌, inl, inr, ℕ, zero, suc, Bool, true, false, List, [], ◌∷◌, ◌++◌, Option, Some, None, refl, sym, ◌∙◌, ap, subst}
use Rattle.std.proofs.lemmas.Option.{none-some}
use Rattle.medium.specs.Count.{counted}
use Rattle.medium.specs.Members.{file_state}
use Rattle.medium.specs.declared.readable.Readable as readable
use Rattle.page_cell.specs.Plant.{PlantState}
use Rattle.page_cell.specs.declared.plant.Pick.{Pick}
use Rattle.page_cell.specs.declared.plant.Pick.TheVariants as picks
use Rattle.bg_saver.proofs.Calls.{split_all, split_cut}
use Rattle.bg_saver.specs.Saver.{SaverData}
use Rattle.bg_saver.specs.Steps.{AllGoWell, FileCall, IsCutShort, Sync, Write, head_call, head_calls}
use Rattle.bg_saver.specs.Turn.{LeavesCourse, LeavesFile, LeavesTaken, LeavesTurn, WritesUnless, course_by, turn_at}
use Rattle.bg_saver.specs.Writes.{is_zeros}
use Rattle.bg_saver.specs.declared.progress.PageInHand.{PageInHand}
use Rattle.bg_saver.specs.declared.save_end.SaveEnd.{SaveEnd}
use Rattle.bg_saver.specs.declared.save_end.SaveEnd.TheVariants as ends
use Rattle.bg_saver.specs.declared.turn.Turn.{Turn}
use Rattle.bg_saver.specs.declared.turn.Turn.TheVariants as turns
use Rattle.sliced_run.specs.Sliced.{IsSyncedBy}

-- how the save ended with this answer, if it did
abbrev pub end_by : Turn → Option SaveEnd
end_by turns.Complete = Some ends.Complete
end_by turns.Failed = Some ends.Failed
end_by _ = None

-- ---- Syncs

-- each call is a write
abbrev AreWrites : List FileCall → Type 0
AreWrites [] = Unit {0}
AreWrites (Write at bytes ∷ calls) = AreWrites calls
AreWrites (Sync ∷ calls) = ⊥

writes_behind : (calls more : List FileCall) → AreWrites calls → AreWrites more → AreWrites (calls ++ more)
writes_behind [] more are also = also
writes_behind (Write at bytes ∷ calls) more are also = writes_behind calls more are also
writes_behind (Sync ∷ calls) more are also = absurd are

head_is_write : (d : SaverData) (block : ℕ) → AreWrites (head_call d block ∷ [])
head_is_write d zero = tt
head_is_write d (suc block) = tt

heads_are_writes : (d : SaverData) (blocks : ℕ) → AreWrites (head_calls d blocks)
heads_are_writes d zero = tt
heads_are_writes d (suc block) = writes_behind (head_calls d block) (head_call d block ∷ []) (heads_are_writes d block) (head_is_write d block)

module _ {M : Type 0} (g : readable.Ghosts M) where
  all_written : (calls : List FileCall) (old new : M) → AreWrites calls → AllGoWell g calls old new → g.syncs new ≡ g.syncs old
  all_written [] old new are all = ap g.syncs all
  all_written (Write at bytes ∷ calls) old new are all = all_written calls all.0 new are all.2 ∙ all.1.syncs
  all_written (Sync ∷ calls) old new are all = absurd are

  cut_written : (calls : List FileCall) (old new : M) → AreWrites calls → IsCutShort g calls old new → g.syncs new ≡ g.syncs old
  cut_written [] old new are cut = absurd cut
  cut_written (Write at bytes ∷ calls) old new are (inl here) = here.syncs
  cut_written (Write at bytes ∷ calls) old new are (inr later) = cut_written calls later.0 new are later.2 ∙ later.1.syncs
  cut_written (Sync ∷ calls) old new are cut = absurd are

  -- a write, a sync, and both again
  abbrev last_calls : (at bt : ℕ) (bytes gate : List ℕ) → List FileCall
  last_calls at bt bytes gate = Write at bytes ∷ (Sync ∷ (Write bt gate ∷ (Sync ∷ [])))

  all_last : (at bt : ℕ) (bytes gate : List ℕ) (old new : M) → AllGoWell g (last_calls at bt bytes gate) old new → g.syncs new ≡ counted (counted (g.syncs old))
  all_last at bt bytes gate old new all =
      let first = all.2 in
      let second = first.2 in
      let third = second.2 in
      ap g.syncs third.2 ∙ third.1.syncs ∙ ap counted (second.1.syncs ∙ first.1.syncs ∙ ap counted all.1.syncs)

  cut_last : (at bt : ℕ) (bytes gate : List ℕ) (old new : M) → IsCutShort g (last_calls at bt bytes gate) old new → (g.syncs new ≡ g.syncs old) ⊎ (g.syncs new ≡ counted (g.syncs old))
  cut_last at bt bytes gate old new (inl write) = inl write.syncs
  cut_last at bt bytes gate old new (inr (a, write, inl sync)) = inl (sync.syncs ∙ write.syncs)
  cut_last at bt bytes gate old new (inr (a, write, inr (b, sync, inl again))) = inr (again.syncs ∙ sync.syncs ∙ ap counted write.syncs)
  cut_last at bt bytes gate old new (inr (a, write, inr (b, sync, inr (c, again, inl last)))) = inr (last.syncs ∙ again.syncs ∙ sync.syncs ∙ ap counted write.syncs)
  cut_last at bt bytes gate old new (inr (a, write, inr (b, sync, inr (c, again, inr (d, last, none))))) = absurd none

  from_here : (a b c : ℕ) → b ≡ a → (c ≡ b) ⊎ (c ≡ counted b) → (c ≡ a) ⊎ (c ≡ counted a)
  from_here a b c same (inl is) = inl (is ∙ same)
  from_here a b c same (inr is) = inr (is ∙ ap counted same)

  finish_syncs : (d : SaverData) (file now : M) (end : SaveEnd) → LeavesFile g d file now end → IsSyncedBy (Some end) (g.syncs file) (g.syncs now)
  finish_syncs d file now ends.Complete all =
      let parts = split_all g (head_calls d d.shape.blocks) _ file now all in
      all_last _ _ _ _ parts.0 now parts.2 ∙ ap (λ n. counted (counted n)) (all_written (head_calls d d.shape.blocks) file parts.0 (heads_are_writes d d.shape.blocks) parts.1)
  finish_syncs d file now ends.Failed cut = elim (split_cut g (head_calls d d.shape.blocks) _ file now cut) as (λ _. (g.syncs now ≡ g.syncs file) ⊎ (g.syncs now ≡ counted (g.syncs file))) [
    | inl heads ↦ inl (cut_written (head_calls d d.shape.blocks) file now (heads_are_writes d d.shape.blocks) heads)
    | inr (mid, all, last) ↦ from_here _ _ _ (all_written (head_calls d d.shape.blocks) file mid (heads_are_writes d d.shape.blocks) all) (cut_last _ _ _ _ mid now last)
  ]

  unless_syncs : (zeros : Bool) (at : ℕ) (bytes : List ℕ) (file now : M) → WritesUnless zeros (now ≡ file) at bytes (file_state g file) (file_state g now) → g.syncs now ≡ g.syncs file
  unless_syncs true at bytes file now same = ap g.syncs same
  unless_syncs false at bytes file now write = write.syncs

-- ---- Turns

-- where the turn completed the save, no page was left, and the plant is the same
abbrev pub CompletesWith : SaverData → Type 0 → SaverData → Turn → Type 0
CompletesWith d same_plant v turns.Complete = (v.left ≡ []) × (d.left ≡ []) × same_plant
CompletesWith d same_plant v _ = Unit {0}

-- what a turn of a save that goes on says by its answer
pub record IsTurned {R M : Type 0} (g : readable.Ghosts M) (d : SaverData) (same_plant : Type 0) (plant now : PlantState R) (file file_now : M) (answer : Turn) (v : SaverData) : Type 0 where
  pub end : v.end ≡ end_by answer
  pub rest : now.rest ≡ plant.rest
  pub syncs : IsSyncedBy (end_by answer) (g.syncs file) (g.syncs file_now)
  pub complete : CompletesWith d same_plant v answer

module _ {R M : Type 0} (g : readable.Ghosts M) (d : SaverData) (same_plant : Type 0) (plant now : PlantState R) (same_rest : same_plant → now.rest ≡ plant.rest) (file file_now : M) (v : SaverData)
    (runs : d.end ≡ None) where
  by_taken : (taken : PageInHand) (answer : Turn) → now.rest ≡ plant.rest → LeavesTaken d (file_now ≡ file) plant now (file_state g file) (file_state g file_now) taken answer v →
      IsTurned g d same_plant plant now file file_now answer v
  by_taken taken turns.Again rest left = record { end = ap (λ (s : SaverData). s.end) left.saver ∙ runs; rest = rest; syncs = ap g.syncs left.file; complete = tt }
  by_taken taken (turns.Skipped p) rest left = record { end = ap (λ (s : SaverData). s.end) left.1.saver ∙ runs; rest = rest; syncs = ap g.syncs left.1.file; complete = tt }
  by_taken taken (turns.Saved p) rest left = record {
    end = ap (λ (s : SaverData). s.end) left.1.1.saver ∙ runs;
    rest = rest;
    syncs = unless_syncs g (is_zeros left.1.0) _ _ file file_now left.1.1.file;
    complete = tt;
  }
  by_taken taken turns.Failed rest left = record { end = ap (λ (s : SaverData). s.end) left.1.saver; rest = rest; syncs = inl left.1.file.syncs; complete = tt }
  by_taken taken turns.Complete rest left = absurd left

  by_end : (end : SaveEnd) (answer : Turn) → d.left ≡ [] → same_plant → answer ≡ turn_at end → v ≡ record d { end = Some end } → LeavesFile g d file file_now end →
      IsTurned g d same_plant plant now file file_now answer v
  by_end ends.Complete answer none same is saver left = subst (λ a. IsTurned g d same_plant plant now file file_now a v) (sym is) (record {
    end = ap (λ (s : SaverData). s.end) saver;
    rest = same_rest same;
    syncs = finish_syncs g d file file_now ends.Complete left;
    complete = (ap (λ (s : SaverData). s.left) saver ∙ none, none, same);
  })
  by_end ends.Failed answer none same is saver left = subst (λ a. IsTurned g d same_plant plant now file file_now a v) (sym is) (record {
    end = ap (λ (s : SaverData). s.end) saver;
    rest = same_rest same;
    syncs = finish_syncs g d file file_now ends.Failed left;
    complete = tt;
  })

  waits : (answer : Turn) → answer ≡ turns.Again → v ≡ d → now.rest ≡ plant.rest → file_now ≡ file → IsTurned g d same_plant plant now file file_now answer v
  waits answer is saver rest same = subst (λ a. IsTurned g d same_plant plant now file file_now a v) (sym is) (record {
    end = ap (λ (s : SaverData). s.end) saver ∙ runs;
    rest = rest;
    syncs = ap g.syncs same;
    complete = tt;
  })

  by_course : (end : Option SaveEnd) (left : List ℕ) (hand : Option PageInHand) (last : Option Pick) (answer : Turn) → d.end ≡ end → d.left ≡ left →
      LeavesCourse g d same_plant plant now file file_now (course_by end left hand last) answer v → IsTurned g d same_plant plant now file file_now answer v
  by_course (Some e) left hand last answer end_is left_is leaves = absurd (none-some e (sym runs ∙ end_is))
  by_course None [] hand last answer end_is left_is leaves = by_end leaves.1.0 answer left_is leaves.0 leaves.1.1.answer leaves.1.1.saver leaves.1.1.file
  by_course None (first ∷ left) (Some h) last answer end_is left_is leaves = by_taken h answer leaves.keeps.rest leaves.taken
  by_course None (first ∷ left) None (Some (picks.Fault p)) answer end_is left_is leaves = by_taken (record { page = p; picked = true }) answer leaves.keeps.rest leaves.taken
  by_course None (first ∷ left) None (Some picks.Empty) answer end_is left_is leaves = by_taken (record { page = first; picked = false }) answer leaves.keeps.rest leaves.taken
  by_course None (first ∷ left) None (Some picks.Busy) answer end_is left_is leaves = waits answer leaves.answer leaves.saver leaves.keeps.rest leaves.file
  by_course None (first ∷ left) None None answer end_is left_is leaves = waits answer leaves.answer leaves.saver leaves.keeps.rest leaves.file

  -- each turn of a save that goes on
  pub turned : (answer : Turn) → LeavesTurn g d same_plant plant now file file_now answer v → IsTurned g d same_plant plant now file file_now answer v
  turned answer leaves = by_course d.end d.left d.hand now.last answer refl refl leaves
