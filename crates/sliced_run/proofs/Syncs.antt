-- How often a turn of the saver makes sure of the file.
use Rattle.std.proofs.Common.{◌≡◌, ◌⊎◌, inl, inr, ℕ, zero, suc, Bool, true, false, List, [], ◌∷◌, ◌++◌, Option, Some, None, refl, sym, ◌∙◌, ap, subst}
use Rattle.medium.specs.Count.{counted}
use Rattle.medium.specs.Members.{file_state}
use Rattle.medium.specs.declared.readable.Readable as readable
use Rattle.flat_machine.specs.Machine.{MachineData}
use Rattle.page_cell.specs.declared.plant.Pick.{Pick}
use Rattle.page_cell.specs.declared.plant.Pick.TheVariants as picks
use Rattle.plain_bus.specs.Bus.{BusData}
use Rattle.plain_bus.specs.Plant.{plant_state}
use Rattle.bg_saver.proofs.Calls.{split_all, split_cut}
use Rattle.bg_saver.specs.Saver.{SaverData}
use Rattle.bg_saver.specs.Steps.{AllGoWell, FileCall, IsCutShort, Sync, Write, finish_calls, head_call, head_calls}
use Rattle.bg_saver.specs.Turn.{Course, Finishes, HasEnded as EndedCourse, LeavesCourse, LeavesTaken, LeavesTurn, LeavesFile, Takes, Waits, WritesUnless, course_by, course_of, turn_at}
use Rattle.bg_saver.specs.Writes.{LeavesWrite, is_zeros}
use Rattle.bg_saver.specs.declared.progress.PageInHand.{PageInHand}
use Rattle.bg_saver.specs.declared.save_end.SaveEnd.{SaveEnd}
use Rattle.bg_saver.specs.declared.save_end.SaveEnd.TheVariants as ends
use Rattle.bg_saver.specs.declared.turn.Turn.{Turn}
use Rattle.bg_saver.specs.declared.turn.Turn.TheVariants as turns
use Rattle.sliced_run.specs.Sliced.{IsSliced, SlicedData}

-- by the answer of a turn of a save that went on
abbrev pub IsSyncedAfter : Turn → ℕ → ℕ → Type 0
IsSyncedAfter turns.Complete old new = new ≡ counted (counted old)
IsSyncedAfter turns.Failed old new = (new ≡ old) ⊎ (new ≡ counted old)
IsSyncedAfter _ old new = new ≡ old

-- each call is a write
abbrev AreWrites : List FileCall → Type 0
AreWrites [] = Unit {0}
AreWrites (Write at bytes ∷ calls) = AreWrites calls
AreWrites (Sync ∷ calls) = ⊥

writes_behind : (calls more : List FileCall) → AreWrites calls → AreWrites more → AreWrites (calls ++ more)
writes_behind [] more are also = also
writes_behind (Write at bytes ∷ calls) more are also = writes_behind calls more are also
writes_behind (Sync ∷ calls) more are also = absurd are

head_is_write : (d : SaverData) (block : ℕ) → AreWrites (head_call d block ∷ [])
head_is_write d zero = tt
head_is_write d (suc block) = tt

heads_are_writes : (d : SaverData) (blocks : ℕ) → AreWrites (head_calls d blocks)
heads_are_writes d zero = tt
heads_are_writes d (suc block) = writes_behind (head_calls d block) (head_call d block ∷ []) (heads_are_writes d block) (head_is_write d block)

-- not by the choice of a page
never_ended : (left : List ℕ) (hand : Option PageInHand) (picked : Option Pick) (end : SaveEnd) → course_by None left hand picked ≡ EndedCourse end → ⊥
never_ended [] hand picked end is = cc is
never_ended (first ∷ left) (Some hand) picked end is = cc is
never_ended (first ∷ left) None (Some (picks.Fault p)) end is = cc is
never_ended (first ∷ left) None (Some picks.Empty) end is = cc is
never_ended (first ∷ left) None (Some picks.Busy) end is = cc is
never_ended (first ∷ left) None None end is = cc is

module _ {M : Type 0} (g : readable.Ghosts M) where
  all_written : (calls : List FileCall) (old new : M) → AreWrites calls → AllGoWell g calls old new → g.syncs new ≡ g.syncs old
  all_written [] old new are all = ap g.syncs all
  all_written (Write at bytes ∷ calls) old new are all = all_written calls all.0 new are all.2 ∙ all.1.syncs
  all_written (Sync ∷ calls) old new are all = absurd are

  cut_written : (calls : List FileCall) (old new : M) → AreWrites calls → IsCutShort g calls old new → g.syncs new ≡ g.syncs old
  cut_written [] old new are cut = absurd cut
  cut_written (Write at bytes ∷ calls) old new are (inl here) = here.syncs
  cut_written (Write at bytes ∷ calls) old new are (inr later) = cut_written calls later.0 new are later.2 ∙ later.1.syncs
  cut_written (Sync ∷ calls) old new are cut = absurd are

  -- a write, a sync, and both again
  abbrev last_calls : (at bt : ℕ) (bytes gate : List ℕ) → List FileCall
  last_calls at bt bytes gate = Write at bytes ∷ (Sync ∷ (Write bt gate ∷ (Sync ∷ [])))

  all_last : (at bt : ℕ) (bytes gate : List ℕ) (old new : M) → AllGoWell g (last_calls at bt bytes gate) old new → g.syncs new ≡ counted (counted (g.syncs old))
  all_last at bt bytes gate old new all =
      let first = all.2 in
      let second = first.2 in
      let third = second.2 in
      ap g.syncs third.2 ∙ third.1.syncs ∙ ap counted (second.1.syncs ∙ first.1.syncs ∙ ap counted all.1.syncs)

  cut_last : (at bt : ℕ) (bytes gate : List ℕ) (old new : M) → IsCutShort g (last_calls at bt bytes gate) old new → (g.syncs new ≡ g.syncs old) ⊎ (g.syncs new ≡ counted (g.syncs old))
  cut_last at bt bytes gate old new (inl write) = inl write.syncs
  cut_last at bt bytes gate old new (inr (a, write, inl sync)) = inl (sync.syncs ∙ write.syncs)
  cut_last at bt bytes gate old new (inr (a, write, inr (b, sync, inl again))) = inr (again.syncs ∙ sync.syncs ∙ ap counted write.syncs)
  cut_last at bt bytes gate old new (inr (a, write, inr (b, sync, inr (c, again, inl last)))) = inr (last.syncs ∙ again.syncs ∙ sync.syncs ∙ ap counted write.syncs)
  cut_last at bt bytes gate old new (inr (a, write, inr (b, sync, inr (c, again, inr (d, last, none))))) = absurd none

  from_here : (a b c : ℕ) → b ≡ a → (c ≡ b) ⊎ (c ≡ counted b) → (c ≡ a) ⊎ (c ≡ counted a)
  from_here a b c same (inl is) = inl (is ∙ same)
  from_here a b c same (inr is) = inr (is ∙ ap counted same)

  finish_syncs : (d : SaverData) (file now : M) (end : SaveEnd) → LeavesFile g d file now end → IsSyncedAfter (turn_at end) (g.syncs file) (g.syncs now)
  finish_syncs d file now ends.Complete all =
      let parts = split_all g (head_calls d d.shape.blocks) _ file now all in
      all_last _ _ _ _ parts.0 now parts.2 ∙ ap (λ n. counted (counted n)) (all_written (head_calls d d.shape.blocks) file parts.0 (heads_are_writes d d.shape.blocks) parts.1)
  finish_syncs d file now ends.Failed cut = elim (split_cut g (head_calls d d.shape.blocks) _ file now cut) as (λ _. (g.syncs now ≡ g.syncs file) ⊎ (g.syncs now ≡ counted (g.syncs file))) [
    | inl heads ↦ inl (cut_written (head_calls d d.shape.blocks) file now (heads_are_writes d d.shape.blocks) heads)
    | inr (mid, all, last) ↦ from_here _ _ _ (all_written (head_calls d d.shape.blocks) file mid (heads_are_writes d d.shape.blocks) all) (cut_last _ _ _ _ mid now last)
  ]

  unless_syncs : (zeros : Bool) (at : ℕ) (bytes : List ℕ) (file now : M) → WritesUnless zeros (now ≡ file) at bytes (file_state g file) (file_state g now) → g.syncs now ≡ g.syncs file
  unless_syncs true at bytes file now same = ap g.syncs same
  unless_syncs false at bytes file now write = write.syncs

  taken_syncs : (d v : SaverData) (x b : BusData) (file now : M) (taken : PageInHand) (answer : Turn) →
      LeavesTaken d (now ≡ file) (plant_state x) (plant_state b) (file_state g file) (file_state g now) taken answer v → IsSyncedAfter answer (g.syncs file) (g.syncs now)
  taken_syncs d v x b file now taken turns.Again leaves = ap g.syncs leaves.file
  taken_syncs d v x b file now taken (turns.Skipped p) leaves = ap g.syncs leaves.1.file
  taken_syncs d v x b file now taken (turns.Saved p) leaves = unless_syncs (is_zeros leaves.1.0) _ _ file now leaves.1.1.file
  taken_syncs d v x b file now taken turns.Failed leaves = inl leaves.1.file.syncs
  taken_syncs d v x b file now taken turns.Complete leaves = absurd leaves

  course_syncs : (d v : SaverData) (same_bus : Type 0) (x b : BusData) (file now : M) (course : Course) (answer : Turn) → ((end : SaveEnd) → course ≡ EndedCourse end → ⊥) →
      LeavesCourse g d same_bus (plant_state x) (plant_state b) file now course answer v → IsSyncedAfter answer (g.syncs file) (g.syncs now)
  course_syncs d v same_bus x b file now (EndedCourse end) answer goes leaves = absurd (goes end refl)
  course_syncs d v same_bus x b file now Finishes answer goes leaves =
      subst (λ a. IsSyncedAfter a (g.syncs file) (g.syncs now)) (sym leaves.1.1.answer) (finish_syncs d file now leaves.1.0 leaves.1.1.file)
  course_syncs d v same_bus x b file now Waits answer goes leaves = subst (λ a. IsSyncedAfter a (g.syncs file) (g.syncs now)) (sym leaves.answer) (ap g.syncs leaves.file)
  course_syncs d v same_bus x b file now (Takes taken) answer goes leaves = taken_syncs d v x b file now taken answer leaves.taken

  -- of a turn of a save that went on
  pub turn_syncs : (i : MachineData) (n : ℕ) (x : SlicedData) (b : BusData) (v : SaverData) (file now : M) (answer : Turn) → IsSliced i n x → x.saved ≡ None →
      LeavesTurn g x.saver (b ≡ x.bus) (plant_state x.bus) (plant_state b) file now answer v → IsSyncedAfter answer (g.syncs file) (g.syncs now)
  turn_syncs i n x b v file now answer is runs leaves =
      course_syncs x.saver v (b ≡ x.bus) x.bus b file now (course_of x.saver (plant_state b).last) answer
      (λ end same. never_ended x.saver.left x.saver.hand (plant_state b).last end
      (subst (λ o. course_by o x.saver.left x.saver.hand (plant_state b).last ≡ EndedCourse end) (is.saved ∙ runs) same)) leaves
