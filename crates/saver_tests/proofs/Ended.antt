-- Whether a turn ended the save, by its answer; and after the end it touches nothing.
use Rattle.std.proofs.Common.{◌≡◌, ℕ, List, [], ◌∷◌, Option, Some, None, refl, sym, ap, ◌∙◌}
use Rattle.medium.specs.States.{FileState}
use Rattle.medium.specs.declared.readable.Readable as readable
use Rattle.page_cell.specs.Plant.{PlantState}
use Rattle.page_cell.specs.declared.plant.Pick.{Pick}
use Rattle.page_cell.specs.declared.plant.Pick.TheVariants as picks
use Rattle.bg_saver.specs.Saver.{SaverData}
use Rattle.bg_saver.specs.Turn.{LeavesCourse, LeavesTaken, LeavesTurn, course_by, turn_at}
use Rattle.bg_saver.specs.declared.progress.PageInHand.{PageInHand}
use Rattle.bg_saver.specs.declared.save_end.SaveEnd.{SaveEnd}
use Rattle.bg_saver.specs.declared.save_end.SaveEnd.TheVariants as ends
use Rattle.bg_saver.specs.declared.turn.Turn.{Turn}
use Rattle.bg_saver.specs.declared.turn.Turn.TheVariants as turns
use Rattle.saver_tests.specs.Ended.{end_after}

end_at : (end : SaveEnd) (before : Option SaveEnd) → end_after (turn_at end) before ≡ Some end
end_at ends.Complete before = refl
end_at ends.Failed before = refl

module _ {R : Type 0} (old : SaverData) (plant now : PlantState R) where
  taken_end : (same_file : Type 0) (old_file new_file : FileState) (taken : PageInHand) (answer : Turn) (new : SaverData) → LeavesTaken old same_file plant now old_file new_file taken answer new
      → new.end ≡ end_after answer old.end
  taken_end same_file old_file new_file taken turns.Again new left = ap (λ (d : SaverData). d.end) left.saver
  taken_end same_file old_file new_file taken (turns.Skipped p) new left = ap (λ (d : SaverData). d.end) left.1.saver
  taken_end same_file old_file new_file taken (turns.Saved p) new left = ap (λ (d : SaverData). d.end) left.1.1.saver
  taken_end same_file old_file new_file taken turns.Failed new left = ap (λ (d : SaverData). d.end) left.1.saver
  taken_end same_file old_file new_file taken turns.Complete new left = absurd left

  module _ {M : Type 0} (g : readable.Ghosts M) (same_plant : Type 0) (file file_now : M) (answer : Turn) (new : SaverData) where
    ends_by : (end : Option SaveEnd) (left : List ℕ) (hand : Option PageInHand) (last : Option Pick) → old.end ≡ end
        → LeavesCourse g old same_plant plant now file file_now (course_by end left hand last) answer new → new.end ≡ end_after answer old.end
    ends_by (Some e) left hand last is leaves =
        ap (λ (d : SaverData). d.end) leaves.saver ∙ is ∙ sym (end_at e old.end) ∙ ap (λ a. end_after a old.end) (sym leaves.answer)
    ends_by None [] hand last is leaves =
        let end = leaves.1.0 in
        ap (λ (d : SaverData). d.end) leaves.1.1.saver ∙ sym (end_at end old.end) ∙ ap (λ a. end_after a old.end) (sym leaves.1.1.answer)
    ends_by None (first ∷ left) (Some h) last is leaves = taken_end _ _ _ h answer new leaves.taken
    ends_by None (first ∷ left) None (Some (picks.Fault p)) is leaves = taken_end _ _ _ _ answer new leaves.taken
    ends_by None (first ∷ left) None (Some picks.Empty) is leaves = taken_end _ _ _ _ answer new leaves.taken
    ends_by None (first ∷ left) None (Some picks.Busy) is leaves = ap (λ (d : SaverData). d.end) leaves.saver ∙ ap (λ a. end_after a old.end) (sym leaves.answer)
    ends_by None (first ∷ left) None None is leaves = ap (λ (d : SaverData). d.end) leaves.saver ∙ ap (λ a. end_after a old.end) (sym leaves.answer)

    pub ends_so : LeavesTurn g old same_plant plant now file file_now answer new → new.end ≡ end_after answer old.end
    ends_so leaves = ends_by old.end old.left old.hand now.last refl leaves

    stays_by : (end : Option SaveEnd) (left : List ℕ) (hand : Option PageInHand) (last : Option Pick) → end ≡ Some ends.Failed
        → LeavesCourse g old same_plant plant now file file_now (course_by end left hand last) answer new → (new ≡ old) × same_plant
    stays_by (Some e) left hand last is leaves = (leaves.saver, leaves.plant)
    stays_by None left hand last is leaves = absurd (cc is)

    pub stays : LeavesTurn g old same_plant plant now file file_now answer new → old.end ≡ Some ends.Failed → (new ≡ old) × same_plant
    stays leaves is = stays_by old.end old.left old.hand now.last is leaves
