-- The copier's turns, one after another, until every page went in.
use Rattle.std.proofs.Common.{◌≡◌, ℕ, List, [], ◌∷◌, Option, Some, None, refl, ap, ◌∙◌}
use Rattle.page_cell.specs.Plant.{PlantState}
use Rattle.write_pipe.specs.CopyEnd.{CopyData, LeavesChoice, LeavesPush, LeavesTaken, LeavesTurn, LeavesTurnBy, TakesPage, choice}
use Rattle.write_pipe.specs.declared.copy_end.Wanted.{Wanted}
use Rattle.write_pipe.specs.declared.copy_turn.CopyTurn.{CopyTurn}
use Rattle.write_pipe.specs.declared.copy_turn.CopyTurn.TheVariants as turns
use Rattle.write_pipe.specs.declared.outlet.InHand.{InHand}

module _ {P R : Type 0} (d : CopyData P) (same_plant : Type 0) (plant now : PlantState R) (new : CopyData P) where
  abbrev HasSameFrom : Type 0
  HasSameFrom = new.inlet.from ≡ d.inlet.from

  same_from : {e : CopyData P} → new ≡ e → new.inlet.from ≡ e.inlet.from
  same_from end = ap (λ (c : CopyData P). c.inlet.from) end

  pushed : (hand : InHand) (answer : CopyTurn) → LeavesPush d hand answer new → HasSameFrom
  pushed hand (turns.Passed p) (page, end) = same_from end
  pushed hand turns.Full end = same_from end
  pushed hand (turns.Skipped p) none = absurd none
  pushed hand turns.Again none = absurd none
  pushed hand turns.NoSpare none = absurd none
  pushed hand turns.Done none = absurd none

  by_taken : (taken : Wanted) (answer : CopyTurn) → LeavesTaken d plant now taken answer new → HasSameFrom
  by_taken taken turns.Again (end, rose, writable) = same_from end
  by_taken taken (turns.Skipped p) (page, end, stale, writable) = same_from end
  by_taken taken (turns.Passed p) (page, (bytes, copied, end)) = same_from end
  by_taken taken turns.Full (bytes, copied, end) = same_from end
  by_taken taken turns.NoSpare none = absurd none
  by_taken taken turns.Done none = absurd none

  by_choice : (next : Option Wanted) (answer : CopyTurn) → LeavesChoice d plant now next answer new → HasSameFrom
  by_choice (Some taken) answer leaves = by_taken taken answer leaves
  by_choice None answer (again, end, rose, writable) = same_from end

  abbrev KeepsEnd : Type 0
  KeepsEnd = (now.rest ≡ plant.rest) × HasSameFrom

  by_page : (first : ℕ) (answer : CopyTurn) → TakesPage d first plant now answer new → KeepsEnd
  by_page first answer takes = (takes.keeps.rest, by_choice (choice d.wanted first now.last) answer takes.taken)

  kept_by : (same_plant → now.rest ≡ plant.rest) → (hand : Option InHand) (left : List ℕ) (answer : CopyTurn) → LeavesTurnBy hand left d same_plant plant now answer new → KeepsEnd
  kept_by same_rest (Some hand) left answer (push, same) = (same_rest same, pushed hand answer push)
  kept_by same_rest None [] answer (done, end, same) = (same_rest same, same_from end)
  kept_by same_rest None (first ∷ left) turns.NoSpare (end, same) = (same_rest same, same_from end)
  kept_by same_rest None (first ∷ left) turns.Again takes = by_page first turns.Again takes
  kept_by same_rest None (first ∷ left) (turns.Skipped p) takes = by_page first (turns.Skipped p) takes
  kept_by same_rest None (first ∷ left) (turns.Passed p) takes = by_page first (turns.Passed p) takes
  kept_by same_rest None (first ∷ left) turns.Full takes = by_page first turns.Full takes
  kept_by same_rest None (first ∷ left) turns.Done takes = by_page first turns.Done takes

  -- what no turn changes
  pub turn_kept : (same_plant → now.rest ≡ plant.rest) → (answer : CopyTurn) → LeavesTurn d same_plant plant now answer new → KeepsEnd
  turn_kept same_rest answer leaves = kept_by same_rest d.hand d.left answer leaves

  none_chosen : (next : Option Wanted) → LeavesChoice d plant now next turns.Done new → ⊥
  none_chosen (Some taken) none = none
  none_chosen None (again, end, rose, writable) = cc again

  done_by : (hand : Option InHand) (left : List ℕ) → d.hand ≡ hand → d.left ≡ left → LeavesTurnBy hand left d same_plant plant now turns.Done new → (new.left ≡ []) × (new.hand ≡ None)
  done_by (Some hand) left here some (push, same) = absurd push
  done_by None [] here none (done, end, same) = (ap (λ (c : CopyData P). c.left) end ∙ none, ap (λ (c : CopyData P). c.hand) end ∙ here)
  done_by None (first ∷ left) here some takes = absurd (none_chosen (choice d.wanted first now.last) takes.taken)

  -- behind the last turn nothing is left
  pub turn_done : LeavesTurn d same_plant plant now turns.Done new → (new.left ≡ []) × (new.hand ≡ None)
  turn_done leaves = done_by d.hand d.left refl refl leaves
