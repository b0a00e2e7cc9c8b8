-- The page that a turn takes is the one of its course.
use Rattle.std.proofs.Common.{◌≡◌, ℕ, List, [], ◌∷◌, true, false, Option, Some, None, refl, sym, ap, ◌∙◌, arith}
use Rattle.std.specs.Prelude.{slice_get}
use Rattle.std.proofs.lemmas.Option.{same_Some}
use Rattle.page_cell.specs.Plant.{PlantState, KeepsPlant, LeavesPick}
use Rattle.page_cell.specs.declared.plant.Pick.{Pick}
use Rattle.page_cell.specs.declared.plant.Pick.TheVariants as picks
use Rattle.bg_saver.specs.Saver.{SaverData}
use Rattle.bg_saver.specs.Turn.{Takes, LeavesNoPick, LeavesOnePick, LeavesPicked, LeavesPicks, course_by, course_of, course_to}
use Rattle.bg_saver.specs.declared.progress.PageInHand.{PageInHand}
use Rattle.bg_saver.specs.declared.save_end.SaveEnd.{SaveEnd}

-- the page that the pick calls for, where this one is the first left
abbrev pub next_by : ℕ → Pick → Option PageInHand
next_by first (picks.Fault p) = Some (record { page = p; picked = true })
next_by first picks.Empty = Some (record { page = first; picked = false })
next_by first picks.Busy = None

course_with_hand : (end : Option SaveEnd) (left : List ℕ) (held : Option PageInHand) (last : Option Pick) (first : ℕ) (hand : PageInHand) → end ≡ None → slice_get left 0 ≡ Some first
    → held ≡ Some hand → course_by end left held last ≡ Takes hand
course_with_hand (Some e) left held last first hand runs some is = absurd (cc runs)
course_with_hand None [] held last first hand runs some is = absurd (cc some)
course_with_hand None (a ∷ left) None last first hand runs some is = absurd (cc is)
course_with_hand None (a ∷ left) (Some h) last first hand runs some is = ap Takes (same_Some h hand is)

course_with_pick : (end : Option SaveEnd) (left : List ℕ) (held : Option PageInHand) (first : ℕ) (answer : Pick) → end ≡ None → slice_get left 0 ≡ Some first → held ≡ None
    → course_by end left held (Some answer) ≡ course_to (next_by first answer)
course_with_pick (Some e) left held first answer runs some is = absurd (cc runs)
course_with_pick None [] held first answer runs some is = absurd (cc some)
course_with_pick None (a ∷ left) (Some h) first answer runs some is = absurd (cc is)
course_with_pick None (a ∷ left) None first (picks.Fault p) runs some is = refl
course_with_pick None (a ∷ left) None first picks.Empty runs some is = let same : a ≡ first = same_Some a first some in ap (λ x. Takes (record { page = x; picked = false })) same
course_with_pick None (a ∷ left) None first picks.Busy runs some is = refl

no_picks : {R : Type 0} (held : Option PageInHand) (hand : PageInHand) (old new : PlantState R) → held ≡ Some hand → LeavesNoPick old new → LeavesPicks held old new
no_picks (Some h) hand old new is none = none
no_picks None hand old new is none = absurd (cc is)

one_pick : {R : Type 0} (held : Option PageInHand) (old new : PlantState R) (answer : Pick) → held ≡ None → LeavesOnePick old new answer → LeavesPicks held old new
one_pick (Some h) old new answer is one = absurd (cc is)
one_pick None old new answer is one = (answer, one)

pub keeps_same : {R : Type 0} (plant : PlantState R) → plant.fits → KeepsPlant plant plant
keeps_same plant fits = record { total = refl; rest = refl; stands = λ pages stands. stands; fits = fits; never_falls = omega arith }

pub next_in_hand : {R : Type 0} (d : SaverData) (plant : PlantState R) (first : ℕ) (hand : PageInHand) → d.end ≡ None → slice_get d.left 0 ≡ Some first → plant.fits → Some hand ≡ d.hand
    → LeavesPicked d plant plant (Some hand)
next_in_hand d plant first hand runs some fits is = record {
  keeps = keeps_same plant fits;
  writable = refl;
  picks = no_picks d.hand hand plant plant (sym is) (record { picked = refl; picks = refl; last = refl; queue = refl });
  course = course_with_hand d.end d.left d.hand plant.last first hand runs some (sym is);
}

pub next_picked : {R : Type 0} (d : SaverData) (old new : PlantState R) (first : ℕ) (answer : Pick) → d.end ≡ None → slice_get d.left 0 ≡ Some first → None ≡ d.hand → LeavesPick old new answer
    → LeavesPicked d old new (next_by first answer)
next_picked d old new first answer runs some none pick = record {
  keeps = pick.keeps;
  writable = pick.writable;
  picks = one_pick d.hand old new answer (sym none) (record { picked = pick.picked; cause = pick.cause; picks = pick.picks; last = pick.last; queue = pick.queue });
  course = ap (course_of d) pick.last ∙ course_with_pick d.end d.left d.hand first answer runs some (sym none);
}
