-- A file that is only looked at, call by call.
use Rattle.std.proofs.Common.{inl, inr, ⊎_elim, ℕ, List, refl, ◌∙◌, arith}
use Rattle.medium.specs.Crash.{SameImages, Elapses, LeavesOnly}
use Rattle.medium.specs.States.{FileState, Leaves}
use Rattle.medium.proofs.Runs.{goes_on, after_look}

pub images_stay : (images : List ℕ → Type 0) → SameImages images images
images_stay images image = (λ left. left, λ left. left)

-- images that stay over one call and over the next
pub images_on : {one two three : List ℕ → Type 0} → SameImages one two → SameImages two three → SameImages one three
images_on a b image = (λ left. (a image).0 ((b image).0 left), λ left. (b image).1 ((a image).1 left))

-- no time goes by where nothing is called
pub time_stays : (now : ℕ) (since : ℕ → List ℕ → Type 0) (images : List ℕ → Type 0) → Elapses now now since since images
time_stays now since images = record { later = omega arith; nothing_else = λ t image le left. inl left; keeps = λ t image le left. left }

-- the time of one call and then of the next, over which the images stay
pub time_goes_on : {before mid now : ℕ} {past between since : ℕ → List ℕ → Type 0} {images later_images : List ℕ → Type 0}
    → Elapses before mid past between images → SameImages images later_images → Elapses mid now between since later_images → Elapses before now past since later_images
time_goes_on {before} one same two = record {
  later = omega (arith, one.later, two.later);
  nothing_else = λ t image le left. ⊎_elim (λ mid_left. ⊎_elim (λ old. inl old) (λ here. inr ((same image).1 here)) (one.nothing_else t image le mid_left)) (λ here. inr here) (two.nothing_else t image (omega (arith, le, one.later)) left);
  keeps = λ t image le left. two.keeps t image (omega (arith, le, one.later)) (one.keeps t image le left);
}

-- before the first call
pub leaves_same : (state : FileState) → Leaves state state
leaves_same state = record {
  told = refl;
  syncs = refl;
  never_falls = omega arith;
  images = images_stay state.may_leave;
  time = time_stays state.moment state.left_since state.may_leave;
}

-- one call behind another
pub leaves_on : {old mid new : FileState} → Leaves old mid → Leaves mid new → Leaves old new
leaves_on one two = record {
  told = two.told ∙ one.told;
  syncs = two.syncs ∙ one.syncs;
  never_falls = omega (arith, one.never_falls, two.never_falls);
  images = images_on one.images two.images;
  time = time_goes_on one.time two.images two.time;
}

-- a run of calls goes on with one that only looks
pub look_on : {before : ℕ} {past : ℕ → List ℕ → Type 0} {P : List ℕ → Type 0} {old new : FileState} → LeavesOnly before old.moment past old.left_since P → Leaves old new
    → ((image : List ℕ) → old.may_leave image → P image) → LeavesOnly before new.moment past new.left_since P
look_on so_far looked here = goes_on so_far looked.time (after_look looked.images here)
