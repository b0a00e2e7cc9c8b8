-- How a run of calls on a file goes on, call by call: what a crash may leave at any of its moments.
use Rattle.std.proofs.Common.{inl, inr, ⊎_elim, ℕ, List, sym, subst, arith}
use Rattle.medium.specs.Crash.{Follows, SameImages, Only, Elapses, LeavesOnly}

-- before the first call, by the law that since this moment there is no other image than now
pub started : {now : ℕ} {since : ℕ → List ℕ → Type 0} {images P : List ℕ → Type 0} → ((image : List ℕ) → since now image → images image) → ((image : List ℕ) → images image → P image)
    → LeavesOnly now now since since P
started only_now here = record { later = omega arith; each = λ image left. here image (only_now image left); earlier = λ t image le left. inl left }

-- one call more, after which a crash leaves what has P
pub goes_on : {before mid now : ℕ} {past between since : ℕ → List ℕ → Type 0} {images P : List ℕ → Type 0} → LeavesOnly before mid past between P → Elapses mid now between since images
    → ((image : List ℕ) → images image → P image) → LeavesOnly before now past since P
goes_on {before} so_far time here = record {
  later = omega (arith, so_far.later, time.later);
  each = λ image left. ⊎_elim (so_far.each image) (here image) (time.nothing_else before image so_far.later left);
  earlier = λ t image le left. ⊎_elim (so_far.earlier t image le) (λ now. inr (here image now)) (time.nothing_else t image (omega (arith, le, so_far.later)) left);
}

-- one run behind another
pub run_on : {before mid now : ℕ} {past between since : ℕ → List ℕ → Type 0} {P : List ℕ → Type 0} → LeavesOnly before mid past between P → LeavesOnly mid now between since P
    → LeavesOnly before now past since P
run_on {before} one two = record {
  later = omega (arith, one.later, two.later);
  each = λ image left. ⊎_elim (one.each image) (λ p. p) (two.earlier before image one.later left);
  earlier = λ t image le left. ⊎_elim (one.earlier t image le) (λ p. inr p) (two.earlier t image (omega (arith, le, one.later)) left);
}

-- what has P has Q
pub leaves_weaker : {before now : ℕ} {past since : ℕ → List ℕ → Type 0} {P Q : List ℕ → Type 0} → ((image : List ℕ) → P image → Q image) → LeavesOnly before now past since P
    → LeavesOnly before now past since Q
leaves_weaker f so_far = record {
  later = so_far.later;
  each = λ image left. f image (so_far.each image left);
  earlier = λ t image le left. ⊎_elim (λ old. inl old) (λ p. inr (f image p)) (so_far.earlier t image le left);
}

-- the images after a call that leaves them
pub after_look : {old new P : List ℕ → Type 0} → SameImages old new → ((image : List ℕ) → old image → P image) → (image : List ℕ) → new image → P image
after_look same each image left = each image ((same image).0 left)

-- the images after a step from images that have P
pub after_step : {step : List ℕ → List ℕ → Type 0} {old new P Q : List ℕ → Type 0} → Follows step old new → ((image : List ℕ) → old image → P image)
    → ((before image : List ℕ) → P before → step before image → Q image) → (image : List ℕ) → new image → Q image
after_step follows each f image left = let from = follows image left in f from.0 image (each from.0 from.1) from.2

-- the images after a step from the one of a file that is synced
pub after_synced_step : {bytes : List ℕ} {step : List ℕ → List ℕ → Type 0} {old new : List ℕ → Type 0} → Only bytes old → Follows step old new → (image : List ℕ) → new image → step bytes image
after_synced_step {bytes} {step} only follows image left = let from = follows image left in subst (λ before. step before image) (only from.0 from.1) from.2

-- the images after a sync
pub after_sync : {bytes : List ℕ} {images : List ℕ → Type 0} (P : List ℕ → Type 0) → Only bytes images → P bytes → (image : List ℕ) → images image → P image
after_sync {bytes} {images} P only p image left = subst P (sym (only image left)) p
