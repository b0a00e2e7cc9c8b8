-- A list of steps that were events (this project's own, docs/ARCHITECTURE.md).
use Rattle.std.specs.Prelude.{◌≡◌, ℕ, List, [], ◌∷◌, Some}
use Rattle.lazy_restore.specs.Answers.{Steps}
use Rattle.lazy_restore.specs.Lazy.{LazyData}

-- from old to new by steps of these vCPUs, over a file that tells its bytes
abbrev pub StepsBy : List ℕ → LazyData → List ℕ → LazyData → Type 0
StepsBy file old [] new = new ≡ old
StepsBy file old (k ∷ o) new = (mid : LazyData) × Steps (Some file) old k mid × StepsBy file mid o new
