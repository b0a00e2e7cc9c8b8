-- A file of which nothing is known may be left as anything.
use Rattle.std.proofs.Common.{ℕ, List, refl, arith}
use Rattle.std.proofs.lemmas.List.{take_min}
use Rattle.medium.specs.Crash.{Torn, Follows}

torn_same : (at n : ℕ) (file : List ℕ) → Torn at n file file
torn_same at n file = record { before = take_min at file; after = refl; no_shorter = omega arith }

pub torn_anything : (at n : ℕ) → Follows (Torn at n) (λ _. Unit {0}) (λ _. Unit {0})
torn_anything at n image left = (image, tt, torn_same at n image)
