-- The bytes of a file, where it tells them, from call to call.
use Rattle.std.proofs.Common.{◌≡◌, ℕ, List, Option, Some, None, refl, ap, ◌∙◌}
use Rattle.std.specs.Prelude.{IfSome, option_map}

-- what holds of the bytes that are told
pub when_told : (told : Option (List ℕ)) (P : List ℕ → Type 0) → ((bytes : List ℕ) → told ≡ Some bytes → P bytes) → IfSome told P
when_told (Some bytes) P each = each bytes refl
when_told None P each = tt

pub told_next : (f : List ℕ → List ℕ) (old new : Option (List ℕ)) (bytes : List ℕ) → new ≡ option_map f old → old ≡ Some bytes → new ≡ Some (f bytes)
told_next f old new bytes step is = step ∙ ap (option_map f) is

-- the same, for a call whose argument has another name
pub told_at : {A : Type 0} (f : A → List ℕ → List ℕ) (at place : A) (old new : Option (List ℕ)) (bytes : List ℕ) → at ≡ place → new ≡ option_map (f at) old → old ≡ Some bytes → new ≡ Some (f place bytes)
told_at f at place old new bytes same step is = step ∙ ap (option_map (f at)) is ∙ ap (λ p. Some (f p bytes)) same
