-- What functions give of a thing that may be missing.
use Rattle.std.proofs.Common.{◌≡◌, Bool, true, false, cond, Option, Some, None, IfSome, refl, ap}
use Rattle.std.specs.Option.{option_map, option_map_or, option_or}

-- one thing or else nothing is that thing
pub or_none : {A : Type 0} (o : Option A) → option_or o None ≡ o
or_none None = refl
or_none (Some a) = refl

-- a fact of what is there, from another
pub IfSome-map : {A : Type 0} (P Q : A → Type 0) (o : Option A) → ((a : A) → P a → Q a) → IfSome o P → IfSome o Q
IfSome-map P Q None f h = h
IfSome-map P Q (Some a) f h = f a h

-- two functions that agree on what is there give the same of it
pub map_same : {A B : Type 0} (f g : A → B) (o : Option A) → IfSome o (λ a. f a ≡ g a) → option_map f o ≡ option_map g o
map_same f g None h = refl
map_same f g (Some a) h = ap Some h

-- a function after another
pub map_map : {A B C : Type 0} (f : B → C) (g : A → B) (o : Option A) → option_map f (option_map g o) ≡ option_map (λ (a : A). f (g a)) o
map_map f g None = refl
map_map f g (Some a) = refl

-- and with what stands for a missing thing
pub or_map : {A B C : Type 0} (f : B → C) (g : A → B) (o : Option A) (d : C) → option_map_or f (option_map g o) d ≡ option_map_or (λ (a : A). f (g a)) o d
or_map f g None d = refl
or_map f g (Some a) d = refl

-- a function of one thing or else of another
pub map_or : {A B : Type 0} (f : A → B) (o p : Option A) → option_map f (option_or o p) ≡ option_or (option_map f o) (option_map f p)
map_or f None p = refl
map_or f (Some a) p = refl

-- and of what is there only if a test passes
pub map_if : {A B : Type 0} (f : A → B) (b : Bool) (a : A) → option_map f (cond b (Some a) None) ≡ cond b (Some (f a)) None
map_if f true a = refl
map_if f false a = refl
