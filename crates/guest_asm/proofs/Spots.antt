-- The first of a list's elements that pass a test, as the list grows, and a name that a map has since its first place.
use Rattle.std.proofs.Common.{◌≡◌, ℕ, ◌+◌, ◌<◌, ◌≤◌, ◌++◌, Bool, true, false, List, [], ◌∷◌, length, take, get_or, nat_lt, not, ◌&&◌, ◌||◌, zero, suc, cond, Option, Some, None, IfSome, refl, sym, subst, arith}
use Rattle.std.specs.List.{list_any, position, position_or_len}
use Rattle.std.specs.Map.{update}
use Rattle.std.specs.Option.{option_map_or, option_or}
use Rattle.std.specs.Str.{bytes_eq}
use Rattle.std.proofs.lemmas.Bool.{false_from_ne_true}
use Rattle.std.proofs.lemmas.Grind.{common_steps}
use Rattle.std.proofs.lemmas.List.Folds.{position_or_len_push}
use Rattle.std.proofs.lemmas.List.Sums.{prefix_len-le-length}
use Rattle.std.proofs.lemmas.Slice.Eq.{bytes_eq-Decides}
use Rattle.guest_asm.proofs.Options.{or_none}

-- what names have once one that had nothing is given a value, by whether another is the same
named_by : {A : Type 0} (f : List ℕ → Option A) (name other : List ℕ) (w : A) (b : Bool) → bytes_eq name other ≡ b → f name ≡ None →
    cond b (Some w) (f other) ≡ option_or (f other) (cond (bytes_eq other name) (Some w) None)
named_by f name other w true e new =
    let same : name ≡ other = (bytes_eq-Decides name other).0 e in
    let back : bytes_eq other name ≡ true = (bytes_eq-Decides other name).1 (sym same) in
    let none : f other ≡ None = subst (λ n. f n ≡ None) same new in
    rw (back, none)
named_by f name other w false e new =
    let apart : bytes_eq other name ≡ true → ⊥ = λ h. let t = (bytes_eq-Decides name other).1 (sym ((bytes_eq-Decides other name).0 h)) in cc in
    let back : bytes_eq other name ≡ false = false_from_ne_true (bytes_eq other name) apart in
    rw back (sym (or_none (f other)))

-- what each name has then
pub named : {A : Type 0} (f : List ℕ → Option A) (name other : List ℕ) (w : A) → f name ≡ None →
    update bytes_eq f name (Some w) other ≡ option_or (f other) (cond (bytes_eq other name) (Some w) None)
named f name other w new = named_by f name other w (bytes_eq name other) refl new

-- the first place that passes, with one more element at the end
position_push : {X : Type 0} (p : X → Bool) (xs : List X) (y : X) →
    position p (xs ++ y ∷ []) ≡ option_or (position p xs) (cond (p y) (Some (length xs)) None)
position_push p xs y =
    let within : position_or_len p xs ≤ length xs = prefix_len-le-length (λ x. not (p x)) xs in
    grind (arith, common_steps, position_or_len_push p xs y)

-- and of a list's front, with one more of its elements
pub position_more : {X : Type 0} (p : X → Bool) (xs : List X) (i : ℕ) (d : X) → i < length xs →
    position p (take (i + 1) xs) ≡ option_or (position p (take i xs)) (cond (p (get_or xs i d)) (Some i) None)
position_more p xs i d within = grind (arith, common_steps, position_push)

-- the first place that passes is one of the list
pub position_within : {X : Type 0} (p : X → Bool) (xs : List X) → IfSome (position p xs) (λ i. i < length xs)
position_within p xs = grind arith

-- whether the first that passes is one of so many, with one more element in front
before_step : (b : Bool) (n len i : ℕ) (rest : Bool) → (nat_lt n len && nat_lt n i) ≡ rest →
    (nat_lt (cond (not b) (1 + n) 0) (suc len) && nat_lt (cond (not b) (1 + n) 0) (suc i)) ≡ (b || rest)
before_step true n len i rest h = grind arith
before_step false n len i rest h = grind arith

-- whether it is one of the first i
before_any : {X : Type 0} (p : X → Bool) (xs : List X) (i : ℕ) →
    (nat_lt (position_or_len p xs) (length xs) && nat_lt (position_or_len p xs) i) ≡ list_any p (take i xs)
before_any p [] zero = refl
before_any p [] (suc i) = refl
before_any p (x ∷ xs) zero = grind (arith, common_steps)
before_any p (x ∷ xs) (suc i) = before_step (p x) (position_or_len p xs) (length xs) i (list_any p (take i xs)) (before_any p xs i)

-- some element before number i passes where the first that passes stands before it
pub position_before : {X : Type 0} (p : X → Bool) (xs : List X) (i : ℕ) →
    option_map_or (λ (k : ℕ). nat_lt k i) (position p xs) false ≡ list_any p (take i xs)
position_before p xs i = grind (arith, before_any p xs i)
