-- Lists by place: of each element after a write, after one more, and after a map.
use Rattle.std.proofs.Common.{◌≡◌, ◌≢◌, ◌⊎◌, inl, inr, ⊎_elim, ℕ, zero, suc, ◌+◌, ◌<◌, Bool, true, false, eqb, get_or, take, List, [], ◌∷◌, ◌++◌, length, map, set, refl, sym, ◌∙◌, ap, arith}
use mathlib.Core.Option.{some, some-injective, some-ne-none}
use lib.ListN.{get_elem?}
use Rattle.std.specs.List.{list_any}
use Rattle.std.proofs.lemmas.Bool.{cases_eq, eq-eqb, or_left, or_right}
use Rattle.std.proofs.lemmas.List.{get_or-set_same, get_or-set_other}
use Rattle.atomic_table.proofs.Lists.{set_here, set_else}

-- an element that is there has a place within the list
pub place_within : {A : Type 0} (xs : List A) (i : ℕ) (a : A) → get_elem? xs i ≡ some a → i < length xs
place_within [] i a is = absurd (some-ne-none a (sym is))
place_within (x ∷ xs) zero a is = omega arith
place_within (x ∷ xs) (suc i) a is = (let h = place_within xs i a is in omega (arith, h))

-- one place has one element
pub one_there : {A : Type 0} (xs : List A) (i : ℕ) (a b : A) → get_elem? xs i ≡ some a → get_elem? xs i ≡ some b → a ≡ b
one_there xs i a b is also = some-injective a b (sym is ∙ also)

-- with one more behind, each is as before, or is that one
pub place_push : {A : Type 0} (xs : List A) (i : ℕ) (a b : A) → get_elem? (xs ++ a ∷ []) i ≡ some b →
    (get_elem? xs i ≡ some b) ⊎ ((i ≡ length xs) × (a ≡ b))
place_push [] zero a b is = inr (refl, some-injective a b is)
place_push [] (suc i) a b is = absurd (some-ne-none b (sym is))
place_push (x ∷ xs) zero a b is = inl is
place_push (x ∷ xs) (suc i) a b is = ⊎_elim (λ e. inl e) (λ e. inr ((let h = e.0 in omega (arith, h)), e.1)) (place_push xs i a b is)

-- what a map gives at a place, and where that comes from
pub map_place : {A B : Type 0} (f : A → B) (xs : List A) (i : ℕ) (a : A) → get_elem? xs i ≡ some a → get_elem? (map f xs) i ≡ some (f a)
map_place f [] i a is = absurd (some-ne-none a (sym is))
map_place f (x ∷ xs) zero a is = ap (λ y. some (f y)) (some-injective x a is)
map_place f (x ∷ xs) (suc i) a is = map_place f xs i a is

pub map_came : {A B : Type 0} (f : A → B) (xs : List A) (i : ℕ) (b : B) → get_elem? (map f xs) i ≡ some b →
    (a : A) × (get_elem? xs i ≡ some a) × (f a ≡ b)
map_came f [] i b is = absurd (some-ne-none b (sym is))
map_came f (x ∷ xs) zero b is = (x, refl, some-injective (f x) b is)
map_came f (x ∷ xs) (suc i) b is = map_came f xs i b is

-- a map of a write is a write
pub map_write : {A B : Type 0} (f : A → B) (xs : List A) (i : ℕ) (a : A) → map f (set xs i a) ≡ set (map f xs) i (f a)
map_write f [] i a = refl
map_write f (x ∷ xs) zero a = refl
map_write f (x ∷ xs) (suc i) a = ap (λ ys. f x ∷ ys) (map_write f xs i a)

-- one that changes nothing that f sees leaves the map
pub map_unseen : {A B : Type 0} (f : A → B) (xs : List A) (i : ℕ) (a b : A) → get_elem? xs i ≡ some a → f b ≡ f a → map f (set xs i b) ≡ map f xs
map_unseen f [] i a b is same = refl
map_unseen f (x ∷ xs) zero a b is same = ap (λ y. y ∷ map f xs) (same ∙ ap f (sym (some-injective x a is)))
map_unseen f (x ∷ xs) (suc i) a b is same = ap (λ ys. f x ∷ ys) (map_unseen f xs i a b is same)

-- after a write, the element at each place is the new one, or another as before
pub write_cases : {A : Type 0} (xs : List A) (i j : ℕ) (a old b : A) → get_elem? xs i ≡ some old → get_elem? (set xs i a) j ≡ some b →
    ((j ≡ i) × (a ≡ b)) ⊎ ((j ≢ i) × (get_elem? xs j ≡ some b))
write_cases xs i j a old b was is =
    elim (cases_eq j i) as (λ _. ((j ≡ i) × (a ≡ b)) ⊎ ((j ≢ i) × (get_elem? xs j ≡ some b))) [
      | inl here ↦
          inl (here, some-injective a b (sym (set_here xs i a (place_within xs i old was)) ∙ ap (get_elem? (set xs i a)) (sym here) ∙ is))
      | inr other ↦ inr (other, sym (set_else xs i j a other) ∙ is)
    ]

-- an element that is there is listed
pub place_listed : (xs : List ℕ) (i t : ℕ) → get_elem? xs i ≡ some t → list_any (eqb t) xs ≡ true
place_listed [] i t is = absurd (some-ne-none t (sym is))
place_listed (x ∷ xs) zero t is = or_left (eqb t x) (list_any (eqb t) xs) (eq-eqb t x (sym (some-injective x t is)))
place_listed (x ∷ xs) (suc i) t is = or_right (eqb t x) (list_any (eqb t) xs) (place_listed xs i t is)

-- one element more of a list
pub take_place : {A : Type 0} (xs : List A) (i : ℕ) (a : A) → get_elem? xs i ≡ some a → take (suc i) xs ≡ take i xs ++ a ∷ []
take_place [] i a is = absurd (some-ne-none a (sym is))
take_place (x ∷ xs) zero a is = ap (λ y. y ∷ []) (some-injective x a is)
take_place (x ∷ xs) (suc i) a is = ap (λ ys. x ∷ ys) (take_place xs i a is)

-- a flag after one was put out
pub flag_out : (flags : List Bool) (i k : ℕ) → i < length flags → (k < i → get_or flags k false ≡ false) → k < i + 1 → get_or (set flags i false) k false ≡ false
flag_out flags i k within before below =
    elim (cases_eq k i) as (λ _. get_or (set flags i false) k false ≡ false) [
      | inl here ↦ ap (λ j. get_or (set flags i false) j false) here ∙ get_or-set_same flags i false false within
      | inr other ↦ get_or-set_other flags i k false false other ∙ before (omega (arith, below, other))
    ]
