-- What a function gives of each number of a range, one after the other.
use Rattle.std.proofs.Common.{◌≡◌, ◌≢◌, ◌∙◌, ⊎_elim, ℕ, ◌+◌, ◌<◌, ◌≤◌, ◌++◌, zero, suc, List, [], ◌∷◌, length, map, get_or, Option, Some, None, refl, sym, ap, ap₂, subst, arith}
use Rattle.std.proofs.lemmas.Bool.{cases_eq}
use Rattle.std.specs.List.{cons_option, filter_map, range_with_len, slice_get}
use Rattle.std.specs.Option.{option_to_list}
use Rattle.std.proofs.lemmas.List.Elements.{filter_map-append}

-- a range with one more number
range_more : (a n j : ℕ) → a + n ≡ j → range_with_len a (suc n) ≡ range_with_len a n ++ j ∷ []
range_more a zero j e =
    let same : a ≡ j = omega arith in
    ap (λ (k : ℕ). k ∷ []) same
range_more a (suc n) j e = ap (λ (ks : List ℕ). a ∷ ks) (range_more (a + 1) n j (omega arith))

-- what a function gives of one number
given_once : {A B : Type 0} (h : A → Option B) (a : A) → filter_map h (a ∷ []) ≡ option_to_list (h a)
given_once h a = elim (h a) as (λ o. cons_option o [] ≡ option_to_list o) [ None ↦ refl | Some b ↦ refl ]

-- what it gives of the first numbers, with one more
pub given_more : {A : Type 0} (h : ℕ → Option A) (n : ℕ) →
    filter_map h (range_with_len 0 (suc n)) ≡ filter_map h (range_with_len 0 n) ++ option_to_list (h n)
given_more {A = A} h n =
    ap (filter_map h) (range_more 0 n n (omega arith)) ∙ filter_map-append h (range_with_len 0 n) (n ∷ [])
    ∙ ap (λ (bs : List A). filter_map h (range_with_len 0 n) ++ bs) (given_once h n)

-- nothing, where it gives nothing of any number
pub none_from : {A : Type 0} (h : ℕ → Option A) (a n : ℕ) → ((k : ℕ) → a ≤ k → k < a + n → h k ≡ None) →
    filter_map h (range_with_len a n) ≡ []
none_from h a zero none = refl
none_from h a (suc n) none =
    rw (none a (omega arith) (omega arith)) (none_from h (a + 1) n (λ k least below. none k (omega arith) (omega arith)))

-- so of the first numbers
pub none_given : {A : Type 0} (h : ℕ → Option A) (n : ℕ) → ((k : ℕ) → k < n → h k ≡ None) → filter_map h (range_with_len 0 n) ≡ []
none_given h n none = none_from h 0 n (λ k least below. none k (omega arith))

-- the first that it gives, where it gives nothing of the numbers before
first_from : {A : Type 0} (h : ℕ → Option A) (a n i : ℕ) (y : A) → a ≤ i → i < a + n → ((k : ℕ) → a ≤ k → k < i → h k ≡ None) → h i ≡ Some y →
    slice_get (filter_map h (range_with_len a n)) 0 ≡ Some y
first_from h a zero i y least within none found = absurd (omega arith)
first_from h a (suc n) i y least within none found =
    ⊎_elim
    (λ (e : a ≡ i). let here : h a ≡ Some y = subst (λ (k : ℕ). h k ≡ Some y) (sym e) found in rw here)
    (λ (ne : a ≢ i).
    rw (none a (omega arith) (omega arith))
    (first_from h (a + 1) n i y (omega arith) (omega arith) (λ k low below. none k (omega arith) below) found))
    (cases_eq a i)

-- so of the first numbers
pub first_given : {A : Type 0} (h : ℕ → Option A) (n i : ℕ) (y : A) → i < n → ((k : ℕ) → k < i → h k ≡ None) → h i ≡ Some y →
    slice_get (filter_map h (range_with_len 0 n)) 0 ≡ Some y
first_given h n i y within none found = first_from h 0 n i y (omega arith) (omega arith) (λ k least below. none k below) found

-- something at each but the last, told by the elements of a list, and nothing at the last
pub filter_map_each : {X Y : Type 0} (h : ℕ → Option Y) (f : X → Y) (xs : List X) (a n : ℕ) → n ≡ length xs + 1 →
    ((i : ℕ) (d : X) → i < length xs → h (a + i) ≡ Some (f (get_or xs i d))) → h (a + length xs) ≡ None →
    filter_map h (range_with_len a n) ≡ map f xs
filter_map_each h f [] a n long each last =
    let alone : h a ≡ None = ap h {x = a} {y = a + 0} (omega arith) ∙ last in
    ap (λ m. filter_map h (range_with_len a m)) {x = n} {y = 1} long ∙ ap (λ o. cons_option o []) alone
filter_map_each h f (x ∷ xs) a n long each last =
    let first : h a ≡ Some (f x) = ap h {x = a} {y = a + 0} (omega arith) ∙ each 0 x (omega arith) in
    let rest = filter_map_each h f xs (a + 1) (length xs + 1) refl
    (λ i d within. ap h {x = a + 1 + i} {y = a + suc i} (omega arith) ∙ each (suc i) d (omega arith))
    (ap h {x = a + 1 + length xs} {y = a + suc (length xs)} (omega arith) ∙ last) in
    ap (λ m. filter_map h (range_with_len a m)) {x = n} {y = suc (length xs + 1)} (omega arith)
    ∙ ap₂ (λ o ys. cons_option o ys) first rest
