-- Lists by their members.
use Rattle.std.proofs.Common.{◌≡◌, ℕ, zero, suc, ◌+◌, ◌<◌, Bool, List, [], ◌∷◌, ◌++◌, All, drop, get_or, length, replicate, take, Some, refl, sym, ap, subst, arith, length-append}
use Rattle.std.specs.List.{slice_get}
use Rattle.std.proofs.lemmas.Option.{none-some, same_Some}

-- what is so of each member, and of one more behind them
pub each_push : {A : Type 0} (P : ℕ → A → Type 0) (xs : List A) (x : A) → ((k : ℕ) (a : A) → slice_get xs k ≡ Some a → P k a) → P (length xs) x →
    (k : ℕ) (a : A) → slice_get (xs ++ x ∷ []) k ≡ Some a → P k a
each_push P [] x all last zero a is = subst (P 0) (same_Some x a is) last
each_push P [] x all last (suc k) a is = absurd (none-some a is)
each_push P (y ∷ ys) x all last zero a is = all 0 a is
each_push P (y ∷ ys) x all last (suc k) a is = each_push (λ j. P (suc j)) ys x (λ j. all (suc j)) last k a is

-- the member behind a front
pub behind : {A : Type 0} (xs : List A) (y : A) (ys : List A) → slice_get (xs ++ y ∷ ys) (length xs) ≡ Some y
behind [] y ys = refl
behind (x ∷ xs) y ys = behind xs y ys

-- a list and its last member
pub last_off : {A : Type 0} (n : ℕ) (xs : List A) (x : A) → length xs ≡ n + 1 → slice_get xs n ≡ Some x → xs ≡ take n xs ++ x ∷ []
last_off n [] x count is = absurd (omega (arith, count))
last_off zero (y ∷ []) x count is = ap (λ z. z ∷ []) (same_Some y x is)
last_off zero (y ∷ z ∷ ys) x count is = absurd (omega (arith, count))
last_off (suc n) (y ∷ ys) x count is = ap (λ zs. y ∷ zs) (last_off n ys x (omega (arith, count)) is)

-- the members of a front
pub front_get : {A : Type 0} (n : ℕ) (xs : List A) (k : ℕ) → k < n → slice_get (take n xs) k ≡ slice_get xs k
front_get zero xs k below = absurd (omega (arith, below))
front_get (suc n) [] k below = refl
front_get (suc n) (x ∷ xs) zero below = refl
front_get (suc n) (x ∷ xs) (suc k) below = front_get n xs k (omega (arith, below))

-- a member of the front of two lists
pub in_front : {A : Type 0} (xs ys : List A) (k : ℕ) → k < length xs → slice_get (xs ++ ys) k ≡ slice_get xs k
in_front [] ys k below = absurd (omega (arith, below))
in_front (x ∷ xs) ys zero below = refl
in_front (x ∷ xs) ys (suc k) below = in_front xs ys k (omega (arith, below))

-- the head of a rest
pub drop_head : {A : Type 0} (n : ℕ) (xs : List A) (y : A) (ys : List A) → drop n xs ≡ y ∷ ys → (slice_get xs n ≡ Some y) × (drop (suc n) xs ≡ ys)
drop_head zero [] y ys is = absurd (cc)
drop_head zero (x ∷ xs) y ys is = ((let e : x ≡ y = cc in ap Some e), (let e : xs ≡ ys = cc in e))
drop_head (suc n) [] y ys is = absurd (cc)
drop_head (suc n) (x ∷ xs) y ys is =
    let h = drop_head n xs y ys is in
    (h.0, h.1)

-- what is so of all members is so of those of a front
pub all_front : {A : Type 0} (P : A → Type 0) (xs ys : List A) → All P (xs ++ ys) → All P xs
all_front P xs ys all k d below =
    subst P (get_or_front xs ys k d below) (all k d (let h = length-append xs ys in omega (arith, below, h)))
  where
    get_or_front : {A : Type 0} (xs ys : List A) (k : ℕ) (d : A) → k < length xs → get_or (xs ++ ys) k d ≡ get_or xs k d
    get_or_front [] ys k d below = absurd (omega (arith, below))
    get_or_front (x ∷ xs) ys zero d below = refl
    get_or_front (x ∷ xs) ys (suc k) d below = get_or_front xs ys k d (omega (arith, below))

-- flags that are all the same
pub flag_is : (w : Bool) (n p : ℕ) (x : Bool) → slice_get (replicate n w) p ≡ Some x → x ≡ w
flag_is w zero p x is = absurd (none-some x is)
flag_is w (suc n) zero x is = sym (same_Some w x is)
flag_is w (suc n) (suc p) x is = flag_is w n p x is
