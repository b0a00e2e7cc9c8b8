-- Texts of numbers in a row: those before one, its own, and those behind it.
use Rattle.std.proofs.Common.{◌≡◌, ℕ, zero, suc, ◌+◌, ◌-◌, ◌<◌, ◌≤◌, List, ◌++◌, Option, option_map, Result, Ok, Err, OnErr, sym, ap, subst, ◌∙◌, arith, append_assoc, append-nil}
use Rattle.std.specs.List.{flat_map, range_with_len}
use Rattle.medium.specs.Bytes.{AddsFront, BecomesTold}
use Rattle.medium.proofs.Taken.{front_alone, whole_then_front, whole_then_whole}

-- with one more number
pub range_more : (f : ℕ → List ℕ) (a n j : ℕ) → a + n ≡ j → flat_map f (range_with_len a (n + 1)) ≡ flat_map f (range_with_len a n) ++ f j
range_more f a zero j is =
    let same : a ≡ j = omega arith in
    append-nil (f a) ∙ ap f same
range_more f a (suc n) j is =
    let on : suc n + 1 ≡ suc (n + 1) = omega arith in
    ap (λ i. flat_map f (range_with_len a i)) on
    ∙ ap (λ (l : List ℕ). f a ++ l) (range_more f (a + 1) n j (omega arith))
    ∙ sym (append_assoc (f a) (flat_map f (range_with_len (a + 1) n)) (f j))

-- all of them, by one within
pub range_within : (f : ℕ → List ℕ) (a i n j : ℕ) → a + i ≡ j → i < n →
    flat_map f (range_with_len a n) ≡ flat_map f (range_with_len a i) ++ (f j ++ flat_map f (range_with_len (j + 1) (n - (i + 1))))
range_within f a i zero j is inside = absurd (omega arith)
range_within f a zero (suc n) j is inside =
    let same : a ≡ j = omega arith in
    let left : n ≡ suc n - 1 = omega arith in
    ap (λ b. f b ++ flat_map f (range_with_len (b + 1) n)) same ∙ ap (λ m. f j ++ flat_map f (range_with_len (j + 1) m)) left
range_within f a (suc i) (suc n) j is inside =
    let left : n - (i + 1) ≡ suc n - (suc i + 1) = omega arith in
    ap (λ (l : List ℕ). f a ++ l) (range_within f (a + 1) i n j (omega arith) (omega arith))
    ∙ sym (append_assoc (f a) (flat_map f (range_with_len (a + 1) i)) (f j ++ flat_map f (range_with_len (j + 1) (n - (i + 1)))))
    ∙ ap (λ m. (f a ++ flat_map f (range_with_len (a + 1) i)) ++ (f j ++ flat_map f (range_with_len (j + 1) m))) left

-- an output that took the texts of the numbers below one, and then its own
pub taken_more : (f : ℕ → List ℕ) (i : ℕ) (written : List ℕ) (old mid new : Option (List ℕ)) →
    mid ≡ option_map (λ before. before ++ flat_map f (range_with_len 0 i)) old → written ≡ f i →
    new ≡ option_map (λ before. before ++ written) mid → new ≡ option_map (λ before. before ++ flat_map f (range_with_len 0 (i + 1))) old
taken_more f i written old mid new before is now =
    subst (λ (text : List ℕ). new ≡ option_map (λ b. b ++ text) old)
    (ap (λ (text : List ℕ). flat_map f (range_with_len 0 i) ++ text) is ∙ sym (range_more f 0 i i (omega arith)))
    (whole_then_whole (flat_map f (range_with_len 0 i)) written old mid new before now)

-- or a front of its own: then it took a front of all
pub taken_within : (f : ℕ → List ℕ) (i n : ℕ) (written : List ℕ) (old mid new : Option (List ℕ)) → i < n →
    mid ≡ option_map (λ before. before ++ flat_map f (range_with_len 0 i)) old → written ≡ f i →
    BecomesTold (AddsFront written) mid new → BecomesTold (AddsFront (flat_map f (range_with_len 0 n))) old new
taken_within f i n written old mid new inside before is now =
    let behind : List ℕ = flat_map f (range_with_len (i + 1) (n - (i + 1))) in
    let own : BecomesTold (AddsFront (f i)) mid new = subst (λ (text : List ℕ). BecomesTold (AddsFront text) mid new) is now in
    subst (λ (text : List ℕ). BecomesTold (AddsFront text) old new) (sym (range_within f 0 i n i (omega arith) inside))
    (whole_then_front (flat_map f (range_with_len 0 i)) (f i ++ behind) old mid new before (front_alone (f i) behind mid new own))

-- a text with one more number, counted from 1
pub text_more : (f : ℕ → List ℕ) (i : ℕ) (before text line new : List ℕ) → 1 ≤ i → text ≡ before ++ flat_map f (range_with_len 1 (i - 1)) →
    line ≡ f i → new ≡ text ++ line → new ≡ before ++ flat_map f (range_with_len 1 (i + 1 - 1))
text_more f i before text line new some first is now =
    let on : i - 1 + 1 ≡ i + 1 - 1 = omega arith in
    now ∙ ap (λ (t : List ℕ). t ++ line) first ∙ append_assoc before (flat_map f (range_with_len 1 (i - 1))) line
    ∙ ap (λ (l : List ℕ). before ++ (flat_map f (range_with_len 1 (i - 1)) ++ l)) is
    ∙ ap (λ (l : List ℕ). before ++ l) (sym (range_more f 1 (i - 1) i (omega arith)))
    ∙ ap (λ n. before ++ flat_map f (range_with_len 1 n)) on

-- what holds in any case holds where a call failed
pub if_failed : {T E P : Type 0} (result : Result T E) → P → OnErr result P
if_failed (Ok value) holds = tt
if_failed (Err fault) holds = holds
