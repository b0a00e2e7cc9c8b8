-- The numbers from 0 on that pass a test, number by number.
use Rattle.std.proofs.Common.{◌≡◌, ℕ, zero, suc, ◌+◌, ◌<◌, Bool, true, false, cond, List, [], ◌∷◌, ◌++◌, All, append-nil, sym, ap, ◌∙◌, subst, arith}
use Rattle.std.specs.List.{filter, range_with_len}
use Rattle.std.proofs.lemmas.List.Elements.{All-filter, filter-append}
use Rattle.std.proofs.lemmas.List.FromFn.{get_or-range_with_len, length-range_with_len}

range_more : (a n : ℕ) → range_with_len a (suc n) ≡ range_with_len a n ++ (a + n) ∷ []
range_more a zero =
    let here : a ≡ a + 0 = omega arith in
    ap (λ (k : ℕ). k ∷ []) here
range_more a (suc n) =
    let on : a + 1 + n ≡ a + suc n = omega arith in
    ap (λ (l : List ℕ). a ∷ l) (range_more (a + 1) n) ∙ ap (λ (k : ℕ). a ∷ (range_with_len (a + 1) n ++ k ∷ [])) on

filter_more : (test : ℕ → Bool) (n : ℕ) (passes : Bool) → test n ≡ passes → filter test (range_with_len 0 (n + 1)) ≡ filter test (range_with_len 0 n) ++ cond passes (n ∷ []) []
filter_more test n passes is =
    let next : n + 1 ≡ suc n = omega arith in
    let last : 0 + n ≡ n = omega arith in
    ap (λ (k : ℕ). filter test (range_with_len 0 k)) next
    ∙ ap (filter test) (range_more 0 n)
    ∙ filter-append test (range_with_len 0 n) ((0 + n) ∷ [])
    ∙ ap (λ (k : ℕ). filter test (range_with_len 0 n) ++ filter test (k ∷ [])) last
    ∙ ap (λ (b : Bool). filter test (range_with_len 0 n) ++ cond b (n ∷ []) []) is

pub filter_on : (test : ℕ → Bool) (n : ℕ) (before after : List ℕ) → test n ≡ true → before ≡ filter test (range_with_len 0 n) → after ≡ before ++ n ∷ [] → after ≡ filter test (range_with_len 0 (n + 1))
filter_on test n before after passes is put = put ∙ ap (λ (l : List ℕ). l ++ n ∷ []) is ∙ sym (filter_more test n true passes)

pub filter_past : (test : ℕ → Bool) (n : ℕ) (before : List ℕ) → test n ≡ false → before ≡ filter test (range_with_len 0 n) → before ≡ filter test (range_with_len 0 (n + 1))
filter_past test n before fails is = is ∙ sym (append-nil (filter test (range_with_len 0 n))) ∙ sym (filter_more test n false fails)

-- each of them is below the number that all are
pub filter_inside : (test : ℕ → Bool) (n : ℕ) (found : List ℕ) → found ≡ filter test (range_with_len 0 n) → All (λ k. k < n) found
filter_inside test n found is =
    subst (All (λ k. k < n)) (sym is) (All-filter test (λ k. k < n) (range_with_len 0 n) (λ k d h.
    let inside : k < n = omega (arith, h, length-range_with_len 0 n) in
    let place : 0 + k ≡ k = omega arith in
    subst (λ (j : ℕ). j < n) (sym (get_or-range_with_len 0 n k d inside ∙ place)) inside))
