-- The first of a line's faults.
use Rattle.std.proofs.Common.{◌≡◌, ℕ, zero, suc, ◌+◌, ◌-◌, ◌<◌, ◌≤◌, List, [], ◌∷◌, ◌++◌, Option, Some, None, refl, sym, ap, ◌∙◌, arith, slice_get, filter_map, map, take, get_or, length, Bool, cond}
use Rattle.std.specs.List.{range_with_len}
use Rattle.std.specs.Option.{option_map, option_or}
use Rattle.std.proofs.lemmas.List.{take-map, get_or-map}
use Rattle.vm_words.specs.declared.fault.UsageKind.{UsageKind}
use Rattle.vm_words.specs.declared.fault.UsageKind.TheVariants.{Value}
use Rattle.vm_words.specs.declared.command.CommandName.{CommandName}
use Rattle.vm_words.specs.Line.{word_kind, kind_at, is_clash, clash_at}

-- the words of a range that a test finds wrong
abbrev pub wrong_in : (ℕ → Option UsageKind) → ℕ → ℕ → List (ℕ × UsageKind)
wrong_in test a n = filter_map (λ i. option_map (λ kind. (i + 1, kind)) (test i)) (range_with_len a n)

-- words that pass are skipped
skipped : (test : ℕ → Option UsageKind) (a m n : ℕ) → ((k : ℕ) → a ≤ k → k < a + m → test k ≡ None) → wrong_in test a (m + n) ≡ wrong_in test (a + m) n
skipped test a zero n passed =
    let e : 0 + n ≡ n = omega arith in
    let f : a + 0 ≡ a = omega arith in
    rw (e, f) refl
skipped test a (suc m) n passed =
    let e : suc m + n ≡ suc (m + n) = omega arith in
    let f : a + suc m ≡ (a + 1) + m = omega arith in
    rw (e, f, passed a (omega arith) (omega arith)) (skipped test (a + 1) m n (λ k low high. passed k (omega arith) (omega arith)))

-- where the words before pass, the first wrong one is the first fault
pub first_wrong : (test : ℕ → Option UsageKind) (i n : ℕ) (kind : UsageKind) → ((k : ℕ) → k < i → test k ≡ None) → test i ≡ Some kind → i < n → slice_get (wrong_in test 0 n) 0 ≡ Some (i + 1, kind)
first_wrong test i n kind passed wrong within =
    let e : n ≡ i + suc (n - i - 1) = omega arith in
    let f : 0 + i ≡ i = omega arith in
    rw (e, skipped test 0 i (suc (n - i - 1)) (λ k low high. passed k (omega arith)), f, wrong) refl

-- where all words pass there is none
pub none_wrong : (test : ℕ → Option UsageKind) (n : ℕ) → ((k : ℕ) → k < n → test k ≡ None) → wrong_in test 0 n ≡ []
none_wrong test n passed =
    let e : n ≡ n + 0 = omega arith in
    rw e (skipped test 0 n 0 (λ k low high. passed k (omega arith)))

-- the first of two lists
first_of_two : {A : Type 0} (xs ys : List A) → slice_get (xs ++ ys) 0 ≡ option_or (slice_get xs 0) (slice_get ys 0)
first_of_two [] ys = refl
first_of_two (x ∷ xs) ys = refl

-- and of three
pub first_of_three : {A : Type 0} (xs ys zs : List A) → slice_get (xs ++ ys ++ zs) 0 ≡ option_or (option_or (slice_get xs 0) (slice_get ys 0)) (slice_get zs 0)
first_of_three xs ys zs = first_of_two (xs ++ ys) zs ∙ ap (λ o. option_or o (slice_get zs 0)) (first_of_two xs ys)

-- ---- Over the words as texts

-- the kind of a word is what its text and those before it give
pub kind_at-map : {X : Type 0} (f : X → List ℕ) (xs : List X) (x : X) (i : ℕ) (command : CommandName) → i < length xs → x ≡ get_or xs i x → kind_at command (map f xs) i ≡ word_kind command (map f (take i xs)) (f x)
kind_at-map f xs x i command within is =
    ap (λ (before : List (List ℕ)). word_kind command before (get_or (map f xs) i [])) (take-map f i xs)
    ∙ ap (word_kind command (map f (take i xs))) (get_or-map f xs i x [] within ∙ ap f (sym is))

-- a clash is what its text gives
pub clash_at-map : {X : Type 0} (f : X → List ℕ) (xs : List X) (x : X) (i : ℕ) (command : CommandName) (clash : Bool) → i < length xs → x ≡ get_or xs i x → is_clash command (map f xs) (f x) ≡ clash → clash_at command (map f xs) i ≡ cond clash (Some Value) None
clash_at-map f xs x i command clash within is clashes =
    ap (λ (word : List ℕ). cond (is_clash command (map f xs) word) (Some Value) None) (get_or-map f xs i x [] within ∙ ap f (sym is))
    ∙ ap (λ (b : Bool). cond b (Some Value) None) clashes
