-- Bounds of the numbers that digits write.
use Rattle.std.proofs.Common.{◌≡◌, ℕ, ◌^◌, ◌<◌, ◌≤◌, true, IsTrue, List, [], ◌∷◌, length, take, nat_lt, lit<, arith}
use Rattle.std.proofs.Math.Nat.{pow-le-pow_left, pow-le-pow_right}
use Rattle.std.specs.Char.{digit_value}
use Rattle.std.specs.List.{list_all}
use Rattle.std.specs.Str.Parse.{AllDigits, digits_value}
use Rattle.std.proofs.lemmas.Int.Digits.{digits_value-lt}
use Rattle.std.proofs.lemmas.Str.Parse.{digits_value-take-le}
use Rattle.guest_asm.specs.Number.{are_digits, has_digits}

-- digits that pass a test one by one are digits, whatever the value of each is
all_digits : (value : ℕ → ℕ) (radix : ℕ) (c : ℕ) (cs : List ℕ) → list_all (λ c. nat_lt (value c) radix) (c ∷ cs) ≡ true →
    (value c < radix) × (list_all (λ c. nat_lt (value c) radix) cs ≡ true)
all_digits value radix c cs h = (grind arith, grind arith)

AllDigits-list_all : (radix : ℕ) (cs : List ℕ) → list_all (λ c. nat_lt (digit_value c) radix) cs ≡ true → AllDigits radix cs
AllDigits-list_all radix [] h = tt
AllDigits-list_all radix (c ∷ cs) h =
    let both = all_digits digit_value radix c cs h in
    (both.0, AllDigits-list_all radix cs both.1)

pub AllDigits-has_digits : (radix : ℕ) (cs : List ℕ) → has_digits radix cs ≡ true → AllDigits radix cs
unfolding has_digits
AllDigits-has_digits radix cs h = AllDigits-list_all radix cs h

-- digits of which there are few: their number, and that they are digits
few_digits : (radix most : ℕ) (text : List ℕ) → most ≤ 20 → IsTrue (are_digits radix most text) →
    (length text ≤ 20) × (has_digits radix text ≡ true)
few_digits radix most text few digits = (grind arith, grind arith)

-- a number of at most 20 digits is small, and so is what its first digits write
pub small_number : (radix most : ℕ) (text : List ℕ) (i : ℕ) → 2 ≤ radix → radix ≤ 16 → most ≤ 20 →
    IsTrue (are_digits radix most text) → digits_value radix (take i text) < 2 ^ 80
small_number radix most text i least greatest few digits =
    let both = few_digits radix most text few digits in
    let below : digits_value radix text < radix ^ length text = digits_value-lt radix text (AllDigits-has_digits radix text both.1) in
    let front : digits_value radix (take i text) ≤ digits_value radix text = digits_value-take-le radix text i (omega arith) in
    let wide : radix ^ length text ≤ 16 ^ length text = pow-le-pow_left greatest (length text) in
    let long : 16 ^ length text ≤ 16 ^ 20 = pow-le-pow_right (lit< tt) both.0 in
    omega arith
