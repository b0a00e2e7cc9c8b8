-- The last digit of a number, behind the others.
use Rattle.std.proofs.Common.{◌≡◌, ℕ, zero, suc, ◌+◌, ◌-◌, ◌/◌, ◌%◌, ◌^◌, ◌<◌, ◌≤◌, [], ◌∷◌, ◌++◌, length, refl, ap, ◌∙◌, arith, length-append}
use Rattle.std.specs.Fmt.{decimal}
use Rattle.std.proofs.lemmas.Fmt.{decimal_step, length-decimal-le}
use Rattle.vm_report.specs.Hex.{hex_digit, hex_digits}

-- without its last digit a number has one digit less
pub decimal_shorter : (n : ℕ) → 10 ≤ n → n < 2 ^ 64 → length (decimal n) ≡ length (decimal (n / 10)) + 1
decimal_shorter n more small = ap length (decimal_step n more small) ∙ length-append (decimal (n / 10)) ((48 + n % 10) ∷ [])

-- a number of 64 bits has at most 20 digits
pub decimal_short : (n : ℕ) → n < 2 ^ 64 → length (decimal n) ≤ 20
decimal_short n small = length-decimal-le 20 n (omega arith) (omega arith) small

pub hex_none : (count n : ℕ) → count ≡ 0 → hex_digits count n ≡ []
unfolding hex_digits
hex_none zero n none = refl
hex_none (suc count) n none = absurd (omega arith)

pub hex_step : (count n : ℕ) → 0 < count → hex_digits count n ≡ hex_digits (count - 1) (n / 16) ++ hex_digit (n % 16) ∷ []
unfolding hex_digits
hex_step zero n some = absurd (omega arith)
hex_step (suc count) n some =
    let front : count ≡ suc count - 1 = omega arith in
    ap (λ c. hex_digits c (n / 16) ++ hex_digit (n % 16) ∷ []) front
