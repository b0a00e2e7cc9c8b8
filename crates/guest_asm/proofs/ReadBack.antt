-- What a listing writes of registers and numbers is read back as them.
use Rattle.std.proofs.Common.{◌≡◌, subst, ℕ, zero, suc, ◌+◌, ◌/◌, ◌%◌, ◌^◌, ◌<◌, ◌≤◌, ◌&&◌, ◌==◌, nat_eq, nat_lt, unsigned_abs, Bool, true, false, cond, List, [], ◌∷◌, ◌++◌, length, codes, ℤ, pos, negsuc, neg_ℤ, Option, Some, None, ◌∙◌, ap, refl, arith}
use Rattle.std.specs.Char.{digit_value}
use Rattle.std.specs.Fmt.{decimal, digits, signed_decimal}
use Rattle.std.proofs.lemmas.Bool.{and_parts}
use Rattle.std.specs.List.{list_all, starts_with}
use Rattle.std.specs.Str.Parse.{AllDigits, IsNumeral, digits_value}
use Rattle.std.proofs.lemmas.Fmt.{decimal_is_IsNumeral, length-decimal-le}
use Rattle.std.proofs.lemmas.Grind.{common_steps}
use Rattle.std.proofs.lemmas.Int.{ints}
use Rattle.std.proofs.lemmas.Int.Digits.{digits_push, digits_value_push}
use Rattle.guest_asm.specs.Line.{begins_identifier, continues_identifier, is_blank}
use Rattle.guest_asm.specs.Listing.{hex_digit, hex_digits, register_text}
use Rattle.guest_asm.specs.Number.{has_digits, magnitude, number_in_radix, number_of}
use Rattle.guest_asm.specs.Operand.{register_in, register_named}
use Rattle.guest_asm.proofs.Forms.{IsNumberText, IsRegisterText}
use Rattle.guest_asm.proofs.Listed.{are_plain, is_plain}

-- a byte is none whose value as a digit is greater
differs : (c k : ℕ) → digit_value c < 16 → 16 ≤ digit_value k → (c == k) ≡ false
differs c k digit other = grind (arith, digit, other)

-- digits have none of the bytes that part a line
plain_digit : (c : ℕ) → digit_value c < 16 → is_plain c ≡ true
unfolding is_plain is_blank
plain_digit c digit =
    rw (
      differs c 32 digit (omega arith),
      differs c 9 digit (omega arith),
      differs c 13 digit (omega arith),
      differs c 10 digit (omega arith),
      differs c 35 digit (omega arith),
      differs c 40 digit (omega arith),
      differs c 41 digit (omega arith),
      differs c 44 digit (omega arith),
      differs c 58 digit (omega arith),
    ) refl

-- a test that the first of a list passes, and the others
all_cons : {X : Type 0} (p : X → Bool) (x : X) (xs : List X) → p x ≡ true → list_all p xs ≡ true → list_all p (x ∷ xs) ≡ true
all_cons p x xs first rest = grind (arith, first, rest)

plain_digits : (radix : ℕ) (text : List ℕ) → radix ≤ 16 → AllDigits radix text → are_plain text ≡ true
plain_digits radix [] small digits = refl
plain_digits radix (c ∷ cs) small digits =
    all_cons is_plain c cs (plain_digit c (omega (arith, digits.0))) (plain_digits radix cs small digits.1)

-- digits pass the test of digits
digit_passes : (c radix : ℕ) → digit_value c < radix → nat_lt (digit_value c) radix ≡ true
digit_passes c radix h = grind (arith, h)

list_all-AllDigits : (radix : ℕ) (text : List ℕ) → AllDigits radix text → list_all (λ c. nat_lt (digit_value c) radix) text ≡ true
list_all-AllDigits radix [] digits = refl
list_all-AllDigits radix (c ∷ cs) digits =
    all_cons (λ c. nat_lt (digit_value c) radix) c cs (digit_passes c radix digits.0) (list_all-AllDigits radix cs digits.1)

has_digits-AllDigits : (radix : ℕ) (text : List ℕ) → AllDigits radix text → has_digits radix text ≡ true
unfolding has_digits
has_digits-AllDigits radix text digits = list_all-AllDigits radix text digits

-- digits are the number that they write
in_radix : (radix most n : ℕ) (text : List ℕ) → IsNumeral radix text → length text ≤ most → digits_value radix text ≡ n →
    number_in_radix radix most text ≡ Some n
in_radix radix most n text numeral short value =
    let digits : has_digits radix text ≡ true = has_digits-AllDigits radix text numeral.1 in
    grind (arith, digits, numeral.0, short, value)

-- digits begin with no sign and with no `0x`
unsigned_digits : (c k : ℕ) → digit_value c < 10 → 10 ≤ digit_value k → (c == k) ≡ false
unsigned_digits c k digit other = grind (arith, digit, other)

no_prefix : (text : List ℕ) → AllDigits 10 text → starts_with nat_eq text (codes "0x") ≡ false
no_prefix [] digits = refl
no_prefix (c ∷ []) digits = grind arith
no_prefix (c ∷ d ∷ cs) digits =
    let second : (d == 120) ≡ false = unsigned_digits d 120 digits.1.0 (omega arith) in
    grind (arith, second)

magnitude_of : (n : ℕ) (text : List ℕ) → IsNumeral 10 text → length text ≤ 20 → digits_value 10 text ≡ n → magnitude text ≡ Some n
magnitude_of n text numeral short value =
    let prefix : starts_with nat_eq text (codes "0x") ≡ false = no_prefix text numeral.1 in
    rw prefix (in_radix 10 20 n text numeral short value)

-- a number without a sign, and one with a sign
number_by : (n : ℕ) (text : List ℕ) → IsNumeral 10 text → magnitude text ≡ Some n → number_of text ≡ Some (pos n)
unfolding number_of
number_by n [] numeral h = absurd (omega (arith, numeral.0))
number_by n (c ∷ cs) numeral h =
    let sign : (c == 45) ≡ false = unsigned_digits c 45 numeral.1.0 (omega arith) in
    rw (sign, h) refl

negative_by : (n : ℕ) (text : List ℕ) → magnitude text ≡ Some n → number_of (45 ∷ text) ≡ Some (neg_ℤ (pos n))
unfolding number_of
negative_by n text h = rw h refl

-- what is written of a number below 10^19
decimal_magnitude : (n : ℕ) → n < 10 ^ 19 → magnitude (decimal n) ≡ Some n
decimal_magnitude n small =
    let numeral = decimal_is_IsNumeral n (omega arith) in
    let short : length (decimal n) ≤ 19 = length-decimal-le 19 n (omega arith) small (omega arith) in
    magnitude_of n (decimal n) numeral.0 (omega (arith, short)) numeral.1

decimal_back : (n : ℕ) → n < 10 ^ 19 → number_of (decimal n) ≡ Some (pos n)
decimal_back n small = number_by n (decimal n) (decimal_is_IsNumeral n (omega arith)).0 (decimal_magnitude n small)

decimal_plain : (n : ℕ) → n < 10 ^ 19 → are_plain (decimal n) ≡ true
decimal_plain n small = plain_digits 10 (decimal n) (omega arith) (decimal_is_IsNumeral n (omega arith)).0.1

decimal_some : (n : ℕ) → n < 10 ^ 19 → 0 < length (decimal n)
decimal_some n small = (decimal_is_IsNumeral n (omega arith)).0.0

-- a number with its sign
neg_more : (n : ℕ) → neg_ℤ (pos (suc n)) ≡ negsuc n
neg_more n = omega (arith, ints)

plain_minus : (text : List ℕ) → are_plain text ≡ true → are_plain (45 ∷ text) ≡ true
unfolding is_plain is_blank
plain_minus text plain = all_cons is_plain 45 text refl plain

number_back : (z : ℤ) → unsigned_abs z < 10 ^ 19 → number_of (signed_decimal z) ≡ Some z
number_back (pos n) small = decimal_back n small
number_back (negsuc n) small = negative_by (suc n) (decimal (suc n)) (decimal_magnitude (suc n) (omega arith)) ∙ ap Some (neg_more n)

number_plain : (z : ℤ) → unsigned_abs z < 10 ^ 19 → are_plain (signed_decimal z) ≡ true
number_plain (pos n) small = decimal_plain n small
number_plain (negsuc n) small = plain_minus (decimal (suc n)) (decimal_plain (suc n) (omega arith))

number_some : (z : ℤ) → unsigned_abs z < 10 ^ 19 → 0 < length (signed_decimal z)
number_some (pos n) small = decimal_some n small
number_some (negsuc n) small = omega arith

-- a hexadecimal digit
hex_value_low : (n : ℕ) (b : Bool) → n < 16 → nat_lt n 10 ≡ b → digit_value (cond b (48 + n) (87 + n)) ≡ n
hex_value_low n true small e = grind (arith, e)
hex_value_low n false small e = grind (arith, e, small)

hex_value : (n : ℕ) → n < 16 → digit_value (hex_digit n) ≡ n
hex_value n small = hex_value_low n (nat_lt n 10) small refl

length_push : (xs : List ℕ) (x n : ℕ) → length xs ≡ n → length (xs ++ x ∷ []) ≡ suc n
length_push xs x n h = grind (arith, common_steps, h)

-- so many hexadecimal digits of a number that has no more
hex_numeral : (count n : ℕ) → n < 16 ^ count → AllDigits 16 (hex_digits count n) × (digits_value 16 (hex_digits count n) ≡ n) × (length (hex_digits count n) ≡ count)
hex_numeral zero n small = (tt, omega arith, refl)
hex_numeral (suc count) n small =
    let front = hex_numeral count (n / 16) (omega arith) in
    let last : digit_value (hex_digit (n % 16)) ≡ n % 16 = hex_value (n % 16) (omega arith) in (
      digits_push 16 (hex_digits count (n / 16)) (hex_digit (n % 16)) front.0 (omega (arith, last)),
      (let value = digits_value_push 16 (hex_digits count (n / 16)) (hex_digit (n % 16)) in omega (arith, value, front.1, last)),
      length_push (hex_digits count (n / 16)) (hex_digit (n % 16)) count front.2,
    )

-- hexadecimal digits behind their `0x`
hex_number : (n : ℕ) (text : List ℕ) → IsNumeral 16 text → length text ≤ 16 → digits_value 16 text ≡ n → number_of (48 ∷ 120 ∷ text) ≡ Some (pos n)
unfolding number_of
hex_number n text numeral short value =
    let read : number_in_radix 16 16 text ≡ Some n = in_radix 16 16 n text numeral short value in
    rw read refl

plain_prefix : (text : List ℕ) → are_plain text ≡ true → are_plain (48 ∷ 120 ∷ text) ≡ true
unfolding is_plain is_blank
plain_prefix text plain = all_cons is_plain 48 (120 ∷ text) refl (all_cons is_plain 120 text refl plain)

-- a word and a byte as hexadecimal numbers
hex_back : (count n : ℕ) → count ≤ 16 → 1 ≤ count → n < 16 ^ count → number_of (codes "0x" ++ hex_digits count n) ≡ Some (pos n)
hex_back count n few one small =
    let numeral = hex_numeral count n small in
    hex_number n (hex_digits count n) (omega (arith, numeral.2), numeral.0) (omega (arith, numeral.2)) numeral.1

hex_word_back : (w : ℕ) → w < 2 ^ 32 → number_of (codes "0x" ++ hex_digits 8 w) ≡ Some (pos w)
hex_word_back w small = hex_back 8 w (omega arith) (omega arith) small

hex_byte_back : (b : ℕ) → b < 2 ^ 8 → number_of (codes "0x" ++ hex_digits 2 b) ≡ Some (pos b)
hex_byte_back b small = hex_back 2 b (omega arith) (omega arith) small

hex_plain : (count n : ℕ) → n < 16 ^ count → are_plain (codes "0x" ++ hex_digits count n) ≡ true
hex_plain count n small = plain_prefix (hex_digits count n) (plain_digits 16 (hex_digits count n) (omega arith) (hex_numeral count n small).0)

-- a test that all numbers below another pass
abbrev all_below : (ℕ → Bool) → ℕ → Bool
all_below p zero = true
all_below p (suc n) = p n && all_below p n

below_at : (p : ℕ → Bool) (k n : ℕ) (b : Bool) → nat_lt n k ≡ b → n < suc k → p k ≡ true → (n < k → p n ≡ true) → p n ≡ true
below_at p k n true e h here other = other (grind (arith, e))
below_at p k n false e h here other =
    let same : k ≡ n = grind (arith, e, h) in
    subst (λ i. p i ≡ true) same here

below : (p : ℕ → Bool) (count : ℕ) → all_below p count ≡ true → (n : ℕ) → n < count → p n ≡ true
below p zero all n h = absurd (omega arith)
below p (suc k) all n h =
    let parts = and_parts (p k) (all_below p k) all in
    below_at p k n (nat_lt n k) refl h parts.0 (λ less. below p k parts.1 n less)

-- a register's text is read back
abbrev is_read : ℕ → Option (Option ℕ) → Bool
is_read r None = false
is_read r (Some None) = false
is_read r (Some (Some k)) = k == r

read_is : (r : ℕ) (o : Option (Option ℕ)) → is_read r o ≡ true → o ≡ Some (Some r)
read_is r None h = absurd (grind (arith, h))
read_is r (Some None) h = absurd (grind (arith, h))
read_is r (Some (Some k)) h = ap (λ i. Some (Some i)) (grind (arith, h))

registers_back : all_below (λ r. is_read r (register_in (register_text r))) 32 ≡ true
unfolding digits register_in register_named begins_identifier continues_identifier has_digits
registers_back = refl

registers_plain : all_below (λ r. are_plain (register_text r)) 32 ≡ true
unfolding digits is_plain is_blank
registers_plain = refl

register_back : (r : ℕ) → r < 32 → register_in (register_text r) ≡ Some (Some r)
register_back r small =
    read_is r (register_in (register_text r)) (below (λ n. is_read n (register_in (register_text n))) 32 registers_back r small)

register_plain : (r : ℕ) → r < 32 → are_plain (register_text r) ≡ true
register_plain r small = below (λ n. are_plain (register_text n)) 32 registers_plain r small

-- ---- What a listing writes, with what it is read as

pub decimal_read : (n : ℕ) → n < 2 ^ 32 → IsNumberText (decimal n) (pos n)
decimal_read n small =
    let few : n < 10 ^ 19 = omega arith in
    record { plain = record { plain = decimal_plain n few; some = decimal_some n few }; reads = decimal_back n few }

pub number_read : (z : ℤ) → unsigned_abs z < 2 ^ 32 → IsNumberText (signed_decimal z) z
number_read z small =
    let few : unsigned_abs z < 10 ^ 19 = omega arith in
    record { plain = record { plain = number_plain z few; some = number_some z few }; reads = number_back z few }

pub hex_word_read : (w : ℕ) → w < 2 ^ 32 → IsNumberText (codes "0x" ++ hex_digits 8 w) (pos w)
hex_word_read w small =
    record { plain = record { plain = hex_plain 8 w (omega arith); some = omega arith }; reads = hex_word_back w small }

pub hex_byte_read : (b : ℕ) → b < 2 ^ 8 → IsNumberText (codes "0x" ++ hex_digits 2 b) (pos b)
hex_byte_read b small =
    record { plain = record { plain = hex_plain 2 b (omega arith); some = omega arith }; reads = hex_byte_back b small }

pub register_read : (r : ℕ) → r < 32 → IsRegisterText (register_text r) r
register_read r small =
    record { plain = record { plain = register_plain r small; some = omega arith }; reads = register_back r small }
