-- What `parse` says of 1 to 20 digits.
use Rattle.std.proofs.Common.{◌≡◌, ℕ, ◌+◌, ◌*◌, ◌-◌, ◌<◌, ◌≤◌, ◌^◌, Bool, true, false, ◌&&◌, cond, List, length, nat_le, fold, Option, Some, None, Result, Ok, Err, refl, sym, arith, inl, inr, rules}
use Rattle.std.specs.Char.{is_ascii_digit}
use Rattle.std.specs.List.{list_all}
use Rattle.std.specs.Str.Parse.{ParsesUnsigned}
use Rattle.std.specs.Result.{OkIff}
use Rattle.std.proofs.lemmas.Bool.{and_parts, leb-true, le-leb, lt-leb, cases_lt}
use Rattle.std.proofs.lemmas.Str.Parse.{IsNumeralModel, numerals_by_fold, parse_digits}
use Rattle.vm_words.specs.Number.{decimal, is_decimal, number_within}

-- the digits and the number are those of std
numerals : IsNumeralModel (λ ds. list_all is_ascii_digit ds ≡ true) decimal
numerals = numerals_by_fold _ (search rules) (λ n ds. fold (λ m digit. 10 * m + (digit - 48)) n ds) (search rules)

-- the number that was read, within its limits
abbrev pub read_within : {E : Type 0} → ℕ → ℕ → Result ℕ E → Option ℕ
read_within least most (Ok n) = cond (nat_le least n && nat_le n most) (Some n) None
read_within least most (Err e) = None

and_false : (b : Bool) → (b && false) ≡ false
and_false true = refl
and_false false = refl

-- a number within its limits
pub read_number : {E : Type 0} (least most n : ℕ) (r : Result ℕ E) → r ≡ Ok n → least ≤ n → n ≤ most → read_within least most r ≡ Some n
read_number least most n r is low high = rw (is, le-leb least n low, le-leb n most high) refl

-- below them
pub read_below : {E : Type 0} (least most n : ℕ) (r : Result ℕ E) → r ≡ Ok n → n < least → read_within least most r ≡ None
read_below least most n r is low = rw (is, lt-leb least n low) refl

-- above them
pub read_above : {E : Type 0} (least most n : ℕ) (r : Result ℕ E) → r ≡ Ok n → most < n → read_within least most r ≡ None
read_above least most n r is high = rw (is, lt-leb n most high, and_false (nat_le least n)) refl

-- none at all
pub read_none : {E : Type 0} (least most : ℕ) (e : E) (r : Result ℕ E) → r ≡ Err e → read_within least most r ≡ None
read_none least most e r is = rw is refl

at_number : {E : Type 0} (least most : ℕ) (text : List ℕ) (r : Result ℕ E) → most < 2 ^ 64 → 0 < length text → OkIff r ((0 < length text) × (decimal text < 2 ^ 64)) (decimal text) → read_within least most r ≡ cond (nat_le least (decimal text) && nat_le (decimal text) most) (Some (decimal text)) None
at_number least most text (Ok n) small some h = rw h.1 refl
at_number least most text (Err e) small some h = elim (cases_lt (decimal text) (2 ^ 64)) [
  | inl below ↦ absurd (h (some, below))
  | inr above ↦
      let past : nat_le (decimal text) most ≡ false = lt-leb (decimal text) most (omega arith) in
      rw (past, and_false (nat_le least (decimal text))) refl
]

-- what `parse` gives is the number
pub number_read : {E : Type 0} (least most : ℕ) (text : List ℕ) (r : Result ℕ E) → most < 2 ^ 64 → is_decimal text ≡ true → ParsesUnsigned 64 10 text r → number_within least most text ≡ read_within least most r
number_read least most text r small digits parses =
    let parts = and_parts (nat_le 1 (length text) && nat_le (length text) 20) (list_all is_ascii_digit text) digits in
    let lengths = and_parts (nat_le 1 (length text)) (nat_le (length text) 20) parts.0 in
    let some : 0 < length text = leb-true 1 (length text) lengths.0 in
    rw digits (sym (at_number least most text r small some (parse_digits numerals 64 text r parses parts.1)))
