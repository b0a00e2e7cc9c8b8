-- A number of a statement (this project's own, docs/COMMAND_LINE.md, Assembler).
use Rattle.std.specs.Prelude.{ℕ, Bool, ◌&&◌, ◌==◌, nat_eq, nat_le, nat_lt, List, [], ◌∷◌, length, drop, codes, ℤ, pos, neg_ℤ, Option, Some, None, if◌then◌else◌}
use Rattle.std.specs.Char.{digit_value}
use Rattle.std.specs.List.{list_all, starts_with}
use Rattle.std.specs.Option.{option_map}
use Rattle.std.specs.Str.Parse.{digits_value}

-- digits of a radix, and nothing else
unfoldable pub has_digits : ℕ → List ℕ → Bool
has_digits radix text = list_all (λ c. nat_lt (digit_value c) radix) text

-- so many digits of a radix at most, and one at least
abbrev pub are_digits : ℕ → ℕ → List ℕ → Bool
are_digits radix most text = nat_le 1 (length text) && nat_le (length text) most && has_digits radix text

-- the number that such digits write
abbrev pub number_in_radix : ℕ → ℕ → List ℕ → Option ℕ
number_in_radix radix most text = if are_digits radix most text then Some (digits_value radix text) else None

-- a number without a sign: 1 to 20 decimal digits, or `0x` and 1 to 16 hexadecimal ones
abbrev pub magnitude : List ℕ → Option ℕ
magnitude text =
    if starts_with nat_eq text (codes "0x") then number_in_radix 16 16 (drop 2 text)
    else number_in_radix 10 20 text

-- a number: a `-` may stand before it
unfoldable pub number_of : List ℕ → Option ℤ
number_of [] = None
number_of (c ∷ text) =
    if c == 45 then option_map (λ n. neg_ℤ (pos n)) (magnitude text)
    else option_map pos (magnitude (c ∷ text))
