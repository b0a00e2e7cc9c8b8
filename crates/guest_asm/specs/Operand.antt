-- The operands of a statement one by one (this project's own, docs/COMMAND_LINE.md, Assembler).
use Rattle.std.specs.Prelude.{ℕ, Bool, ◌&&◌, ◌||◌, not, ◌==◌, nat_lt, List, [], ◌∷◌, length, slice_index, ℤ, Option, Some, None, if◌then◌else◌}
use Rattle.std.specs.Option.{option_and_then, option_map}
use Rattle.std.specs.Str.Parse.{digits_value}
use Rattle.guest_asm.specs.Line.{cut, is_identifier}
use Rattle.guest_asm.specs.Number.{are_digits, number_of}

-- a target: an offset, or a label
pub data Target : Type 0 where
  offset : ℤ → Target
  label : List ℕ → Target

-- a number without a leading zero, of at most two digits
abbrev pub is_short_number : List ℕ → Bool
is_short_number digits = are_digits 10 2 digits && (length digits == 1 || not (slice_index digits 0 == 48))

-- the register that an identifier is: `x0` to `x31`
unfoldable pub register_named : List ℕ → Option ℕ
register_named [] = None
register_named (c ∷ digits) =
    if c == 120 && is_short_number digits && nat_lt (digits_value 10 digits) 32 then Some (digits_value 10 digits)
    else None

-- what stands in a register's place: any identifier is in form, with the register that it is
unfoldable pub register_in : List ℕ → Option (Option ℕ)
register_in text = if is_identifier text then Some (register_named text) else None

-- a target in form
unfoldable pub target_in : List ℕ → Option Target
target_in text = if is_identifier text then Some (label text) else option_map offset (number_of text)

-- a register before a `)` that ends the text
abbrev pub closed : List ℕ × List ℕ → Option (Option ℕ)
closed parts = if length parts.1 == 0 then register_in parts.0 else None

-- a register between parentheses, and what stands before them
abbrev pub before_register : List ℕ → Option (List ℕ × Option ℕ)
before_register text =
    option_and_then (λ p. option_map (λ r. (p.0, r)) (option_and_then closed (cut 41 p.1))) (cut 40 text)

-- a register between parentheses alone
unfoldable pub register_at : List ℕ → Option (Option ℕ)
register_at text =
    option_and_then (λ p. if length p.0 == 0 then Some p.1 else None) (before_register text)

-- a number before a register between parentheses
unfoldable pub indexed : List ℕ → Option (ℤ × Option ℕ)
indexed text = option_and_then (λ p. option_map (λ n. (n, p.1)) (number_of p.0)) (before_register text)
