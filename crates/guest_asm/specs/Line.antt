-- A text's lines: an optional label and an optional statement each (this project's own, docs/COMMAND_LINE.md, Assembler).
use Rattle.std.specs.Prelude.{ℕ, ◌+◌, ◌-◌, Bool, false, ◌&&◌, ◌||◌, ◌==◌, List, [], ◌∷◌, length, take, drop, unwrap_or, Option, Some, None, if◌then◌else◌}
use Rattle.std.specs.Char.{is_ascii_alphabetic, is_ascii_alphanumeric}
use Rattle.std.specs.List.{after_first, before_first, list_all, position, prefix_len, slice_split, suffix_len}
use Rattle.std.specs.Option.{option_and_then, option_map}

-- a space, a tab or a carriage return
unfoldable pub is_blank : ℕ → Bool
is_blank byte = byte == 32 || byte == 9 || byte == 13

-- a text without the blanks at its front, at its end, and at both
abbrev pub trim_front : List ℕ → List ℕ
trim_front text = drop (prefix_len is_blank text) text

abbrev pub trim_end : List ℕ → List ℕ
trim_end text = take (length text - suffix_len is_blank text) text

abbrev pub trim : List ℕ → List ℕ
trim text = trim_end (trim_front text)

-- the two parts round the first such byte, without the blanks round them, where there is one
abbrev pub cut : ℕ → List ℕ → Option (List ℕ × List ℕ)
cut byte text = option_map (λ i. (trim (take i text), trim (drop (i + 1) text))) (position (λ b. b == byte) text)

-- what an identifier begins with, and what it goes on with
unfoldable pub begins_identifier : ℕ → Bool
begins_identifier byte = is_ascii_alphabetic byte || byte == 95

unfoldable pub continues_identifier : ℕ → Bool
continues_identifier byte = is_ascii_alphanumeric byte || byte == 95

-- a letter or `_`, then letters, digits and `_`
abbrev pub is_identifier : List ℕ → Bool
is_identifier [] = false
is_identifier (byte ∷ bytes) = begins_identifier byte && list_all continues_identifier bytes

-- a line: a label where it has one, and a statement, which is empty where it has none
pub record Line : Type 0 where
  pub label : Option (List ℕ)
  pub statement : List ℕ

-- the lines of a text, without their line feeds; behind the last line feed stands one more line, which may be empty
unfoldable pub lines_of : List ℕ → List (List ℕ)
lines_of text = slice_split (λ b. b == 10) text

-- a line without its comment
abbrev pub code_of : List ℕ → List ℕ
code_of text = before_first (λ b. b == 35) text

-- the line whose parts round its first `:` these are, where the first is a label
abbrev pub labelled : List ℕ × List ℕ → Option Line
labelled parts = if is_identifier parts.0 then Some (record { label = Some parts.0; statement = parts.1 }) else None

-- the line that a text without line feeds is
unfoldable pub line_of : List ℕ → Line
line_of text =
    unwrap_or (option_and_then labelled (cut 58 (code_of text))) (record { label = None; statement = trim (code_of text) })

-- the first word of a statement, and what follows it
abbrev pub first_word : List ℕ → List ℕ
first_word statement = before_first is_blank statement

abbrev pub rest_of : List ℕ → List ℕ
rest_of statement = trim (after_first is_blank statement)
