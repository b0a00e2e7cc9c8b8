-- A word of a line: a key and its value round the first `=` (this project's own, docs/COMMAND_LINE.md).
use Rattle.std.specs.Prelude.{ℕ, Bool, ◌==◌, List, [], ◌∷◌, ◌++◌, length, drop, codes, nat_eq, Option, Some, None, if◌then◌else◌}
use Rattle.std.specs.List.{starts_with, list_any, before_first, after_first}
use Rattle.std.specs.Option.{option_or}

-- the byte is the code of `=`
abbrev pub is_equals : ℕ → Bool
is_equals byte = byte == 61

-- the word has a `=`
abbrev pub has_equals : List ℕ → Bool
has_equals word = list_any is_equals word

-- what stands before its first `=`
abbrev pub key_part : List ℕ → List ℕ
key_part word = before_first is_equals word

-- and behind it
abbrev pub value_part : List ℕ → List ℕ
value_part word = after_first is_equals word

-- what follows a front, where the text begins with it
abbrev pub after : List ℕ → List ℕ → Option (List ℕ)
after text front = if starts_with nat_eq text front then Some (drop (length front) text) else None

-- what follows `key=`, where the word begins so
abbrev pub value_after : List ℕ → List ℕ → Option (List ℕ)
value_after word key = after word (key ++ codes "=")

-- what follows `key=` in the first word that begins so
abbrev pub value_in : List (List ℕ) → List ℕ → Option (List ℕ)
value_in [] key = None
value_in (word ∷ words) key = option_or (value_after word key) (value_in words key)
