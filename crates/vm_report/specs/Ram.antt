-- What the report tells of RAM (this project's own, docs/COMMAND_LINE.md, Report).
use Rattle.std.specs.Prelude.{ℕ, Bool, not, ◌==◌, List}
use Rattle.std.specs.Int.{from_le_bytes, w64}
use Rattle.std.specs.List.{count_by, list_all, range_with_len}
use Rattle.ram_block.specs.Shape.{total_pages_of}
use Rattle.flat_machine.specs.Machine.{MachineData, page_of}

-- whether a word of eight bytes is 0
abbrev pub is_zero_word : List ℕ → Bool
is_zero_word word = from_le_bytes w64 word == 0

-- whether some byte isn't 0
abbrev pub is_nonzero : List ℕ → Bool
is_nonzero bytes = not (list_all (λ byte. byte == 0) bytes)

-- how many pages aren't all zeros
abbrev pub nonzero_pages : MachineData → ℕ
nonzero_pages m = count_by (λ p. is_nonzero (page_of m p)) (range_with_len 0 (total_pages_of m.shape))
