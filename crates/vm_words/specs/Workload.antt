-- The image of the workload (this project's own, docs/COMMAND_LINE.md, Generator and workload).
use Rattle.std.specs.Prelude.{ℕ, ◌+◌, ◌-◌, List, ◌++◌, length, map, replicate}
use Rattle.std.specs.Int.{to_le_bytes, w32, w64}
use Rattle.std.specs.List.{flat_map, range_with_len}
use Rattle.vm_words.specs.Generator.{draw}
use Rattle.vm_words.specs.declared.workload.TheConstants.{DRAWS, DRAWS_AT, PROGRAM}

-- the bytes of the program
abbrev pub program_bytes : List ℕ
program_bytes = flat_map (to_le_bytes w32) PROGRAM

-- the first n draws of a seed
abbrev pub draws : ℕ → ℕ → List ℕ
draws seed n = map (λ i. draw seed (i + 1)) (range_with_len 0 n)

-- as words of eight bytes
unfoldable pub draw_bytes : ℕ → ℕ → List ℕ
draw_bytes seed n = flat_map (to_le_bytes w64) (draws seed n)

-- the image: the program, zeros up to the draws, and the draws
unfoldable pub work : ℕ → List ℕ
work seed = (program_bytes ++ replicate (DRAWS_AT - length program_bytes) 0) ++ draw_bytes seed DRAWS
