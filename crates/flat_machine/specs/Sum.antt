-- The sum of a machine's RAM, by which two of the same shape are told apart (this project's own, docs/MACHINE.md).
use Rattle.std.specs.Prelude.{ℕ, ◌/◌, ◌%◌, ◌^◌, List, length}
use Rattle.std.specs.Int.{from_le_bytes, w64}
use Rattle.std.specs.List.{sum_by}
use Rattle.std.specs.Simd.{first_chunks}
use Rattle.flat_machine.specs.Machine.{MachineData}

-- the sum of the little-endian words of eight bytes of a list
unfoldable pub sum_of_words : List ℕ → ℕ
sum_of_words bytes = sum_by (from_le_bytes w64) (first_chunks 8 (length bytes / 8) bytes)

-- the sum of RAM, modulo 2^64
abbrev pub ram_sum : MachineData → ℕ
ram_sum m = sum_of_words m.ram % 2 ^ 64
