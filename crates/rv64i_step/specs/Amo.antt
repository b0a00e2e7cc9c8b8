-- What an AMO writes back (RISC-V Unprivileged ISA, "A" Extension, Atomic Memory Operations).
use Rattle.std.specs.Prelude.{ℕ, ◌+◌, ◌%◌, ◌^◌, min, max, bit_and, bit_or, bit_xor}
use Rattle.std.specs.Int.{w32, w64, cast_signed, cast_unsigned, int_min, int_max}
use Rattle.ram_block.specs.declared.place.Width.{Width}
use Rattle.ram_block.specs.declared.place.Width.TheVariants.{Eight}
use Rattle.rv64i_decode.specs.declared.op.AmoOp.{AmoOp}
use Rattle.rv64i_decode.specs.declared.op.AmoOp.TheVariants.{Add, Swap, Xor, Or, And, Min, Max, Minu, Maxu}

-- the smaller and the larger of two numbers with the sign of a doubleword, or of a word
abbrev pub amo_min : Width → ℕ → ℕ → ℕ
amo_min Eight a b = cast_unsigned w64 (int_min (cast_signed w64 a) (cast_signed w64 b))
amo_min _ a b = cast_unsigned w32 (int_min (cast_signed w32 a) (cast_signed w32 b))

abbrev pub amo_max : Width → ℕ → ℕ → ℕ
amo_max Eight a b = cast_unsigned w64 (int_max (cast_signed w64 a) (cast_signed w64 b))
amo_max _ a b = cast_unsigned w32 (int_max (cast_signed w32 a) (cast_signed w32 b))

-- a sum wraps at the width
abbrev pub amo_sum : Width → ℕ → ℕ → ℕ
amo_sum Eight a b = (a + b) % 2 ^ 64
amo_sum _ a b = (a + b) % 2 ^ 32

-- the value that is written, of the one found and the one in rs2
unfoldable pub amo_written : AmoOp → Width → ℕ → ℕ → ℕ
amo_written Add width found value = amo_sum width found value
amo_written Swap width found value = value
amo_written Xor width found value = bit_xor found value
amo_written Or width found value = bit_or found value
amo_written And width found value = bit_and found value
amo_written Min width found value = amo_min width found value
amo_written Max width found value = amo_max width found value
amo_written Minu width found value = min found value
amo_written Maxu width found value = max found value
