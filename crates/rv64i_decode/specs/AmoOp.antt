-- What tells the AMO rows apart (RISC-V Unprivileged ISA, "A" Extension, Atomic Memory Operations).
use Rattle.std.specs.Prelude.{ℕ, Bool, true, false}
use Rattle.rv64i_decode.specs.declared.op.AmoOp.{AmoOp}
use Rattle.rv64i_decode.specs.declared.op.AmoOp.TheVariants.{Add, Swap, Xor, Or, And, Min, Max, Minu, Maxu}

-- bits 31:27, above aq and rl
abbrev pub amo_funct5 : AmoOp → ℕ
amo_funct5 Add = 0b00000
amo_funct5 Swap = 0b00001
amo_funct5 Xor = 0b00100
amo_funct5 Or = 0b01000
amo_funct5 And = 0b01100
amo_funct5 Min = 0b10000
amo_funct5 Max = 0b10100
amo_funct5 Minu = 0b11000
amo_funct5 Maxu = 0b11100

-- funct3: a doubleword or a word
abbrev pub amo_funct3 : Bool → ℕ
amo_funct3 true = 0b011
amo_funct3 false = 0b010
