-- The accesses of loads, stores and AMOs: how wide they are, and what a load makes of the bytes that it gets
-- (RISC-V Unprivileged ISA, Load and Store Instructions; "A" Extension, Atomic Memory Operations).
use Rattle.std.specs.Prelude.{ℕ, ◌%◌, ◌^◌, Bool, true, false}
use Rattle.std.specs.Int.{w8, w16, w32, w64, cast_signed, cast_unsigned}
use Rattle.ram_block.specs.declared.place.Width.{Width}
use Rattle.ram_block.specs.declared.place.Width.TheVariants.{One, Two, Four, Eight}
use Rattle.rv64i_decode.specs.declared.instr.Instr.{Instr}
use Rattle.rv64i_decode.specs.declared.instr.Instr.TheVariants.{Load, Store, Amo}
use Rattle.rv64i_decode.specs.declared.op.LoadOp.{LoadOp}
use Rattle.rv64i_decode.specs.declared.op.LoadOp.TheVariants.{Lb, Lh, Lw, Ld, Lbu, Lhu, Lwu}
use Rattle.rv64i_decode.specs.declared.op.StoreOp.{StoreOp}
use Rattle.rv64i_decode.specs.declared.op.StoreOp.TheVariants.{Sb, Sh, Sw, Sd}

-- the instruction is a load, a store or an AMO
abbrev pub AccessesMemory : Instr → Type 0
AccessesMemory (Load op rd rs1 off) = Unit {0}
AccessesMemory (Store op rs1 rs2 off) = Unit {0}
AccessesMemory (Amo op wide rd rs1 rs2 order) = Unit {0}
AccessesMemory _ = ⊥

-- how many bytes each access moves
abbrev pub load_width : LoadOp → Width
load_width Lb = One
load_width Lh = Two
load_width Lw = Four
load_width Ld = Eight
load_width Lbu = One
load_width Lhu = Two
load_width Lwu = Four

abbrev pub store_width : StoreOp → Width
store_width Sb = One
store_width Sh = Two
store_width Sw = Four
store_width Sd = Eight

abbrev pub amo_width : Bool → Width
amo_width true = Eight
amo_width false = Four

-- the low bytes of a register, as many as the access moves
abbrev pub low_bytes : Width → ℕ → ℕ
low_bytes One a = a % 2 ^ 8
low_bytes Two a = a % 2 ^ 16
low_bytes Four a = a % 2 ^ 32
low_bytes Eight a = a

-- the bytes that were read, sign-extended to a register
abbrev pub extended : Width → ℕ → ℕ
extended One a = cast_unsigned w64 (cast_signed w8 (a % 2 ^ 8))
extended Two a = cast_unsigned w64 (cast_signed w16 (a % 2 ^ 16))
extended Four a = cast_unsigned w64 (cast_signed w32 (a % 2 ^ 32))
extended Eight a = a

-- what a load writes to its register, of the bytes that it got: LBU, LHU and LWU have no sign
unfoldable pub loaded : LoadOp → ℕ → ℕ
loaded Lb a = extended One a
loaded Lh a = extended Two a
loaded Lw a = extended Four a
loaded Ld a = extended Eight a
loaded Lbu a = low_bytes One a
loaded Lhu a = low_bytes Two a
loaded Lwu a = low_bytes Four a
