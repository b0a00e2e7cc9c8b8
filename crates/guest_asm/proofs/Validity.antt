-- The instruction of a statement with nothing wrong in it is one that a word can hold.
use Rattle.std.proofs.Common.{◌≡◌, ℕ, ◌+◌, ◌-◌, ◌*◌, ◌^◌, ◌<◌, ◌≤◌, Bool, true, false, cond, nat_lt, ℤ, pos, negsuc, ◌≤ℤ◌, unsigned_abs, refl, subst, IsTrue, rules, arith}
use Rattle.std.proofs.lemmas.Int.{ints}
use Rattle.rv64i_decode.specs.declared.instr.Instr.{Instr}
use Rattle.rv64i_decode.specs.Immediate.{IsUpperImmediate}
use Rattle.rv64i_decode.specs.Valid.{IsValid}
use Rattle.guest_asm.specs.declared.mnemonic.Mnemonic.{Mnemonic}
use Rattle.guest_asm.specs.declared.mnemonic.Mnemonic.TheVariants.{Op, OpW, Imm, ImmW, Shift, ShiftW, Load, Jalr, Store, Branch, Jal, Lui, Auipc, Amo, Fence, Ecall, Ebreak, Data, Zero}
use Rattle.guest_asm.specs.declared.operand.Registers.{Registers}
use Rattle.guest_asm.specs.Bytes.{Piece, instruction, given, piece_of, upper_immediate}
use Rattle.guest_asm.specs.Facts.{AreBelow32, HasSmallOrder, IsInRange}
use Rattle.guest_asm.specs.Steps.{GivesBytes}

-- an instruction among the pieces is valid
abbrev pub IsValidPiece : Piece → Type 0
IsValidPiece (instruction i) = IsValid i
IsValidPiece (given bytes) = Unit {0}

-- a number from 0 on, and no greater than another
amount : (most : ℕ) (n : ℤ) → pos 0 ≤ℤ n → n ≤ℤ pos most → unsigned_abs n < most + 1
amount most (pos k) least greatest = omega (arith, ints)
amount most (negsuc k) least greatest = absurd (omega (arith, ints))

-- 20 bits are an immediate of lui and auipc
upper_by : (k : ℕ) (b : Bool) → k ≤ 1048575 → nat_lt (4096 * k) (2 ^ 31) ≡ b →
    IsUpperImmediate (cond b (pos (4096 * k)) (negsuc (2 * 2 ^ 31 - (4096 * k + 1))))
upper_by k true h e =
    let low : 4096 * k < 2 ^ 31 = grind (arith, e) in
    ((omega (arith, ints), omega (arith, ints)), omega arith)
upper_by k false h e =
    let high : 2 ^ 31 ≤ 4096 * k = grind (arith, e) in
    ((omega (arith, ints), omega (arith, ints)), omega arith)

upper : (n : ℤ) → pos 0 ≤ℤ n → n ≤ℤ pos 1048575 → IsUpperImmediate (upper_immediate n)
upper (pos k) least greatest =
    let few : k ≤ 1048575 = omega (arith, ints) in
    upper_by k (nat_lt (4096 * k) (2 ^ 31)) few refl
upper (negsuc k) least greatest = absurd (omega (arith, ints))

is_jump_true : IsTrue true
is_jump_true = search rules

pub valid_piece : (m : Mnemonic) (r : Registers) (n : ℤ) → AreBelow32 r → HasSmallOrder m → IsInRange m n →
    IsValidPiece (piece_of m r n)
unfolding piece_of
valid_piece (Op op) r n s o h = (s.first, s.second, s.third)
valid_piece (OpW op) r n s o h = (s.first, s.second, s.third)
valid_piece (Imm op) r n s o h = (s.first, s.second, (h.least, h.most))
valid_piece ImmW r n s o h = (s.first, s.second, (h.least, h.most))
valid_piece (Shift op) r n s o h = (s.first, s.second, amount 63 n h.least h.most)
valid_piece (ShiftW op) r n s o h = (s.first, s.second, amount 31 n h.least h.most)
valid_piece (Load op) r n s o h = (s.first, s.second, (h.least, h.most))
valid_piece Jalr r n s o h = (s.first, s.second, (h.least, h.most))
valid_piece (Store op) r n s o h = (s.second, s.first, (h.least, h.most))
valid_piece (Branch op) r n s o h = (s.first, s.second, ((h.least, h.most), h.even is_jump_true))
valid_piece Jal r n s o h = (s.first, ((h.least, h.most), h.even is_jump_true))
valid_piece Lui r n s o h = (s.first, upper n h.least h.most)
valid_piece Auipc r n s o h = (s.first, upper n h.least h.most)
valid_piece (Amo op wide order) r n s o h = (s.first, s.third, s.second, grind (arith, o))
valid_piece Fence r n s o h = (omega arith, omega arith, omega arith)
valid_piece Ecall r n s o h = tt
valid_piece Ebreak r n s o h = tt
valid_piece (Data directive) r n s o h = tt
valid_piece Zero r n s o h = tt

-- so the instruction of a statement is
pub valid_instruction : (m : Mnemonic) (r : Registers) (n : ℤ) (i : Instr) → AreBelow32 r → HasSmallOrder m → IsInRange m n →
    piece_of m r n ≡ instruction i → IsValid i
valid_instruction m r n i small order range e = subst IsValidPiece e (valid_piece m r n small order range)

-- a number of an instruction is small
pub small_number : (m : Mnemonic) (n : ℤ) → IsInRange m n → (GivesBytes m → ⊥) → (negsuc (2 ^ 62) ≤ℤ n) × (n ≤ℤ pos (2 ^ 62))
small_number (Imm op) n h code = (omega (arith, ints, h.least), omega (arith, ints, h.most))
small_number ImmW n h code = (omega (arith, ints, h.least), omega (arith, ints, h.most))
small_number (Shift op) n h code = (omega (arith, ints, h.least), omega (arith, ints, h.most))
small_number (ShiftW op) n h code = (omega (arith, ints, h.least), omega (arith, ints, h.most))
small_number (Load op) n h code = (omega (arith, ints, h.least), omega (arith, ints, h.most))
small_number Jalr n h code = (omega (arith, ints, h.least), omega (arith, ints, h.most))
small_number (Store op) n h code = (omega (arith, ints, h.least), omega (arith, ints, h.most))
small_number (Branch op) n h code = (omega (arith, ints, h.least), omega (arith, ints, h.most))
small_number Jal n h code = (omega (arith, ints, h.least), omega (arith, ints, h.most))
small_number Lui n h code = (omega (arith, ints, h.least), omega (arith, ints, h.most))
small_number Auipc n h code = (omega (arith, ints, h.least), omega (arith, ints, h.most))
small_number (Data directive) n h code = absurd (code tt)
small_number Zero n h code = absurd (code tt)
small_number _ n h code = (omega (arith, ints, h.least), omega (arith, ints, h.most))
