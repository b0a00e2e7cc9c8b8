-- An empty statement, and a statement without a number.
use Rattle.std.proofs.Common.{◌≡◌, ℕ, zero, suc, List, [], ◌∷◌, length, ℤ, pos, neg_ℤ, true, IsTrue, Option, None, refl, arith}
use Rattle.std.proofs.Math.Dec.{leb-zero}
use Rattle.std.specs.Prelude.{int_le}
use Rattle.guest_asm.specs.declared.mnemonic.Mnemonic.{Mnemonic}
use Rattle.guest_asm.specs.declared.mnemonic.Mnemonic.TheVariants.{Op, OpW, Imm, ImmW, Shift, ShiftW, Load, Jalr, Store, Branch, Jal, Lui, Auipc, Amo, Fence, Ecall, Ebreak, Data, Zero}
use Rattle.guest_asm.specs.Assemble.{statement_kind, statement_piece}
use Rattle.guest_asm.specs.Bytes.{is_in_range, size_of}
use Rattle.guest_asm.specs.Labels.{size_placed}
use Rattle.guest_asm.specs.Mnemonic.{form_of, mnemonic_named}
use Rattle.guest_asm.specs.Steps.{has_target}

-- nothing is wrong with an empty statement
pub empty_kind : (places : List ℕ → Option ℕ) (place : ℕ) (statement : List ℕ) → length statement ≡ 0 → statement_kind places place statement ≡ None
unfolding statement_kind
empty_kind places place [] h = refl
empty_kind places place (b ∷ bs) h = absurd (omega arith)

-- and it places nothing
pub empty_piece : (places : List ℕ → Option ℕ) (place : ℕ) (statement : List ℕ) → length statement ≡ 0 → statement_piece places place statement ≡ None
unfolding statement_piece mnemonic_named
empty_piece places place [] h = refl
empty_piece places place (b ∷ bs) h = absurd (omega arith)

pub empty_size : (statement : List ℕ) → length statement ≡ 0 → size_placed statement ≡ 0
unfolding size_placed mnemonic_named
empty_size [] h = refl
empty_size (b ∷ bs) h = absurd (omega arith)

-- the negative of a number isn't above 0
negative_low : (k : ℕ) → int_le (neg_ℤ (pos k)) (pos 0) ≡ true
negative_low zero = refl
negative_low (suc k) = refl

-- every statement takes the number 0
pub zero_in_range : (m : Mnemonic) → is_in_range m (pos 0) ≡ true
unfolding is_in_range
zero_in_range (Op op) = refl
zero_in_range (OpW op) = refl
zero_in_range (Imm op) = refl
zero_in_range ImmW = refl
zero_in_range (Shift op) = refl
zero_in_range (ShiftW op) = refl
zero_in_range (Load op) = refl
zero_in_range Jalr = refl
zero_in_range (Store op) = refl
zero_in_range (Branch op) = refl
zero_in_range Jal = refl
zero_in_range Lui = refl
zero_in_range Auipc = refl
zero_in_range (Amo op wide order) = refl
zero_in_range Fence = refl
zero_in_range Ecall = refl
zero_in_range Ebreak = refl
zero_in_range (Data directive) = rw (negative_low, leb-zero) refl
zero_in_range Zero = refl

-- the size of a jump is the same for every number
pub size_of_jump : (m : Mnemonic) (n : ℤ) → IsTrue (has_target (form_of m)) → size_of m n ≡ size_of m (pos 0)
size_of_jump (Op op) n h = refl
size_of_jump (OpW op) n h = refl
size_of_jump (Imm op) n h = refl
size_of_jump ImmW n h = refl
size_of_jump (Shift op) n h = refl
size_of_jump (ShiftW op) n h = refl
size_of_jump (Load op) n h = refl
size_of_jump Jalr n h = refl
size_of_jump (Store op) n h = refl
size_of_jump (Branch op) n h = refl
size_of_jump Jal n h = refl
size_of_jump Lui n h = refl
size_of_jump Auipc n h = refl
size_of_jump (Amo op wide order) n h = refl
size_of_jump Fence n h = refl
size_of_jump Ecall n h = refl
size_of_jump Ebreak n h = refl
size_of_jump (Data directive) n h = refl
size_of_jump Zero n h = absurd (grind (arith, h))
