-- What is kept of a statement with nothing wrong in it (this project's own).
use Rattle.std.specs.Prelude.{◌≡◌, ◌%◌, ◌<◌, nat_lt, Bool, true, ℤ, ◌≤ℤ◌, unsigned_abs, IsTrue}
use Rattle.guest_asm.specs.declared.mnemonic.Mnemonic.{Mnemonic}
use Rattle.guest_asm.specs.declared.mnemonic.Mnemonic.TheVariants.{Amo}
use Rattle.guest_asm.specs.declared.operand.Registers.{Registers}
use Rattle.guest_asm.specs.Bytes.{is_jump, range_of}

-- the numbers of registers
pub record AreBelow32 (r : Registers) : Type 0 where
  pub first : r.first < 32
  pub second : r.second < 32
  pub third : r.third < 32

-- the order of an AMO instruction is two bits
abbrev pub has_small_order : Mnemonic → Bool
has_small_order (Amo op wide order) = nat_lt order 4
has_small_order _ = true

abbrev pub HasSmallOrder : Mnemonic → Type 0
HasSmallOrder m = IsTrue (has_small_order m)

-- a number that a statement takes
pub record IsInRange (m : Mnemonic) (n : ℤ) : Type 0 where
  pub least : (range_of m).least ≤ℤ n
  pub most : n ≤ℤ (range_of m).most
  pub even : IsTrue (is_jump m) → unsigned_abs n % 2 ≡ 0
