-- The numbers of valid instructions are ones that their statements take.
use Rattle.std.proofs.Common.{◌≡◌, ℕ, ◌+◌, ◌-◌, ◌*◌, ◌/◌, ◌^◌, ◌%◌, ◌<◌, ◌≤◌, Bool, true, false, IsTrue, T, ◌==◌, cond, nat_lt, ℤ, pos, negsuc, ◌≤ℤ◌, int_le, unsigned_abs, refl, ap, arith}
use Rattle.std.proofs.lemmas.Int.{ints}
use Rattle.rv64i_decode.specs.Immediate.{Is12Bit, IsBetween, IsUpperImmediate}
use Rattle.guest_asm.specs.declared.mnemonic.Mnemonic.{Mnemonic}
use Rattle.guest_asm.specs.Bytes.{is_in_range, is_jump, range_of, upper_immediate}
use Rattle.guest_asm.specs.Facts.{IsInRange}
use Rattle.guest_asm.specs.Listing.{upper_number}

-- ---- A test for a range is passed where the number is in it

-- a test that holds is true
passed : (b : Bool) → T b → b ≡ true
passed true h = refl
passed false h = absurd h

-- the order of two numbers is tested by `int_le`
at_most : (a b : ℤ) → a ≤ℤ b → int_le a b ≡ true
at_most a b h = passed (int_le a b) h.le

-- the test for an even number, where one is wanted
even_by : (b : Bool) (n : ℕ) → (IsTrue b → n ≡ 0) → cond b (n == 0) true ≡ true
even_by true n h = grind (arith, h refl)
even_by false n h = refl

-- so the test for the range is passed
pub in_range : (m : Mnemonic) (z : ℤ) → IsInRange m z → is_in_range m z ≡ true
unfolding is_in_range
in_range m z h =
    rw (at_most (range_of m).least z h.least, at_most z (range_of m).most h.most) (even_by (is_jump m) (unsigned_abs z % 2) h.even)

-- ---- The numbers of 12 bits, the amounts, the targets, the upper immediates

-- a number of 12 bits is small
pub small_12 : (z : ℤ) → Is12Bit z → unsigned_abs z < 2 ^ 32
small_12 (pos k) h = omega (arith, ints, h.1)
small_12 (negsuc k) h = omega (arith, ints, h.0)

-- so is a target
pub small_target : (z : ℤ) → IsBetween (negsuc 1048575) (pos 1048574) z → unsigned_abs z < 2 ^ 32
small_target (pos k) h = omega (arith, ints, h.1)
small_target (negsuc k) h = omega (arith, ints, h.0)

-- the target of a branch is one that a jump reaches too
pub wide_target : (z : ℤ) → IsBetween (negsuc 4095) (pos 4094) z → IsBetween (negsuc 1048575) (pos 1048574) z
wide_target z h = (omega (arith, ints, h.0), omega (arith, ints, h.1))

-- an amount is between 0 and the greatest
pub amount_range : (n most : ℕ) → n < most + 1 → (pos 0 ≤ℤ pos n) × (pos n ≤ℤ pos most)
amount_range n most h = (omega (arith, ints), omega (arith, ints))

-- a number from 0 on is above a negative one
pub negative : (k n : ℕ) → negsuc k ≤ℤ pos n
negative k n = omega (arith, ints)

-- 20 bits of an upper immediate
pub upper_small : (z : ℤ) → IsUpperImmediate z → upper_number z ≤ 1048575
upper_small (pos k) h = omega (arith, ints, h.0.1, h.1)
upper_small (negsuc k) h = omega (arith, ints, h.0.0, h.1)

-- a positive immediate comes back from its upper bits
upper_low : (n k : ℕ) → n ≡ k → k < 2 ^ 31 → cond (nat_lt n (2 ^ 31)) (pos n) (negsuc (2 * 2 ^ 31 - (n + 1))) ≡ pos k
upper_low n k is low =
    let test : nat_lt n (2 ^ 31) ≡ true = grind (arith, is) in
    rw test (ap pos is)

-- a negative one does, from its two's complement
upper_high : (n k : ℕ) → n + (k + 1) ≡ 2 ^ 32 → k < 2 ^ 31 → cond (nat_lt n (2 ^ 31)) (pos n) (negsuc (2 * 2 ^ 31 - (n + 1))) ≡ negsuc k
upper_high n k is low =
    let test : nat_lt n (2 ^ 31) ≡ false = grind (arith, is) in
    let left : 2 * 2 ^ 31 - (n + 1) ≡ k = omega arith in
    rw test (ap negsuc left)

-- so an upper immediate is that of its number
pub upper_again : (z : ℤ) → IsUpperImmediate z → upper_immediate (pos (upper_number z)) ≡ z
upper_again (pos k) h = upper_low (4096 * (k / 4096)) k (omega (arith, h.1)) (omega (arith, ints, h.0.1))
upper_again (negsuc k) h =
    upper_high (4096 * (1048576 - (k + 1) / 4096)) k (omega (arith, ints, h.0.0, h.1)) (omega (arith, ints, h.0.0))
