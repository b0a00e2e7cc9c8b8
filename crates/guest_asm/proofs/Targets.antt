-- A number in a target's place is no label.
use Rattle.std.proofs.Common.{◌≡◌, ℕ, ◌<◌, ◌≤◌, Bool, true, false, ◌==◌, nat_eq, cond, List, [], ◌∷◌, drop, codes, Option, Some, None, ℤ, pos, neg_ℤ, refl, arith}
use Rattle.std.specs.Char.{digit_value}
use Rattle.std.specs.List.{starts_with}
use Rattle.std.specs.Option.{option_map}
use Rattle.std.specs.Str.Parse.{digits_value}
use Rattle.guest_asm.specs.Line.{begins_identifier, is_identifier}
use Rattle.guest_asm.specs.Number.{are_digits, has_digits, magnitude, number_in_radix, number_of}
use Rattle.guest_asm.specs.Operand.{offset, target_in}

-- a decimal digit
digit_range : (c : ℕ) → digit_value c < 10 → (48 ≤ c) × (c < 58)
digit_range c h = (grind arith, grind arith)

-- no identifier begins with one
digit_first : (c : ℕ) → 48 ≤ c → c < 58 → begins_identifier c ≡ false
unfolding begins_identifier
digit_first c least most = grind arith

-- nor with a `-`
sign_first : (c : ℕ) → c ≡ 45 → begins_identifier c ≡ false
unfolding begins_identifier
sign_first c h = grind (arith, h)

-- nor with decimal digits
digits_first : (c : ℕ) (cs : List ℕ) → has_digits 10 (c ∷ cs) ≡ true → begins_identifier c ≡ false
unfolding has_digits
digits_first c cs h =
    let range = digit_range c (grind (arith, h)) in
    digit_first c range.0 range.1

-- a choice that gives a value was taken
chosen : {A : Type 0} (b : Bool) (x y : A) → cond b (Some x) None ≡ Some y → b ≡ true
chosen true x y h = refl
chosen false x y h = cc

-- a value that is passed on is there
mapped : {A B : Type 0} (f : A → B) (o : Option A) (y : B) → option_map f o ≡ Some y → (x : A) × (o ≡ Some x)
mapped f None y h = absurd cc
mapped f (Some x) y h = (x, refl)

-- no identifier begins with decimal digits that are a number
decimal_first : (c : ℕ) (cs : List ℕ) (n : ℕ) → number_in_radix 10 20 (c ∷ cs) ≡ Some n → begins_identifier c ≡ false
decimal_first c cs n h =
    let are : are_digits 10 20 (c ∷ cs) ≡ true = chosen (are_digits 10 20 (c ∷ cs)) (digits_value 10 (c ∷ cs)) n h in
    digits_first c cs (grind (arith, are))

-- what begins with `0x` begins no identifier
zero_first : (c : ℕ) (cs : List ℕ) → starts_with nat_eq (c ∷ cs) (codes "0x") ≡ true → begins_identifier c ≡ false
zero_first c cs h =
    let is : c ≡ 48 = grind (arith, h) in
    digit_first c (omega arith) (omega arith)

-- nor does a number without a sign, by its prefix
prefix_first : (c : ℕ) (cs : List ℕ) (n : ℕ) (b : Bool) → starts_with nat_eq (c ∷ cs) (codes "0x") ≡ b →
    cond b (number_in_radix 16 16 (drop 2 (c ∷ cs))) (number_in_radix 10 20 (c ∷ cs)) ≡ Some n → begins_identifier c ≡ false
prefix_first c cs n true is h = zero_first c cs is
prefix_first c cs n false is h = decimal_first c cs n h

-- nor does any number without a sign
magnitude_first : (c : ℕ) (cs : List ℕ) (n : ℕ) → magnitude (c ∷ cs) ≡ Some n → begins_identifier c ≡ false
magnitude_first c cs n h = prefix_first c cs n (starts_with nat_eq (c ∷ cs) (codes "0x")) refl h

-- nor a number, by its sign
signed_first : (c : ℕ) (cs : List ℕ) (z : ℤ) (b : Bool) → (c == 45) ≡ b →
    cond b (option_map (λ n. neg_ℤ (pos n)) (magnitude cs)) (option_map pos (magnitude (c ∷ cs))) ≡ Some z → begins_identifier c ≡ false
signed_first c cs z true is h = sign_first c (grind (arith, is))
signed_first c cs z false is h =
    let some = mapped pos (magnitude (c ∷ cs)) z h in
    magnitude_first c cs some.0 some.1

-- nor any number
number_first : (c : ℕ) (cs : List ℕ) (z : ℤ) → number_of (c ∷ cs) ≡ Some z → begins_identifier c ≡ false
unfolding number_of
number_first c cs z h = signed_first c cs z (c == 45) refl h

-- so a number is no identifier
no_identifier : (text : List ℕ) (z : ℤ) → number_of text ≡ Some z → is_identifier text ≡ false
no_identifier [] z h = refl
no_identifier (c ∷ cs) z h = rw (number_first c cs z h)

-- and is an offset where a target stands
pub target_number : (text : List ℕ) (z : ℤ) → number_of text ≡ Some z → target_in text ≡ Some (offset z)
unfolding target_in
target_number text z h = rw (no_identifier text z h, h)
