-- Hexadecimal digits of a number with leading zeros, as `{:02x}` and `{:08x}` write them.
use Rattle.std.proofs.Common.{◌≡◌, ℕ, zero, suc, ◌+◌, ◌-◌, ◌/◌, ◌%◌, ◌^◌, ◌<◌, ◌≤◌, ◌++◌, Bool, true, false, cond, List, [], ◌∷◌, length, replicate, Option, Some, Result, Ok, Err, OnOk, eqb, refl, sym, ap, subst, ◌≢◌, ◌∙◌, append_assoc, append-nil, arith}
use Rattle.std.specs.Fmt.{AppendsText, char_count, digit_glyph, digits, digits_onto, format_spec, padded_integral, ◌++?◌}
use Rattle.std.proofs.lemmas.Bool.Decides.{nat_tests}
use Rattle.std.proofs.lemmas.Grind.{common_steps, replicate_next}
use Rattle.guest_asm.specs.Listing.{hex_digits}

-- the digits of 0 are zeros
zeros : (count : ℕ) → hex_digits count 0 ≡ replicate count 48
zeros zero = refl
zeros (suc count) = ap (λ (ds : List ℕ). ds ++ 48 ∷ []) (zeros count) ∙ sym (replicate_next count 48) ∙ ap (λ (n : ℕ). replicate n 48) {x = count + 1} {y = suc count} (omega arith)

-- the last digit alone, where nothing stands before it
last_digit : (count n p : ℕ) (acc : List ℕ) → n / 16 ≡ 0 → p ≡ count →
    replicate p 48 ++ digit_glyph false (n % 16) ∷ acc ≡ hex_digits (suc count) n ++ acc
last_digit count n p acc none same =
    rw (same, append_assoc, none, zeros count) refl

-- a number without its last digit
front_fits : (count n : ℕ) → n < 16 ^ suc count → n / 16 < 16 ^ count
front_fits count n small = grind (arith, common_steps)

-- no digits write 0 alone
more_digits : (count n : ℕ) → n < 16 ^ count → n ≢ 0 → 0 < count
more_digits zero n small some = absurd (omega arith)
more_digits (suc count) n small some = omega arith

-- zeros and the digits of a number, before what stands behind them
onto : (fuel count n p : ℕ) (acc : List ℕ) → count ≤ fuel → 0 < count → n < 16 ^ count →
    p ≡ count + length acc - length (digits_onto fuel 16 false n acc) →
    replicate p 48 ++ digits_onto fuel 16 false n acc ≡ hex_digits count n ++ acc
onto fuel zero n p acc enough some small long = absurd (omega arith)
onto zero (suc count) n p acc enough some small long = absurd (omega arith)
onto (suc fuel) (suc count) n p acc enough some small long =
    by (eqb (n / 16) 0) refl long (λ left fits l. onto fuel count (n / 16) p more (omega arith) left fits l)
  where
    more : List ℕ
    more = digit_glyph false (n % 16) ∷ acc

    by : (b : Bool) → eqb (n / 16) 0 ≡ b →
        p ≡ suc count + length acc - length (cond b more (digits_onto fuel 16 false (n / 16) more)) →
        (0 < count → n / 16 < 16 ^ count → p ≡ count + length more - length (digits_onto fuel 16 false (n / 16) more) →
        replicate p 48 ++ digits_onto fuel 16 false (n / 16) more ≡ hex_digits count (n / 16) ++ more) →
        replicate p 48 ++ cond b more (digits_onto fuel 16 false (n / 16) more) ≡ hex_digits (suc count) n ++ acc
    by true e l rest =
        let none : n / 16 ≡ 0 = grind (arith, nat_tests) in
        let same : p ≡ count = omega arith in
        last_digit count n p acc none same
    by false e l rest =
        let front : n / 16 ≢ 0 = grind (arith, nat_tests) in
        let fits : n / 16 < 16 ^ count = front_fits count n small in
        rw append_assoc (rest (more_digits count (n / 16) fits front) fits (omega arith))

-- what is written of a number under a width, with zeros before it
padded : (width : ℕ) (ds : List ℕ) → padded_integral (format_spec 32 0 4 width (2 ^ 64 - 1)) false [] ds ≡ replicate (width - length ds) 48 ++ ds
unfolding padded_integral char_count
padded width ds =
    let plain : width - length ds - 0 - 0 ≡ width - length ds = omega arith in
    rw (plain, append-nil) refl

-- so many digits of a number that they write
digits_padded : (width n : ℕ) → width ≤ 64 → 0 < width → n < 16 ^ width →
    padded_integral (format_spec 32 0 4 width (2 ^ 64 - 1)) false [] (digits 16 false n) ≡ hex_digits width n
unfolding digits
digits_padded width n few some small =
    padded width (digits 16 false n) ∙ onto 64 width n _ [] few some small (omega arith) ∙ append-nil (hex_digits width n)

-- what `{:02x}` writes of a byte
pub hex_byte : (n : ℕ) → n < 2 ^ 8 → padded_integral (format_spec 32 0 4 2 (2 ^ 64 - 1)) false [] (digits 16 false n) ≡ hex_digits 2 n
hex_byte n small = digits_padded 2 n (omega arith) (omega arith) (omega arith)

-- what `{:08x}` writes of a word
pub hex_word : (n : ℕ) → n < 2 ^ 32 → padded_integral (format_spec 32 0 4 8 (2 ^ 64 - 1)) false [] (digits 16 false n) ≡ hex_digits 8 n
hex_word n small = digits_padded 8 n (omega arith) (omega arith) (omega arith)

-- a text behind another, of which one part is written by a hole
pub written : {A E : Type 0} (result : Result A E) (old new front back text : List ℕ) (hole : Option (List ℕ)) → hole ≡ Some text →
    OnOk result (AppendsText old new (Some front ++? (hole ++? Some back))) → OnOk result (new ≡ old ++ (front ++ text ++ back))
written (Ok x) old new front back text hole is h =
    let all : new ≡ old ++ (front ++ (text ++ back)) = subst (λ o. AppendsText old new (Some front ++? (o ++? Some back))) is h in
    rw append_assoc all
written (Err e) old new front back text hole is h = tt
