-- The numbers of four bits of bytes, by their number.
use Rattle.std.proofs.Common.{◌≡◌, ◌≢◌, ℕ, zero, suc, ◌+◌, ◌*◌, ◌/◌, ◌%◌, ◌<◌, List, [], ◌∷◌, ◌++◌, length, take, get_or, refl, sym, ◌∙◌, ap, arith}
use Rattle.std.proofs.lemmas.List.{take_more, length-take}
use Rattle.order_log.specs.Reading.{byte_len, halves}

pub length-halves : (bytes : List ℕ) → length (halves bytes) ≡ 2 * length bytes
unfolding halves
length-halves [] = refl
length-halves (byte ∷ bytes) = let rest = length-halves bytes in omega (arith, rest)

-- two numbers further
past_byte : (byte : ℕ) (bytes : List ℕ) (i j : ℕ) → i ≡ suc (suc j) → get_or (halves (byte ∷ bytes)) i 0 ≡ get_or (halves bytes) j 0
unfolding halves
past_byte byte bytes i j is = ap (λ (n : ℕ). get_or (byte % 16 ∷ byte / 16 ∷ halves bytes) n 0) is

low_half : (byte : ℕ) (bytes : List ℕ) → get_or (halves (byte ∷ bytes)) 0 0 ≡ byte % 16
unfolding halves
low_half byte bytes = refl

high_half : (byte : ℕ) (bytes : List ℕ) → get_or (halves (byte ∷ bytes)) 1 0 ≡ byte / 16
unfolding halves
high_half byte bytes = refl

none_half : (i : ℕ) → get_or (halves []) i 0 ≡ 0
unfolding halves
none_half zero = refl
none_half (suc i) = refl

-- the low four bits of a byte
low_at : (bytes : List ℕ) (j i : ℕ) → i ≡ 2 * j → get_or (halves bytes) i 0 ≡ get_or bytes j 0 % 16
low_at [] j i is = none_half i
low_at (byte ∷ bytes) zero i is = ap (λ (n : ℕ). get_or (halves (byte ∷ bytes)) n 0) (let e : i ≡ 0 = omega (arith, is) in e) ∙ low_half byte bytes
low_at (byte ∷ bytes) (suc j) i is = past_byte byte bytes i (2 * j) (let e : i ≡ suc (suc (2 * j)) = omega (arith, is) in e) ∙ low_at bytes j (2 * j) refl

-- its high ones
high_at : (bytes : List ℕ) (j i : ℕ) → i ≡ 2 * j + 1 → get_or (halves bytes) i 0 ≡ get_or bytes j 0 / 16
high_at [] j i is = none_half i
high_at (byte ∷ bytes) zero i is = ap (λ (n : ℕ). get_or (halves (byte ∷ bytes)) n 0) (let e : i ≡ 1 = omega (arith, is) in e) ∙ high_half byte bytes
high_at (byte ∷ bytes) (suc j) i is = past_byte byte bytes i (2 * j + 1) (let e : i ≡ suc (suc (2 * j + 1)) = omega (arith, is) in e) ∙ high_at bytes j (2 * j + 1) refl

-- the same by a number
pub half_low : (bytes : List ℕ) (i : ℕ) → i % 2 ≡ 0 → get_or bytes (i / 2) 0 % 16 ≡ get_or (halves bytes) i 0
half_low bytes i even = let same = low_at bytes (i / 2) i (omega (arith, even)) in cc

pub half_high : (bytes : List ℕ) (i : ℕ) → i % 2 ≢ 0 → get_or bytes (i / 2) 0 / 16 ≡ get_or (halves bytes) i 0
half_high bytes i odd = let same = high_at bytes (i / 2) i (omega (arith, odd)) in cc

-- one number more of them
pub halves_more : (bytes o : List ℕ) (i k : ℕ) → i < 2 * length bytes → o ≡ take i (halves bytes) → k ≡ get_or (halves bytes) i 0 → o ++ k ∷ [] ≡ take (i + 1) (halves bytes)
halves_more bytes o i k within so_far is =
    ap (λ (l : List ℕ). l ++ k ∷ []) so_far
    ∙ ap (λ (n : ℕ). take i (halves bytes) ++ n ∷ []) is
    ∙ sym (take_more (halves bytes) i 0 (omega (arith, within, length-halves bytes)))

-- so many of them
pub halves_count : (bytes : List ℕ) (n : ℕ) → length bytes ≡ byte_len n → length (take n (halves bytes)) ≡ n
halves_count bytes n count = omega (arith, count, length-halves bytes, length-take n (halves bytes))
