-- Members two a byte: their bytes, and what is read from these.
use Rattle.std.proofs.Common.{◌≡◌, ℕ, zero, suc, ◌+◌, ◌*◌, ◌/◌, ◌%◌, ◌<◌, List, [], ◌∷◌, length, take, get_or, All, refl, ◌∙◌, ap, arith}
use Rattle.std.proofs.lemmas.List.Elements.{All-head, All-tail}
use Rattle.order_log.specs.Reading.{byte_len, halves}
use Rattle.order_log.specs.Text.{packed}

pub length-packed : (o : List ℕ) → length (packed o) ≡ byte_len (length o)
unfolding packed
length-packed [] = refl
length-packed (k ∷ []) = refl
length-packed (k ∷ j ∷ o) = let rest = length-packed o in omega (arith, rest)

-- behind a last member
past_one : (k i j : ℕ) → i ≡ suc j → get_or (k ∷ []) i 0 ≡ 0
past_one k i j is = ap (λ (n : ℕ). get_or (k ∷ []) n 0) is

-- a byte of the members
pub packed_at : (o : List ℕ) (i : ℕ) → get_or o (2 * i) 0 + 16 * get_or o (2 * i + 1) 0 ≡ get_or (packed o) i 0
unfolding packed
packed_at [] i = refl
packed_at (k ∷ []) zero = omega arith
packed_at (k ∷ []) (suc i) =
    let low : get_or (k ∷ []) (2 * suc i) 0 ≡ 0 = past_one k (2 * suc i) (2 * i + 1) (omega arith) in
    let high : get_or (k ∷ []) (2 * suc i + 1) 0 ≡ 0 = past_one k (2 * suc i + 1) (2 * i + 2) (omega arith) in
    omega (arith, low, high)
packed_at (k ∷ j ∷ o) zero = refl
packed_at (k ∷ j ∷ o) (suc i) =
    let low : 2 * suc i ≡ suc (suc (2 * i)) = omega arith in
    let high : 2 * suc i + 1 ≡ suc (suc (2 * i + 1)) = omega arith in
    ap (λ (n : ℕ). get_or (k ∷ j ∷ o) n 0 + 16 * get_or (k ∷ j ∷ o) (2 * suc i + 1) 0) low
    ∙ ap (λ (n : ℕ). get_or o (2 * i) 0 + 16 * get_or (k ∷ j ∷ o) n 0) high
    ∙ packed_at o i

-- the members of bytes have these bytes
pub packed_halves : (bytes : List ℕ) (n : ℕ) → length bytes ≡ byte_len n → get_or (halves bytes) n 0 ≡ 0 → packed (take n (halves bytes)) ≡ bytes
unfolding packed halves
packed_halves [] zero count pad = refl
packed_halves [] (suc n) count pad = absurd (omega (arith, count))
packed_halves (byte ∷ bytes) zero count pad = absurd (omega (arith, count))
packed_halves (byte ∷ []) (suc zero) count pad = ap (λ (b : ℕ). b ∷ []) (let e : byte % 16 ≡ byte = omega (arith, pad) in e)
packed_halves (byte ∷ other ∷ bytes) (suc zero) count pad = absurd (omega (arith, count))
packed_halves (byte ∷ bytes) (suc (suc n)) count pad =
    let rest = packed_halves bytes n (omega (arith, count)) pad in
    let same : byte % 16 + 16 * (byte / 16) ≡ byte = omega arith in
    ap (λ (b : ℕ). b ∷ packed (take n (halves bytes))) same ∙ ap (λ (l : List ℕ). byte ∷ l) rest

-- the bytes of members have these members
pub halves_packed : (o : List ℕ) → All (λ k. k < 16) o → take (length o) (halves (packed o)) ≡ o
unfolding packed halves
halves_packed [] small = refl
halves_packed (k ∷ []) small = let first = All-head (λ k. k < 16) k [] small in ap (λ (n : ℕ). n ∷ []) (let e : k % 16 ≡ k = omega (arith, first) in e)
halves_packed (k ∷ j ∷ o) small =
    let first = All-head (λ k. k < 16) k (j ∷ o) small in
    let rest = All-tail (λ k. k < 16) k (j ∷ o) small in
    let second = All-head (λ k. k < 16) j o rest in
    let low : (k + 16 * j) % 16 ≡ k = omega (arith, first) in
    let high : (k + 16 * j) / 16 ≡ j = omega (arith, first) in
    ap (λ (n : ℕ). n ∷ (k + 16 * j) / 16 ∷ take (length o) (halves (packed o))) low
    ∙ ap (λ (n : ℕ). k ∷ n ∷ take (length o) (halves (packed o))) high
    ∙ ap (λ (l : List ℕ). k ∷ j ∷ l) (halves_packed o (All-tail (λ k. k < 16) j o rest))

-- and 0 behind them
pub pad_packed : (o : List ℕ) → All (λ k. k < 16) o → get_or (halves (packed o)) (length o) 0 ≡ 0
unfolding packed halves
pad_packed [] small = refl
pad_packed (k ∷ []) small = let first = All-head (λ k. k < 16) k [] small in omega (arith, first)
pad_packed (k ∷ j ∷ o) small = pad_packed o (All-tail (λ k. k < 16) j o (All-tail (λ k. k < 16) k (j ∷ o) small))
