-- The bytes of a number that a directive gives.
use Rattle.std.proofs.Common.{◌≡◌, ℕ, zero, suc, ◌+◌, ◌-◌, ◌≤◌, List, ◌∷◌, take, refl, ap, ◌∙◌, arith}
use Rattle.std.specs.Int.{byte_at, bytes_low_first, to_le_bytes, w64}

-- the first bytes of more of them
take-bytes_low_first : (i k m n : ℕ) → take k (bytes_low_first i (k + m) n) ≡ bytes_low_first i k n
take-bytes_low_first i zero m n = refl
take-bytes_low_first i (suc k) m n =
    let e : suc k + m ≡ suc (k + m) = omega arith in
    rw e (ap (λ (bytes : List ℕ). byte_at i n ∷ bytes) (take-bytes_low_first (suc i) k m n))

-- the lowest bytes are the first of all eight
pub lowest_bytes : (k n : ℕ) → k ≤ 8 → take k (to_le_bytes w64 n) ≡ bytes_low_first 0 k n
lowest_bytes k n few =
    let e : 8 ≡ k + (8 - k) = omega arith in
    ap (λ (count : ℕ). take k (bytes_low_first 0 count n)) e ∙ take-bytes_low_first 0 k (8 - k) n
