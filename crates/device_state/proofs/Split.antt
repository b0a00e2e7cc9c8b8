-- Lists that are made of pieces: where two are equal, and the pieces that begin them have one length, these are equal,
-- and so is what follows.
use Rattle.std.proofs.Common.{◌≡◌, ℕ, ◌^◌, ◌<◌, List, [], ◌∷◌, ◌++◌, length, refl, sym, ap, ◌∙◌, arith, append_assoc}
use Rattle.std.specs.Int.{w32, w64, from_be_bytes}
use Rattle.std.proofs.lemmas.Nat.{from_be_bytes-to_be_bytes_4, from_be_bytes-to_be_bytes_8}
use Rattle.mig_stream.specs.Text.{be32, be64}

pub split : (a b x y : List ℕ) → length a ≡ length b → a ++ x ≡ b ++ y → (a ≡ b) × (x ≡ y)
split [] [] x y len same = (refl, same)
split [] (q ∷ b) x y len same = absurd (omega (arith, len))
split (p ∷ a) [] x y len same = absurd (omega (arith, len))
split (p ∷ a) (q ∷ b) x y len same =
    let first : p ≡ q = cc in
    let rest : a ++ x ≡ b ++ y = cc in
    let parts = split a b x y (omega (arith, len)) rest in
    let whole : a ≡ b = parts.0 in
    (cc, parts.1)

-- the same where the lists are in parentheses to the left
pub split_first : (a b t u x y : List ℕ) → length a ≡ length b → (a ++ t) ++ x ≡ (b ++ u) ++ y → (a ≡ b) × (t ++ x ≡ u ++ y)
split_first a b t u x y len same = split a b (t ++ x) (u ++ y) len (sym (append_assoc a t x) ∙ same ∙ append_assoc b u y)

pub be32-same : (a b : ℕ) → a < 2 ^ 32 → b < 2 ^ 32 → be32 a ≡ be32 b → a ≡ b
be32-same a b fits other same = sym (from_be_bytes-to_be_bytes_4 a fits) ∙ ap (from_be_bytes w32) same ∙ from_be_bytes-to_be_bytes_4 b other

pub be64-same : (a b : ℕ) → a < 2 ^ 64 → b < 2 ^ 64 → be64 a ≡ be64 b → a ≡ b
be64-same a b fits other same = sym (from_be_bytes-to_be_bytes_8 a fits) ∙ ap (from_be_bytes w64) same ∙ from_be_bytes-to_be_bytes_8 b other

-- a number of four bytes, or of eight, that comes first
pub be32_first : (a b : ℕ) (t u x y : List ℕ) → a < 2 ^ 32 → b < 2 ^ 32 → (be32 a ++ t) ++ x ≡ (be32 b ++ u) ++ y → (a ≡ b) × (t ++ x ≡ u ++ y)
be32_first a b t u x y fits other same =
    let parts = split_first (be32 a) (be32 b) t u x y refl same in
    (be32-same a b fits other parts.0, parts.1)

pub be64_first : (a b : ℕ) (t u x y : List ℕ) → a < 2 ^ 64 → b < 2 ^ 64 → (be64 a ++ t) ++ x ≡ (be64 b ++ u) ++ y → (a ≡ b) × (t ++ x ≡ u ++ y)
be64_first a b t u x y fits other same =
    let parts = split_first (be64 a) (be64 b) t u x y refl same in
    (be64-same a b fits other parts.0, parts.1)
