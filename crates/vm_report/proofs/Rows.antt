-- A row of bytes, cut out of them in two steps.
use Rattle.std.proofs.Common.{◌≡◌, ℕ, ◌-◌, min, List, length, take, drop, sym, ap, ◌∙◌, arith, length-drop}
use Rattle.std.proofs.lemmas.List.{take_min}
use Rattle.std.proofs.Math.Seq.{take-length}

pub row_cut : (bytes : List ℕ) (at n : ℕ) → n ≡ min (length (take (length bytes - at) (drop at bytes))) 32 →
    take n (take (length bytes - at) (drop at bytes)) ≡ take 32 (drop at bytes)
row_cut bytes at n is =
    let rest : List ℕ = drop at bytes in
    let all : take (length bytes - at) rest ≡ rest = ap (λ m. take m rest) (sym (length-drop at bytes)) ∙ take-length rest in
    let least : n ≡ min 32 (length rest) = omega (arith, ap length all) in
    ap (take n) all ∙ ap (λ m. take m rest) least ∙ take_min 32 rest
