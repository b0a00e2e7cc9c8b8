-- The byte at a place of pieces that stand at theirs.
use Rattle.std.proofs.Common.{◌≡◌, ℕ, zero, suc, ◌+◌, ◌-◌, ◌<◌, ◌≤◌, true, List, [], ◌∷◌, length, get_or, refl}
use Rattle.std.specs.Prelude.{◌==◌}
use Rattle.std.specs.List.{list_all}
use Rattle.std.proofs.lemmas.Bool.{le-leb, lt-leb, lt-ltb, le-ltb, eqb-true, and_from, and_parts, and_left, and_right, cond-true, cond-false}
use Rattle.file_plan.specs.Layout.{Piece, byte_in}

-- a place within the first piece
pub byte_here : (piece : Piece) (rest : List Piece) (k : ℕ) → piece.at ≤ k → k < piece.at + length piece.bytes → byte_in (piece ∷ rest) k ≡ get_or piece.bytes (k - piece.at) 0
byte_here piece rest k low high = cond-true _ _ _ (and_from _ _ (le-leb _ _ low) (lt-ltb _ _ high))

-- a place before the first piece
pub byte_before : (piece : Piece) (rest : List Piece) (k : ℕ) → k < piece.at → byte_in (piece ∷ rest) k ≡ byte_in rest k
byte_before piece rest k lt = cond-false _ _ _ (and_left _ _ (lt-leb _ _ lt))

-- a place behind the first piece
pub byte_behind : (piece : Piece) (rest : List Piece) (k : ℕ) → piece.at + length piece.bytes ≤ k → byte_in (piece ∷ rest) k ≡ byte_in rest k
byte_behind piece rest k le = cond-false _ _ _ (and_right _ _ (le-ltb _ _ le))

-- in a list of zeros each byte is 0, and past its end too
pub zero_at : (bytes : List ℕ) (i : ℕ) → list_all (λ b. b == 0) bytes ≡ true → get_or bytes i 0 ≡ 0
zero_at [] i all = refl
zero_at (b ∷ bytes) zero all = eqb-true b 0 (and_parts _ _ all).0
zero_at (b ∷ bytes) (suc i) all = zero_at bytes i (and_parts _ _ all).1
