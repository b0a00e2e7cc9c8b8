-- What holds where a call failed, and how the texts of pieces follow each other.
use Rattle.std.proofs.Common.{◌≡◌, ℕ, suc, ◌+◌, ◌<◌, List, [], ◌++◌, length, get_or, take, drop, Result, Ok, Err, OnErr, sym, ap, ◌∙◌}
use Rattle.std.specs.List.{flat_map}
use Rattle.std.proofs.lemmas.List.{take-append-drop, take_more, flat_map_more}
use Rattle.std.proofs.lemmas.List.Concat.{flat_map-append, flat_map-cons}
use Rattle.std.proofs.Math.Seq.{drop-cons}

-- what holds in any case holds where a call failed
pub if_failed : {T E P : Type 0} (result : Result T E) → P → OnErr result P
if_failed (Ok value) holds = tt
if_failed (Err fault) holds = holds

-- the pieces up to one and with it: those before it, and then its own
pub piece_more : {X : Type 0} (f : X → List ℕ) (xs : List X) (i : ℕ) (d : X) → i < length xs → flat_map f (take (i + 1) xs) ≡ flat_map f (take i xs) ++ f (get_or xs i d)
piece_more f xs i d inside = ap (flat_map f) (take_more xs i d inside) ∙ sym (flat_map_more f [] (take i xs) (get_or xs i d))

-- all the pieces: those before one, its own, and those behind it
pub piece_within : {X : Type 0} (f : X → List ℕ) (xs : List X) (i : ℕ) (d : X) → i < length xs
    → flat_map f xs ≡ flat_map f (take i xs) ++ (f (get_or xs i d) ++ flat_map f (drop (suc i) xs))
piece_within f xs i d inside =
    ap (flat_map f) (sym (take-append-drop i xs)) ∙ flat_map-append f (take i xs) (drop i xs)
    ∙ ap (λ (l : List ℕ). flat_map f (take i xs) ++ l) (ap (flat_map f) (drop-cons xs i d inside) ∙ flat_map-cons f (get_or xs i d) (drop (suc i) xs))
