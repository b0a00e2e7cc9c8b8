-- Pieces that stand in a file: they are found, and stand one behind another.
use Rattle.std.proofs.Common.{◌≡◌, ℕ, ◌+◌, ◌-◌, ◌^◌, ◌<◌, ◌≤◌, List, ◌++◌, true, Bool, Option, Some, None, IfSome, Ok, Result, length, take, drop, refl, sym, ◌∙◌, ap, arith, length-append}
use Rattle.std.proofs.Math.Seq.{take-add}
use Rattle.std.proofs.lemmas.Bool.{le-ltb, cond-false}
use Rattle.std.proofs.lemmas.List.{drop-drop, length-take, length-drop, take_all}
use Rattle.std.proofs.lemmas.Nat.{from_be_bytes-to_be_bytes_4, from_be_bytes-to_be_bytes_8}
use Rattle.mig_stream.specs.Pieces.{Has, piece_in}
use Rattle.mig_stream.specs.Text.{be32, be64, be32_at, be64_at}
use Rattle.mig_stream.specs.Checks.{and_then, check, number32_in, number64_in, read_from}

-- what holds of each file that is told
pub if_told : (P : List ℕ → Type 0) (told : Option (List ℕ)) → ((file : List ℕ) → told ≡ Some file → P file) → IfSome told P
if_told P None each = tt
if_told P (Some file) each = each file refl

-- goes on with what was found
pub then_ok : {A B F : Type 0} (first : Result A F) (rest : A → Result B F) (a : A) (b : B) → first ≡ Ok a → rest a ≡ Ok b → and_then first rest ≡ Ok b
then_ok first rest a b is after = ap (λ (r : Result _ _). and_then r rest) is ∙ after

-- a check that passes
pub check_ok : {B F : Type 0} (right : Bool) (refusal : F) (rest : Unit {0} → Result B F) (b : B) → right ≡ true → rest tt ≡ Ok b → and_then (check right refusal) rest ≡ Ok b
check_ok right refusal rest b passes after = ap (λ (r : Bool). and_then (check r refusal) rest) passes ∙ after

-- a piece is found where it stands
pub piece_is : (file : List ℕ) (at : ℕ) (piece : List ℕ) → Has file at piece → piece_in file at (length piece) ≡ Ok piece
piece_is file at piece has =
    let room : length piece ≤ length file - at = omega (arith, ap length has, length-take (length piece) (drop at file), length-drop at file) in
    cond-false _ _ _ (le-ltb _ _ room) ∙ ap (λ (b : List ℕ). Ok b) has

pub number32_is : {F : Type 0} (cut : ℕ → F) (file : List ℕ) (at v : ℕ) → v < 2 ^ 32 → Has file at (be32 v) → number32_in cut file at ≡ Ok v
number32_is cut file at v fits stands =
    ap (read_from cut (λ (bytes : List ℕ). be32_at bytes 0)) (piece_is file at (be32 v) stands) ∙ ap (λ (n : ℕ). Ok n) (from_be_bytes-to_be_bytes_4 v fits)

pub number64_is : {F : Type 0} (cut : ℕ → F) (file : List ℕ) (at v : ℕ) → v < 2 ^ 64 → Has file at (be64 v) → number64_in cut file at ≡ Ok v
number64_is cut file at v fits stands =
    ap (read_from cut (λ (bytes : List ℕ). be64_at bytes 0)) (piece_is file at (be64 v) stands) ∙ ap (λ (n : ℕ). Ok n) (from_be_bytes-to_be_bytes_8 v fits)

-- a piece and another behind it
pub has_both : (file : List ℕ) (at : ℕ) (one two : List ℕ) → Has file at one → Has file (at + length one) two → Has file at (one ++ two)
has_both file at one two first second =
    ap (λ (n : ℕ). take n (drop at file)) (length-append one two)
    ∙ take-add (length one) (length two) (drop at file)
    ∙ ap (λ (l : List ℕ). l ++ take (length two) (drop (length one) (drop at file))) first
    ∙ ap (λ (l : List ℕ). one ++ take (length two) l) (drop-drop (length one) at file)
    ∙ ap (λ (l : List ℕ). one ++ l) second

-- a piece from the start that the file doesn't go on behind is the file
pub has_whole : (file piece : List ℕ) → length file ≤ length piece → Has file 0 piece → file ≡ piece
has_whole file piece ends has = sym (take_all (length piece) file ends) ∙ has
