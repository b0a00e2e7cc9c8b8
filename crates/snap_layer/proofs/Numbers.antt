-- A number that stands in a layer is read, and one that was read stands there.
use Rattle.std.proofs.Common.{◌≡◌, ℕ, ◌^◌, ◌<◌, true, false, Bool, List, Ok, Err, Result, take, drop, refl, sym, ◌∙◌, ap, subst, arith}
use Rattle.std.specs.Prelude.{◌==◌}
use Rattle.std.proofs.lemmas.Bool.{eqb-true}
use Rattle.std.proofs.lemmas.List.{take_all}
use Rattle.std.proofs.lemmas.Nat.{from_be_bytes-to_be_bytes_4, from_be_bytes-to_be_bytes_8}
use Rattle.mig_stream.specs.Pieces.{Has, piece_in}
use Rattle.mig_stream.specs.Text.{be32, be64, be32_at, be64_at}
use Rattle.mig_stream.specs.declared.field_fault.FieldFault.{FieldFault}
use Rattle.device_state.proofs.Bodies.{Bytes, be32_of-at, be64_of-at, bytes-drop, bytes-front}
use Rattle.device_state.proofs.Found.{IsPiece, piece_has, piece_is, piece_of}
use Rattle.device_state.proofs.Parts.{piece_count}
use Rattle.mig_stream.specs.Checks.{and_then, check, number32_in, number64_in, read_from}
use Rattle.snap_layer.specs.declared.refusal.LayerRefusal.{LayerRefusal}
use Rattle.snap_layer.specs.declared.refusal.LayerRefusal.TheVariants.{Truncated}

-- goes on with what was found
pub then_ok : {A B : Type 0} (first : Result A LayerRefusal) (rest : A → Result B LayerRefusal) (a : A) (b : B) → first ≡ Ok a → rest a ≡ Ok b → and_then first rest ≡ Ok b
then_ok first rest a b is after = ap (λ (r : Result _ LayerRefusal). and_then r rest) is ∙ after

-- what follows went well, so what it follows did
pub both_ok : {A B : Type 0} (first : Result A LayerRefusal) (rest : A → Result B LayerRefusal) (b : B) → and_then first rest ≡ Ok b → (a : A) × (first ≡ Ok a) × (rest a ≡ Ok b)
both_ok (Ok a) rest b found = (a, refl, found)
both_ok (Err refusal) rest b found = absurd (cc)

-- a check that passes, and one that was passed
pub check_ok : {B : Type 0} (right : Bool) (refusal : LayerRefusal) (rest : Unit {0} → Result B LayerRefusal) (b : B) → right ≡ true → rest tt ≡ Ok b → and_then (check right refusal) rest ≡ Ok b
check_ok right refusal rest b passes after = ap (λ (r : Bool). and_then (check r refusal) rest) passes ∙ after

pub passes : {B : Type 0} (right : Bool) (refusal : LayerRefusal) (rest : Unit {0} → Result B LayerRefusal) (b : B) → and_then (check right refusal) rest ≡ Ok b → (right ≡ true) × (rest tt ≡ Ok b)
passes true refusal rest b found = (refl, found)
passes false refusal rest b found = absurd (cc)

pub passed : (right : Bool) (refusal : LayerRefusal) → check right refusal ≡ Ok tt → right ≡ true
passed true refusal found = refl
passed false refusal found = absurd (cc)

pub number32_is : (layer : List ℕ) (at v : ℕ) → v < 2 ^ 32 → Has layer at (be32 v) → number32_in Truncated layer at ≡ Ok v
number32_is layer at v fits stands =
    let piece : piece_in layer at 4 ≡ Ok (be32 v) = piece_is layer at 4 (be32 v) (piece_has layer at (be32 v) stands) in
    ap (read_from Truncated (λ (bytes : List ℕ). be32_at bytes 0)) piece ∙ ap (λ (n : ℕ). Ok n) (from_be_bytes-to_be_bytes_4 v fits)

pub number64_is : (layer : List ℕ) (at v : ℕ) → v < 2 ^ 64 → Has layer at (be64 v) → number64_in Truncated layer at ≡ Ok v
number64_is layer at v fits stands =
    let piece : piece_in layer at 8 ≡ Ok (be64 v) = piece_is layer at 8 (be64 v) (piece_has layer at (be64 v) stands) in
    ap (read_from Truncated (λ (bytes : List ℕ). be64_at bytes 0)) piece ∙ ap (λ (n : ℕ). Ok n) (from_be_bytes-to_be_bytes_8 v fits)

-- what was read is of a piece
pub of_piece : {A : Type 0} (read : List ℕ → A) (piece : Result (List ℕ) FieldFault) (a : A) → read_from Truncated read piece ≡ Ok a → (bytes : List ℕ) × (piece ≡ Ok bytes) × (read bytes ≡ a)
of_piece read (Ok bytes) a is =
    let same : read bytes ≡ a = cc in
    (bytes, refl, same)
of_piece read (Err fault) a is = absurd (cc)

piece_bytes : (layer : List ℕ) (at len : ℕ) (bytes : List ℕ) → Bytes layer → IsPiece layer at len bytes → Bytes bytes
piece_bytes layer at len bytes each piece = subst Bytes piece.same (bytes-front len (drop at layer) (bytes-drop at layer each))

pub number32_of : (layer : List ℕ) (at v : ℕ) → Bytes layer → number32_in Truncated layer at ≡ Ok v → Has layer at (be32 v)
number32_of layer at v each is =
    let parts = of_piece (λ (bytes : List ℕ). be32_at bytes 0) (piece_in layer at 4) v is in
    let piece = piece_of layer at 4 parts.0 parts.1 in
    let long = piece_count layer at 4 parts.0 piece in
    let text : be32 v ≡ take 4 parts.0 = ap be32 (sym parts.2) ∙ be32_of-at parts.0 0 (omega (arith, long)) (piece_bytes layer at 4 parts.0 each piece) in
    let whole : take 4 parts.0 ≡ parts.0 = take_all 4 parts.0 (omega (arith, long)) in
    piece.same ∙ sym whole ∙ sym text

pub number64_of : (layer : List ℕ) (at v : ℕ) → Bytes layer → number64_in Truncated layer at ≡ Ok v → Has layer at (be64 v)
number64_of layer at v each is =
    let parts = of_piece (λ (bytes : List ℕ). be64_at bytes 0) (piece_in layer at 8) v is in
    let piece = piece_of layer at 8 parts.0 parts.1 in
    let long = piece_count layer at 8 parts.0 piece in
    let text : be64 v ≡ take 8 parts.0 = ap be64 (sym parts.2) ∙ be64_of-at parts.0 0 (omega (arith, long)) (piece_bytes layer at 8 parts.0 each piece) in
    let whole : take 8 parts.0 ≡ parts.0 = take_all 8 parts.0 (omega (arith, long)) in
    piece.same ∙ sym whole ∙ sym text

-- a number that passed its check
pub known32 : (layer : List ℕ) (at v wanted : ℕ) → Bytes layer → number32_in Truncated layer at ≡ Ok v → (v == wanted) ≡ true → Has layer at (be32 wanted)
known32 layer at v wanted each is right = subst (λ (k : ℕ). Has layer at (be32 k)) (eqb-true v wanted right) (number32_of layer at v each is)

pub known64 : (layer : List ℕ) (at v wanted : ℕ) → Bytes layer → number64_in Truncated layer at ≡ Ok v → (v == wanted) ≡ true → Has layer at (be64 wanted)
known64 layer at v wanted each is right = subst (λ (k : ℕ). Has layer at (be64 k)) (eqb-true v wanted right) (number64_of layer at v each is)
