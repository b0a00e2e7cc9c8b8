-- What passed its checks stands in the file, where the file's numbers are bytes.
use Rattle.std.proofs.Common.{◌≡◌, ℕ, ◌+◌, ◌-◌, ◌%◌, ◌≤◌, true, List, Ok, Err, Result, length, take, drop, refl, sym, ◌∙◌, ap, subst, arith}
use Rattle.std.specs.Prelude.{◌==◌, ◌&&◌, nat_le}
use Rattle.std.proofs.lemmas.Bool.{and_parts, eqb-true, leb-true}
use Rattle.std.proofs.lemmas.List.{length-take, length-drop, take_all}
use Rattle.ram_block.specs.declared.limits.TheConstants.{MAX_RAM}
use Rattle.mig_stream.specs.Checks.{and_then, check, number32_in, number64_in, read_from}
use Rattle.mig_stream.specs.Pieces.{piece_in}
use Rattle.mig_stream.specs.Text.{be32, be64, be32_at, be64_at}
use Rattle.mig_stream.specs.declared.field_fault.FieldFault.{FieldFault}
use Rattle.device_state.proofs.Bodies.{Bytes, be32_of-at, be64_of-at, bytes-drop, bytes-front}
use Rattle.device_state.proofs.Found.{IsPiece, piece_of}
use Rattle.file_plan.specs.Layout.{StandsAt, configuration_text}
use Rattle.file_plan.specs.declared.format.TheConstants.{MAGIC, RAM_VERSION, STREAM_VERSION}
use Rattle.loader.specs.Frame.{ram_header, stream_in, total_in, total_of}
use Rattle.loader.specs.Piece.{expected}
use Rattle.loader.specs.Stands.{HasStream, HasTotal}
use Rattle.loader.specs.declared.piece.Text.TheVariants as texts
use Rattle.loader.specs.declared.refusal.Refusal.TheVariants.{Flags, Magic, RamVersion, StreamVersion, Total, Truncated}
use Rattle.loader.proofs.Texts.{stands}
use Rattle.loader.proofs.Whole.{both_ok, passes}

-- what was read is of a piece
pub of_piece : {A : Type 0} (read : List ℕ → A) (piece : Result (List ℕ) FieldFault) (a : A) → read_from Truncated read piece ≡ Ok a → (bytes : List ℕ) × (piece ≡ Ok bytes) × (read bytes ≡ a)
of_piece read (Ok bytes) a is =
    let same : read bytes ≡ a = cc in
    (bytes, refl, same)
of_piece read (Err fault) a is = absurd (cc)

-- the bytes of a piece
pub piece_bytes : (file : List ℕ) (at len : ℕ) (bytes : List ℕ) → Bytes file → IsPiece file at len bytes → Bytes bytes
piece_bytes file at len bytes each piece = subst Bytes piece.same (bytes-front len (drop at file) (bytes-drop at file each))

pub piece_long : (file : List ℕ) (at len : ℕ) (bytes : List ℕ) → IsPiece file at len bytes → length bytes ≡ len
piece_long file at len bytes piece =
    let count = ap length piece.same in
    omega (arith, count, piece.room, length-take len (drop at file), length-drop at file)

pub number32_of : (file : List ℕ) (at v : ℕ) → Bytes file → number32_in Truncated file at ≡ Ok v → StandsAt file at (be32 v)
number32_of file at v each is =
    let parts = of_piece (λ (bytes : List ℕ). be32_at bytes 0) (piece_in file at 4) v is in
    let piece = piece_of file at 4 parts.0 parts.1 in
    let long = piece_long file at 4 parts.0 piece in
    let text : be32 v ≡ take 4 parts.0 = ap be32 (sym parts.2) ∙ be32_of-at parts.0 0 (omega (arith, long)) (piece_bytes file at 4 parts.0 each piece) in
    let whole : take 4 parts.0 ≡ parts.0 = take_all 4 parts.0 (omega (arith, long)) in
    piece.same ∙ sym whole ∙ sym text

pub number64_of : (file : List ℕ) (at v : ℕ) → Bytes file → number64_in Truncated file at ≡ Ok v → StandsAt file at (be64 v)
number64_of file at v each is =
    let parts = of_piece (λ (bytes : List ℕ). be64_at bytes 0) (piece_in file at 8) v is in
    let piece = piece_of file at 8 parts.0 parts.1 in
    let long = piece_long file at 8 parts.0 piece in
    let text : be64 v ≡ take 8 parts.0 = ap be64 (sym parts.2) ∙ be64_of-at parts.0 0 (omega (arith, long)) (piece_bytes file at 8 parts.0 each piece) in
    let whole : take 8 parts.0 ≡ parts.0 = take_all 8 parts.0 (omega (arith, long)) in
    piece.same ∙ sym whole ∙ sym text

-- a number that passed its check
known32 : (file : List ℕ) (at v wanted : ℕ) → Bytes file → number32_in Truncated file at ≡ Ok v → (v == wanted) ≡ true → StandsAt file at (be32 wanted)
known32 file at v wanted each is right = subst (λ (k : ℕ). StandsAt file at (be32 k)) (eqb-true v wanted right) (number32_of file at v each is)

pub stream_of : (file : List ℕ) → Bytes file → stream_in file ≡ Ok tt → HasStream file
unfolding stream_in
stream_of file each is =
    let one = both_ok (number32_in Truncated file 0) _ tt is in
    let magic = passes (one.0 == MAGIC) (Magic one.0) (and_then (number32_in Truncated file 4) (λ (v : ℕ). and_then (check (v == STREAM_VERSION) (StreamVersion v)) (λ _. expected texts.Configuration file 8 configuration_text))) tt one.2 in
    let two = both_ok (number32_in Truncated file 4) (λ (v : ℕ). and_then (check (v == STREAM_VERSION) (StreamVersion v)) (λ _. expected texts.Configuration file 8 configuration_text)) tt magic.1 in
    let version = passes (two.0 == STREAM_VERSION) (StreamVersion two.0) (expected texts.Configuration file 8 configuration_text) tt two.2 in
    record {
      magic = known32 file 0 one.0 MAGIC each one.1 magic.0;
      version = known32 file 4 two.0 STREAM_VERSION each two.1 version.0;
      configuration = stands texts.Configuration file 8 configuration_text version.1;
    }

-- the total
pub record IsTotal (file : List ℕ) (total : ℕ) : Type 0 where
  pub has : HasTotal file total
  pub least : 4096 ≤ total
  pub most : total ≤ MAX_RAM

pub total_told_of : (file : List ℕ) (total : ℕ) → Bytes file → total_in file ≡ Ok total → IsTotal file total
unfolding total_in
total_told_of file total each is =
    let header = both_ok (expected texts.SectionHeader file 22 ram_header) _ total is in
    let one = both_ok (number32_in Truncated file 35) _ total header.2 in
    let version = passes (one.0 == RAM_VERSION) (RamVersion one.0) (and_then (number64_in Truncated file 39) (total_of 39)) total one.2 in
    let two = both_ok (number64_in Truncated file 39) (total_of 39) total version.1 in
    let v = two.0 in
    let flags = passes (v % 4096 == 4) (Flags 39 v) (and_then (check (nat_le 4096 (v - 4) && nat_le (v - 4) MAX_RAM) (Total v)) (λ _. Ok (v - 4))) total two.2 in
    let limits = passes (nat_le 4096 (v - 4) && nat_le (v - 4) MAX_RAM) (Total v) (Ok (v - 4)) total flags.1 in
    let both = and_parts _ _ limits.0 in
    let least : 4096 ≤ v - 4 = leb-true _ _ both.0 in
    let most : v - 4 ≤ MAX_RAM = leb-true _ _ both.1 in
    let same : v - 4 ≡ total = cc in
    let back : v ≡ total + 4 = omega (arith, least, same) in
    record {
      has = record {
        header = stands texts.SectionHeader file 22 ram_header (subst (λ (u : Unit {0}). expected texts.SectionHeader file 22 ram_header ≡ Ok u) refl header.1);
        version = known32 file 35 one.0 RAM_VERSION each one.1 version.0;
        total = subst (λ (k : ℕ). StandsAt file 39 (be64 k)) back (number64_of file 39 v each two.1);
      };
      least = omega (arith, least, same);
      most = omega (arith, most, same);
    }
