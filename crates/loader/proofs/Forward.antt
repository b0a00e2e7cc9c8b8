-- Pieces that stand in a file pass their checks.
use Rattle.std.proofs.Common.{◌≡◌, ℕ, ◌+◌, ◌-◌, ◌%◌, ◌^◌, ◌<◌, ◌≤◌, true, Bool, List, Ok, Result, refl, ◌∙◌, ap, arith}
use Rattle.std.specs.Prelude.{◌==◌, ◌&&◌, nat_le}
use Rattle.std.proofs.lemmas.Bool.{le-leb, and_from, eq-eqb}
use Rattle.std.proofs.lemmas.Nat.{from_be_bytes-to_be_bytes_4, from_be_bytes-to_be_bytes_8}
use Rattle.ram_block.specs.Shape.{ShapeData, ram_bytes_of}
use Rattle.mig_stream.specs.Checks.{and_then, check, number32_in, number64_in, read_from}
use Rattle.mig_stream.specs.Pieces.{piece_in}
use Rattle.mig_stream.specs.Text.{be32, be64, be32_at, be64_at, footer_text, part_text, start_text}
use Rattle.mig_stream.specs.declared.put.TheConstants.{START, END}
use Rattle.device_state.proofs.Found.{piece_has, piece_is, text_is}
use Rattle.device_state.proofs.Parts.{has_parts}
use Rattle.file_plan.specs.Layout.{StandsAt, configuration_text, front_text}
use Rattle.file_plan.specs.declared.format.TheConstants.{END_FLAG, MAGIC, RAM_SECTION, RAM_NAME, RAM_VERSION, STREAM_VERSION, TOTAL_FLAG}
use Rattle.loader.specs.Frame.{end_marker_in, ram_header, stream_in, tail_in, total_in, total_of}
use Rattle.loader.specs.Piece.{expected, refused_text}
use Rattle.loader.specs.Stands.{HasStream, HasTail, HasTotal}
use Rattle.loader.specs.declared.piece.Text.{Text}
use Rattle.loader.specs.declared.piece.Text.TheVariants as texts
use Rattle.loader.specs.declared.refusal.Refusal.{Refusal}
use Rattle.loader.specs.declared.refusal.Refusal.TheVariants.{Truncated}

-- goes on with what was found
pub then_ok : {A B : Type 0} (first : Result A Refusal) (rest : A → Result B Refusal) (a : A) (b : B) → first ≡ Ok a → rest a ≡ Ok b → and_then first rest ≡ Ok b
then_ok first rest a b is after = ap (λ (r : Result _ Refusal). and_then r rest) is ∙ after

-- a check that passes
pub check_ok : {B : Type 0} (right : Bool) (refusal : Refusal) (rest : Unit {0} → Result B Refusal) (b : B) → right ≡ true → rest tt ≡ Ok b → and_then (check right refusal) rest ≡ Ok b
check_ok right refusal rest b passes after = ap (λ (r : Bool). and_then (check r refusal) rest) passes ∙ after

pub number32_is : (file : List ℕ) (at v : ℕ) → v < 2 ^ 32 → StandsAt file at (be32 v) → number32_in Truncated file at ≡ Ok v
number32_is file at v fits stands =
    let piece : piece_in file at 4 ≡ Ok (be32 v) = piece_is file at 4 (be32 v) (piece_has file at (be32 v) stands) in
    ap (read_from Truncated (λ (bytes : List ℕ). be32_at bytes 0)) piece ∙ ap (λ (n : ℕ). Ok n) (from_be_bytes-to_be_bytes_4 v fits)

pub number64_is : (file : List ℕ) (at v : ℕ) → v < 2 ^ 64 → StandsAt file at (be64 v) → number64_in Truncated file at ≡ Ok v
number64_is file at v fits stands =
    let piece : piece_in file at 8 ≡ Ok (be64 v) = piece_is file at 8 (be64 v) (piece_has file at (be64 v) stands) in
    ap (read_from Truncated (λ (bytes : List ℕ). be64_at bytes 0)) piece ∙ ap (λ (n : ℕ). Ok n) (from_be_bytes-to_be_bytes_8 v fits)

pub expected_is : (kind : Text) (file : List ℕ) (at : ℕ) (text : List ℕ) → StandsAt file at text → expected kind file at text ≡ Ok tt
expected_is kind file at text stands = ap (refused_text kind) (text_is file at text stands)

-- the front
pub has_front : (file : List ℕ) (shape : ShapeData) → StandsAt file 0 (front_text shape) → HasStream file × HasTotal file (ram_bytes_of shape)
unfolding front_text
has_front file shape stands =
    let one = has_parts file 0 (be32 MAGIC) _ stands in
    let two = has_parts file 4 (be32 STREAM_VERSION) _ one.1 in
    let three = has_parts file 8 configuration_text _ two.1 in
    let four = has_parts file 22 (start_text START RAM_SECTION RAM_NAME 0 RAM_VERSION) (be64 (ram_bytes_of shape + TOTAL_FLAG)) three.1 in
    let five = has_parts file 22 ram_header (be32 RAM_VERSION) four.0 in
    (record { magic = one.0; version = two.0; configuration = three.0 }, record { header = five.0; version = five.1; total = four.1 })

pub stream_is : (file : List ℕ) → HasStream file → stream_in file ≡ Ok tt
unfolding stream_in
stream_is file has =
    then_ok (number32_in Truncated file 0) _ MAGIC tt (number32_is file 0 MAGIC (omega arith) has.magic)
    (then_ok (number32_in Truncated file 4) _ STREAM_VERSION tt (number32_is file 4 STREAM_VERSION (omega arith) has.version) (expected_is texts.Configuration file 8 configuration_text has.configuration))

-- a total with its flag
total_is : (total : ℕ) → 4096 ≤ total → total ≤ 67108864 → total % 4096 ≡ 0 → total_of 39 (total + 4) ≡ Ok total
total_is total least most whole =
    let flag : (total + 4) % 4096 ≡ 4 = omega (arith, whole) in
    let back : total + 4 - 4 ≡ total = omega arith in
    let low : 4096 ≤ total + 4 - 4 = omega (arith, least) in
    let high : total + 4 - 4 ≤ 67108864 = omega (arith, most) in
    check_ok ((total + 4) % 4096 == 4) _ _ total (eq-eqb _ _ flag)
    (check_ok (nat_le 4096 (total + 4 - 4) && nat_le (total + 4 - 4) 67108864) _ _ total (and_from _ _ (le-leb _ _ low) (le-leb _ _ high)) (ap (λ (n : ℕ). Ok n) back))

pub total_told : (file : List ℕ) (total : ℕ) → 4096 ≤ total → total ≤ 67108864 → total % 4096 ≡ 0 → HasTotal file total → total_in file ≡ Ok total
unfolding total_in
total_told file total least most whole has =
    then_ok (expected texts.SectionHeader file 22 ram_header) _ tt total (expected_is texts.SectionHeader file 22 ram_header has.header)
    (then_ok (number32_in Truncated file 35) _ RAM_VERSION total (number32_is file 35 RAM_VERSION (omega arith) has.version)
    (then_ok (number64_in Truncated file 39) (total_of 39) (total + 4) total (number64_is file 39 (total + 4) (omega (arith, most)) has.total) (total_is total least most whole)))

-- an end marker
marker_is : (file : List ℕ) (at : ℕ) → StandsAt file at (be64 END_FLAG) → end_marker_in file at ≡ Ok tt
marker_is file at stands = then_ok (number64_in Truncated file at) _ END_FLAG tt (number64_is file at END_FLAG (omega arith) stands) refl

pub tail_is : (file : List ℕ) (at : ℕ) → HasTail file at → tail_in file at ≡ Ok tt
unfolding tail_in
tail_is file at has =
    then_ok (end_marker_in file at) _ tt tt (marker_is file at has.first)
    (then_ok (expected texts.SectionFooter file (at + 8) (footer_text RAM_SECTION)) _ tt tt (expected_is texts.SectionFooter file (at + 8) (footer_text RAM_SECTION) has.first_footer)
    (then_ok (expected texts.SectionHeader file (at + 13) (part_text END RAM_SECTION)) _ tt tt (expected_is texts.SectionHeader file (at + 13) (part_text END RAM_SECTION) has.end)
    (then_ok (end_marker_in file (at + 18)) _ tt tt (marker_is file (at + 18) has.second) (expected_is texts.SectionFooter file (at + 26) (footer_text RAM_SECTION) has.second_footer))))
