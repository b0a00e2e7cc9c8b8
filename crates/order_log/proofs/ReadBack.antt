-- The text of an order is read as the order, and a file in which its pieces stand is the text.
use Rattle.std.proofs.Common.{◌≡◌, ℕ, ◌+◌, ◌<◌, ◌≤◌, ◌^◌, List, ◌++◌, All, Ok, length, take, refl, sym, ◌∙◌, ap, arith, eq-eqb}
use Rattle.std.proofs.lemmas.Bool.{le-leb}
use Rattle.std.proofs.lemmas.List.{take_all}
use Rattle.mig_stream.specs.Pieces.{Has, piece_in}
use Rattle.mig_stream.specs.Text.{be32, be64}
use Rattle.mig_stream.specs.Checks.{number32_in, number64_in, read_from}
use Rattle.order_log.specs.Reading.{byte_len, bytes_in, count_in, format_in, halves, members_in, members_name, order_in}
use Rattle.order_log.specs.Text.{IsOrder, head_text, packed, text_of}
use Rattle.order_log.specs.declared.fault.OrderRefusal.TheVariants.{Truncated}
use Rattle.order_log.specs.declared.format.TheConstants.{HEAD_LEN, MAGIC, VERSION}
use Rattle.order_log.proofs.Named.{name_all}
use Rattle.order_log.proofs.Packed.{length-packed, halves_packed, pad_packed}
use Rattle.order_log.proofs.Pieces.{then_ok, check_ok, has_both, has_whole, number32_is, number64_is, piece_is}

-- the pieces of a text
has_magic : (o : List ℕ) (vcpus : ℕ) → Has (text_of o vcpus) 0 (be32 MAGIC)
unfolding text_of
has_magic o vcpus = refl

has_version : (o : List ℕ) (vcpus : ℕ) → Has (text_of o vcpus) 4 (be32 VERSION)
unfolding text_of
has_version o vcpus = refl

has_vcpus : (o : List ℕ) (vcpus : ℕ) → Has (text_of o vcpus) 8 (be32 vcpus)
unfolding text_of
has_vcpus o vcpus = refl

has_count : (o : List ℕ) (vcpus : ℕ) → Has (text_of o vcpus) 12 (be64 (length o))
unfolding text_of
has_count o vcpus = refl

has_members : (o : List ℕ) (vcpus : ℕ) → Has (text_of o vcpus) HEAD_LEN (packed o)
unfolding text_of
has_members o vcpus = take_all (length (packed o)) (packed o) (omega arith)

text_length : (o : List ℕ) (vcpus : ℕ) → length (text_of o vcpus) ≡ 20 + length (packed o)
unfolding text_of
text_length o vcpus = omega arith

-- are read one after another
format_is : (o : List ℕ) (vcpus : ℕ) → format_in (text_of o vcpus) ≡ Ok tt
unfolding format_in
format_is o vcpus =
    then_ok (number32_in Truncated (text_of o vcpus) 0) _ MAGIC tt (number32_is Truncated (text_of o vcpus) 0 MAGIC (omega arith) (has_magic o vcpus))
    (then_ok (number32_in Truncated (text_of o vcpus) 4) _ VERSION tt (number32_is Truncated (text_of o vcpus) 4 VERSION (omega arith) (has_version o vcpus)) refl)

count_is : (o : List ℕ) (vcpus : ℕ) → vcpus < 2 ^ 32 → length o ≤ 16000000 → count_in (text_of o vcpus) vcpus ≡ Ok (length o)
unfolding count_in
count_is o vcpus fits most =
    then_ok (number32_in Truncated (text_of o vcpus) 8) _ vcpus (length o) (number32_is Truncated (text_of o vcpus) 8 vcpus fits (has_vcpus o vcpus))
    (check_ok _ _ _ (length o) (eq-eqb vcpus vcpus refl)
    (then_ok (number64_in Truncated (text_of o vcpus) 12) _ (length o) (length o) (number64_is Truncated (text_of o vcpus) 12 (length o) (omega (arith, most)) (has_count o vcpus))
    (check_ok _ _ _ (length o) (le-leb _ _ most) refl)))

bytes_are : (o : List ℕ) (vcpus : ℕ) → bytes_in (text_of o vcpus) (length o) ≡ Ok (packed o)
bytes_are o vcpus =
    ap (λ (n : ℕ). read_from Truncated (λ (bytes : List ℕ). bytes) (piece_in (text_of o vcpus) HEAD_LEN n)) (sym (length-packed o))
    ∙ ap (read_from Truncated (λ (bytes : List ℕ). bytes)) (piece_is (text_of o vcpus) HEAD_LEN (packed o) (has_members o vcpus))

members_are : (o : List ℕ) (vcpus : ℕ) → vcpus ≤ 8 → All (λ k. k < vcpus) o → members_in vcpus (length o) (packed o) ≡ Ok o
unfolding members_in
members_are o vcpus few named =
    let small : All (λ k. k < 16) o = λ k d h. omega (arith, named k d h) in
    let same = halves_packed o small in
    then_ok (members_name vcpus 0 (take (length o) (halves (packed o)))) _ tt o (ap (members_name vcpus 0) same ∙ name_all vcpus 0 o named)
    (check_ok _ _ _ o (eq-eqb _ _ (pad_packed o small)) (ap (λ (l : List ℕ). Ok l) same))

-- and nothing stands behind them
pub text_read : (o : List ℕ) (vcpus : ℕ) → vcpus ≤ 8 → IsOrder vcpus o → order_in (text_of o vcpus) vcpus ≡ Ok o
unfolding order_in
text_read o vcpus few is =
    let file = text_of o vcpus in
    let ends : length file ≤ HEAD_LEN + byte_len (length o) = omega (arith, text_length o vcpus, length-packed o) in
    then_ok (format_in file) _ tt o (format_is o vcpus)
    (then_ok (count_in file vcpus) _ (length o) o (count_is o vcpus (omega (arith, few)) is.most)
    (then_ok (bytes_in file (length o)) _ (packed o) o (bytes_are o vcpus)
    (then_ok (members_in vcpus (length o) (packed o)) _ o o (members_are o vcpus few is.members)
    (check_ok _ _ _ o (le-leb _ _ ends) refl))))

-- a file in which the pieces of an order stand, and nothing behind them, is its text
pub text_stands : (file o : List ℕ) (vcpus : ℕ) → Has file 0 (be32 MAGIC ++ be32 VERSION) → Has file 8 (be32 vcpus ++ be64 (length o)) → Has file HEAD_LEN (packed o) → length file ≤ HEAD_LEN + byte_len (length o) → file ≡ text_of o vcpus
unfolding text_of
text_stands file o vcpus format count members ends =
    let head = has_both file 0 (be32 MAGIC ++ be32 VERSION) (be32 vcpus ++ be64 (length o)) format count in
    let whole = has_both file 0 (head_text vcpus (length o)) (packed o) head members in
    has_whole file (head_text vcpus (length o) ++ packed o) (omega (arith, ends, length-packed o)) whole
