-- The 28 bytes of a header as its four fields.
use Rattle.std.proofs.Common.{◌≡◌, ℕ, List, ◌++◌, length, take, drop, sym, ◌∙◌, ap, arith}
use Rattle.std.specs.Int.{w32, w64, to_be_bytes}
use Rattle.std.proofs.lemmas.List.{take-append-drop, take_all, drop-drop, length-drop}
use Rattle.ram_block.specs.declared.page_buf.TheConstants.{PAGE}
use Rattle.mapped_ram_header.specs.declared.header.TheConstants.{HEADER_VERSION}
use Rattle.mapped_ram_header.specs.declared.block.Places.{Places}
use Rattle.mapped_ram_header.specs.Header.{header_bytes, page_size_in}

-- the fields, one behind the other, are all of the bytes
pub joined : (bytes : List ℕ) → length bytes ≡ 28 → take 4 (drop 0 bytes) ++ (take 8 (drop 4 bytes) ++ (take 8 (drop 12 bytes) ++ take 8 (drop 20 bytes))) ≡ bytes
joined bytes len =
    let third : drop 12 bytes ≡ drop 8 (drop 4 bytes) = sym (drop-drop 8 4 bytes) in
    let fourth : drop 20 bytes ≡ drop 8 (drop 12 bytes) = sym (drop-drop 8 12 bytes) in
    ap (λ (xs : List ℕ). take 4 bytes ++ (take 8 (drop 4 bytes) ++ (take 8 (drop 12 bytes) ++ xs))) (take_all 8 (drop 20 bytes) (omega (arith, length-drop 20 bytes)) ∙ fourth)
    ∙ ap (λ (xs : List ℕ). take 4 bytes ++ (take 8 (drop 4 bytes) ++ xs)) (take-append-drop 8 (drop 12 bytes) ∙ third)
    ∙ ap (λ (xs : List ℕ). take 4 bytes ++ xs) (take-append-drop 8 (drop 4 bytes))
    ∙ take-append-drop 4 bytes

-- four right fields are the header
pub right_fields : (bytes : List ℕ) (p : Places) (version page bitmap pages : ℕ) → length bytes ≡ 28
    → to_be_bytes w32 version ≡ take 4 (drop 0 bytes) → to_be_bytes w64 page ≡ take 8 (drop 4 bytes)
    → to_be_bytes w64 bitmap ≡ take 8 (drop 12 bytes) → to_be_bytes w64 pages ≡ take 8 (drop 20 bytes)
    → version ≡ HEADER_VERSION → page ≡ PAGE → bitmap ≡ p.bitmap → pages ≡ p.pages → bytes ≡ header_bytes p
right_fields bytes p version page bitmap pages len a b c d version_is page_is bitmap_is pages_are =
    sym (joined bytes len)
    ∙ ap (λ (xs : List ℕ). xs ++ (take 8 (drop 4 bytes) ++ (take 8 (drop 12 bytes) ++ take 8 (drop 20 bytes)))) (sym a ∙ ap (to_be_bytes w32) version_is)
    ∙ ap (λ (xs : List ℕ). to_be_bytes w32 HEADER_VERSION ++ (xs ++ (take 8 (drop 12 bytes) ++ take 8 (drop 20 bytes)))) (sym b ∙ ap (to_be_bytes w64) page_is)
    ∙ ap (λ (xs : List ℕ). to_be_bytes w32 HEADER_VERSION ++ (to_be_bytes w64 PAGE ++ (xs ++ take 8 (drop 20 bytes)))) (sym c ∙ ap (to_be_bytes w64) bitmap_is)
    ∙ ap (λ (xs : List ℕ). to_be_bytes w32 HEADER_VERSION ++ (to_be_bytes w64 PAGE ++ (to_be_bytes w64 p.bitmap ++ xs))) (sym d ∙ ap (to_be_bytes w64) pages_are)

-- the page size in a header
pub page_of : (bytes : List ℕ) (p : Places) → bytes ≡ header_bytes p → page_size_in bytes ≡ PAGE
page_of bytes p same = ap page_size_in same
