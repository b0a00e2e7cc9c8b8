-- A list in chunks of the same length, told by the places of the chunks, and so the listing of bytes.
use Rattle.std.proofs.Common.{◌≡◌, ℕ, zero, suc, ◌+◌, ◌*◌, ◌/◌, ◌≤◌, ◌++◌, List, length, take, drop, refl, sym, ap, ◌∙◌, append_assoc, arith}
use Rattle.std.specs.Int.{from_le_bytes, w32}
use Rattle.std.specs.List.{flat_map, range_with_len}
use Rattle.std.specs.Simd.{first_chunks}
use Rattle.std.proofs.lemmas.List.{drop-drop, take-append-drop}
use Rattle.guest_asm.specs.Listing.{byte_line, list_of, word_line}

-- the chunks from chunk a on
chunks_from : {X Y : Type 0} (f : List X → List Y) (n k a : ℕ) (xs : List X) →
    flat_map f (first_chunks n k (drop (n * a) xs)) ≡ flat_map (λ i. f (take n (drop (n * i) xs))) (range_with_len a k)
chunks_from f n zero a xs = refl
chunks_from f n (suc k) a xs =
    let next : n * a + n ≡ n * (a + 1) = omega arith in
    ap (λ ys. f (take n (drop (n * a) xs)) ++ flat_map f (first_chunks n k ys)) (drop-drop n (n * a) xs ∙ ap (λ m. drop m xs) next)
    ∙ ap (λ ys. f (take n (drop (n * a) xs)) ++ ys) (chunks_from f n k (a + 1) xs)

-- all chunks
pub flat_map_chunks : {X Y : Type 0} (f : List X → List Y) (n k : ℕ) (xs : List X) →
    flat_map f (first_chunks n k xs) ≡ flat_map (λ i. f (take n (drop (n * i) xs))) (range_with_len 0 k)
flat_map_chunks f n k xs =
    let none : n * 0 ≡ 0 = omega arith in
    ap (λ m. flat_map f (first_chunks n k (drop m xs))) (sym none) ∙ chunks_from f n k 0 xs

-- parts that are the chunks of four from chunk i up to chunk n, with what stands behind them
pub chunks_joined : {X : Type 0} (part : ℕ → List X) (xs : List X) (i k n : ℕ) → n ≡ i + k →
    ((j : ℕ) → 4 * j + 4 ≤ length xs → part j ≡ take 4 (drop (4 * j) xs)) → 4 * n ≤ length xs →
    flat_map part (range_with_len i k) ++ drop (4 * n) xs ≡ drop (4 * i) xs
chunks_joined part xs i zero n end is whole = ap (λ j. drop (4 * j) xs) {x = n} {y = i} (omega arith)
chunks_joined part xs i (suc k) n end is whole =
    let behind : 4 * (i + 1) ≡ 4 * i + 4 = omega arith in
    let rest = chunks_joined part xs (i + 1) k n (omega arith) is whole in
    let first = is i (omega arith) in
    let last : drop (4 * (i + 1)) xs ≡ drop 4 (drop (4 * i) xs) = ap (λ m. drop m xs) behind ∙ sym (drop-drop 4 (4 * i) xs) in
    rw (append_assoc, rest, first, last) (take-append-drop 4 (drop (4 * i) xs))

-- a listing by its chunks of four bytes
pub list_by_chunks : (bytes : List ℕ) →
    flat_map (λ word. word_line (from_le_bytes w32 word)) (first_chunks 4 (length bytes / 4) bytes)
    ++ flat_map byte_line (drop (length bytes / 4 * 4) bytes) ≡ list_of bytes
unfolding list_of
list_by_chunks bytes =
    let turned : length bytes / 4 * 4 ≡ 4 * (length bytes / 4) = omega arith in
    rw (flat_map_chunks (λ word. word_line (from_le_bytes w32 word)) 4 (length bytes / 4) bytes, turned) refl
