-- The sum of words over lists that are joined.
use Rattle.std.proofs.Common.{◌≡◌, ℕ, zero, suc, ◌+◌, ◌*◌, ◌/◌, ◌%◌, ◌^◌, ◌<◌, ◌≤◌, List, [], ◌∷◌, ◌++◌, length, take, drop, get_or, refl, sym, ap, ◌∙◌, arith, length-append, length-drop}
use Rattle.std.specs.Int.{from_le_bytes, w64}
use Rattle.std.specs.List.{sum_by}
use Rattle.std.specs.Simd.{first_chunks}
use Rattle.std.proofs.lemmas.List.{take-append-le, drop-append-le, take_more}
use Rattle.std.proofs.Math.Nat.{add-mod}
use Rattle.std.proofs.lemmas.List.Sums.{sum_by-append}
use Rattle.ram_block.specs.declared.page_buf.TheConstants.{PAGE}
use Rattle.flat_machine.specs.Page.{joined}
use Rattle.flat_machine.proofs.Padded.{joined_push}
use Rattle.flat_machine.specs.Sum.{sum_of_words}

-- the chunks of a list that has whole ones, and then those of what stands behind it
chunks_append : (n j k : ℕ) (xs ys : List ℕ) → length xs ≡ n * j → first_chunks n (j + k) (xs ++ ys) ≡ first_chunks n j xs ++ first_chunks n k ys
chunks_append n zero k [] ys whole = ap (λ i. first_chunks n i ys) {x = zero + k} {y = k} (omega arith)
chunks_append n zero k (x ∷ xs) ys whole = absurd (omega arith)
chunks_append n (suc j) k xs ys whole =
    let more : suc j + k ≡ suc (j + k) = omega arith in
    let enough : n ≤ length xs = omega arith in
    let rest : length (drop n xs) ≡ n * j = omega (arith, length-drop n xs) in
    ap (λ i. first_chunks n i (xs ++ ys)) more
    ∙ ap (λ (c : List ℕ). c ∷ first_chunks n (j + k) (drop n (xs ++ ys))) (take-append-le n xs ys enough)
    ∙ ap (λ (r : List ℕ). take n xs ∷ first_chunks n (j + k) r) (drop-append-le n xs ys enough)
    ∙ ap (λ (cs : List (List ℕ)). take n xs ∷ cs) (chunks_append n j k (drop n xs) ys rest)

-- the words of whole ones, and then those of what stands behind them
pub sum-append : (j : ℕ) (xs ys : List ℕ) → length xs ≡ 8 * j → sum_of_words (xs ++ ys) ≡ sum_of_words xs + sum_of_words ys
unfolding sum_of_words
sum-append j xs ys whole =
    let first : length xs / 8 ≡ j = omega arith in
    let all : length (xs ++ ys) / 8 ≡ j + length ys / 8 = omega (arith, length-append xs ys) in
    ap (λ i. sum_by (from_le_bytes w64) (first_chunks 8 i (xs ++ ys))) all
    ∙ ap (sum_by (from_le_bytes w64)) (chunks_append 8 j (length ys / 8) xs ys whole)
    ∙ sum_by-append (from_le_bytes w64) (first_chunks 8 j xs) (first_chunks 8 (length ys / 8) ys)
    ∙ ap (λ i. sum_by (from_le_bytes w64) (first_chunks 8 i xs) + sum_by (from_le_bytes w64) (first_chunks 8 (length ys / 8) ys)) (sym first)

page_more : (pages : List (List ℕ)) (i : ℕ) (page : List ℕ) → i < length pages → page ≡ get_or pages i page →
    joined (take (i + 1) pages) ≡ joined (take i pages) ++ page
page_more pages i page inside is =
    ap joined (take_more pages i page inside) ∙ joined_push (take i pages) (get_or pages i page) ∙ ap (λ (p : List ℕ). joined (take i pages) ++ p) (sym is)

-- one page more
pub sum_more : (pages : List (List ℕ)) (i : ℕ) (page : List ℕ) (sum added : ℕ) → i < length pages → page ≡ get_or pages i page →
    length (joined (take i pages)) ≡ PAGE * i → sum ≡ sum_of_words (joined (take i pages)) % 2 ^ 64 → added ≡ sum_of_words page % 2 ^ 64 →
    (sum + added) % 2 ^ 64 ≡ sum_of_words (joined (take (i + 1) pages)) % 2 ^ 64
sum_more pages i page sum added inside is whole before now =
    let words : length (joined (take i pages)) ≡ 8 * (512 * i) = omega arith in
    ap (λ s. (s + added) % 2 ^ 64) before
    ∙ ap (λ a. (sum_of_words (joined (take i pages)) % 2 ^ 64 + a) % 2 ^ 64) now
    ∙ sym (add-mod (sum_of_words (joined (take i pages))) (sum_of_words page) (2 ^ 64))
    ∙ ap (λ s. s % 2 ^ 64) (sym (sum-append (512 * i) (joined (take i pages)) page words))
    ∙ ap (λ (ram : List ℕ). sum_of_words ram % 2 ^ 64) (sym (page_more pages i page inside is))

pub length_more : (pages : List (List ℕ)) (i : ℕ) (page : List ℕ) → i < length pages → page ≡ get_or pages i page →
    length (joined (take i pages)) ≡ PAGE * i → length page ≡ PAGE → length (joined (take (i + 1) pages)) ≡ PAGE * (i + 1)
length_more pages i page inside is whole long =
    omega (arith, ap length (page_more pages i page inside is), length-append (joined (take i pages)) page)

pub sum_none : 0 ≡ sum_of_words (joined []) % 2 ^ 64
unfolding sum_of_words joined
sum_none = refl

pub length_none : length (joined []) ≡ 0
unfolding joined
length_none = refl
