-- The bits of all blocks, one bitmap after another.
use Rattle.std.proofs.Common.{◌≡◌, ℕ, zero, suc, ◌+◌, ◌-◌, ◌*◌, ◌<◌, Bool, true, false, List, [], ◌∷◌, ◌++◌, length, take, drop, get_or, replicate, All, sym, ap, ◌∙◌, arith, length-append}
use Rattle.std.specs.Prelude.{slice_set}
use Rattle.std.proofs.lemmas.List.{take_at, set-append_left, set-append_right, replicate-append-replicate}
use Rattle.std.proofs.Math.Seq.{drop-append-add}
use Rattle.page_bitmap.specs.Bitmap.{BitmapData}
use Rattle.bg_saver.specs.Inside.{IsOfBlock, joined_bits}

-- all but the first
rest_of : (pages : ℕ) (a : BitmapData) (bs : List BitmapData) → All (IsOfBlock pages) (a ∷ bs) → All (IsOfBlock pages) bs
rest_of pages a bs all = λ i d lt. all (suc i) d (omega arith)

first_of_all : (pages : ℕ) (a : BitmapData) (bs : List BitmapData) → All (IsOfBlock pages) (a ∷ bs) → IsOfBlock pages a
first_of_all pages a bs all = all zero a (omega arith)

pub length_joined : (pages : ℕ) (bs : List BitmapData) → All (IsOfBlock pages) bs → length (joined_bits bs) ≡ pages * length bs
length_joined pages [] all = omega arith
length_joined pages (a ∷ bs) all =
    omega (arith, length-append a.bits (joined_bits bs), (first_of_all pages a bs all).bits, length_joined pages bs (rest_of pages a bs all))

-- a bit that is set in one block
pub set_joined : (pages : ℕ) (bs : List BitmapData) (block q p : ℕ) (b d : BitmapData) → All (IsOfBlock pages) bs → block < length bs → q < pages → p ≡ pages * block + q
    → b.bits ≡ slice_set (get_or bs block d).bits q true → joined_bits (slice_set bs block b) ≡ slice_set (joined_bits bs) p true
set_joined pages [] block q p b d all within small at is = absurd (omega arith)
set_joined pages (a ∷ bs) zero q p b d all within small at is =
    let same : p ≡ q = omega arith in
    ap (λ (l : List Bool). l ++ joined_bits bs) is
    ∙ sym (set-append_left a.bits (joined_bits bs) q true (omega (arith, (first_of_all pages a bs all).bits)))
    ∙ ap (λ k. slice_set (a.bits ++ joined_bits bs) k true) (sym same)
set_joined pages (a ∷ bs) (suc block) q p b d all within small at is =
    let behind : p - pages ≡ pages * block + q = omega arith in
    ap (λ (l : List Bool). a.bits ++ l) (set_joined pages bs block q (p - pages) b d (rest_of pages a bs all) (omega arith) small behind is)
    ∙ sym (set-append_right a.bits (joined_bits bs) pages p true (first_of_all pages a bs all).bits (omega arith))

-- the bits of one block
pub block_joined : (pages : ℕ) (bs : List BitmapData) (block at : ℕ) (d : BitmapData) → All (IsOfBlock pages) bs → block < length bs → at ≡ pages * block
    → take pages (drop at (joined_bits bs)) ≡ (get_or bs block d).bits
block_joined pages [] block at d all within is = absurd (omega arith)
block_joined pages (a ∷ bs) zero at d all within is =
    let none : at ≡ 0 = omega arith in
    ap (λ k. take pages (drop k (a.bits ++ joined_bits bs))) none ∙ take_at a.bits (joined_bits bs) pages (first_of_all pages a bs all).bits
block_joined pages (a ∷ bs) (suc block) at d all within is =
    let count = (first_of_all pages a bs all).bits in
    let behind : at ≡ length a.bits + (at - pages) = omega (arith, count) in
    let next : at - pages ≡ pages * block = omega arith in
    ap (λ k. take pages (drop k (a.bits ++ joined_bits bs))) behind
    ∙ ap (take pages) (drop-append-add a.bits (joined_bits bs) (at - pages))
    ∙ block_joined pages bs block (at - pages) d (rest_of pages a bs all) (omega arith) next

-- blocks without a bit
pub clear_joined : (n total pages : ℕ) (b : BitmapData) → b.bits ≡ replicate pages false → total ≡ n * pages → joined_bits (replicate n b) ≡ replicate total false
clear_joined zero total pages b clear is = let none : total ≡ 0 = omega arith in ap (λ k. replicate {A = Bool} k false) (sym none)
clear_joined (suc n) total pages b clear is =
    let rest : total - pages ≡ n * pages = omega arith in
    let both : pages + (total - pages) ≡ total = omega arith in
    ap (λ (l : List Bool). l ++ joined_bits (replicate n b)) clear
    ∙ ap (λ (l : List Bool). replicate pages false ++ l) (clear_joined n (total - pages) pages b clear rest)
    ∙ replicate-append-replicate pages (total - pages) false
    ∙ ap (λ k. replicate {A = Bool} k false) both
