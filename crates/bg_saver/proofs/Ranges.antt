-- The places of the pages whose bit is set.
use Rattle.std.proofs.Common.{◌≡◌, ℕ, zero, suc, ◌+◌, ◌<◌, ◌&&◌, ◌||◌, Bool, true, false, List, [], ◌∷◌, length, refl, sym, ap, ◌∙◌, subst, arith}
use Rattle.std.specs.Prelude.{nat_le, nat_lt, slice_get, slice_set, Some, get_or, if◌then◌else◌}
use Rattle.ram_block.specs.declared.page_buf.TheConstants.{PAGE}
use Rattle.medium.specs.Bytes.{written}
use Rattle.flat_machine.specs.Machine.{MachineData}
use Rattle.file_plan.specs.Layout.{StandsAt, file_of}
use Rattle.file_plan.specs.Plan.{page_place}
use Rattle.file_plan.specs.UnderWay.{Covers, IsLaidSoFar, is_covered}
use Rattle.file_plan.proofs.UnderWay.{covers_here, covers_still, piece_more}
use Rattle.bg_saver.specs.Save.{ranges_from}

or_same : (a c : Bool) → (a || (a || c)) ≡ (a || c)
or_same true c = refl
or_same false c = refl

or_swap : (a b c : Bool) → (a || (b || c)) ≡ (b || (a || c))
or_swap true true c = refl
or_swap true false c = refl
or_swap false true c = refl
or_swap false false c = refl

abbrev in_page : ℕ → ℕ → ℕ → Bool
in_page pages p k = nat_le (page_place pages p) k && nat_lt k (page_place pages p + PAGE)

-- a bit more covers its page
covered_set : (pages q p : ℕ) (bits : List Bool) (n k : ℕ) → n < length bits → p ≡ q + n
    → is_covered (ranges_from pages q (slice_set bits n true)) k ≡ (in_page pages p k || is_covered (ranges_from pages q bits) k)
covered_set pages q p [] n k within is = absurd (omega arith)
covered_set pages q p (true ∷ bits) zero k within is =
    let same : p ≡ q = omega arith in
    sym (or_same (in_page pages q k) (is_covered (ranges_from pages (q + 1) bits) k)) ∙ ap (λ x. in_page pages x k || (in_page pages q k || is_covered (ranges_from pages (q + 1) bits) k)) (sym same)
covered_set pages q p (false ∷ bits) zero k within is =
    let same : p ≡ q = omega arith in
    ap (λ x. in_page pages x k || is_covered (ranges_from pages (q + 1) bits) k) (sym same)
covered_set pages q p (true ∷ bits) (suc n) k within is =
    ap (λ b. in_page pages q k || b) (covered_set pages (q + 1) p bits n k (omega arith) (omega arith))
    ∙ or_swap (in_page pages q k) (in_page pages p k) (is_covered (ranges_from pages (q + 1) bits) k)
covered_set pages q p (false ∷ bits) (suc n) k within is = covered_set pages (q + 1) p bits n k (omega arith) (omega arith)

-- the same file, by ranges that cover the same places
laid_same : (file : List ℕ) (i : MachineData) (ranges others : List (ℕ × ℕ)) → ((k : ℕ) → is_covered others k ≡ is_covered ranges k) → IsLaidSoFar file i ranges → IsLaidSoFar file i others
laid_same file i ranges others same so_far = record {
  shut = so_far.shut;
  size = so_far.size;
  reaches = λ k covered. so_far.reaches k (sym (same k) ∙ covered);
  bytes = λ k low. so_far.bytes k low ∙ ap (λ (b : Bool). if b then get_or (file_of i) k 0 else 0) (sym (same k));
}

-- a page more is written
pub page_more : (i : MachineData) (pages p : ℕ) (bits : List Bool) (bytes file : List ℕ) → IsLaidSoFar file i (ranges_from pages 0 bits) → p < length bits → length bytes ≡ PAGE
    → 0 < page_place pages p → StandsAt (file_of i) (page_place pages p) bytes → IsLaidSoFar (written (page_place pages p) bytes file) i (ranges_from pages 0 (slice_set bits p true))
page_more i pages p bits bytes file so_far within whole behind stands =
    let more : IsLaidSoFar (written (page_place pages p) bytes file) i ((page_place pages p, length bytes) ∷ ranges_from pages 0 bits) =
    piece_more file bytes i (ranges_from pages 0 bits) (page_place pages p) so_far behind (omega (arith, whole)) stands in
    laid_same (written (page_place pages p) bytes file) i ((page_place pages p, length bytes) ∷ ranges_from pages 0 bits) (ranges_from pages 0 (slice_set bits p true))
    (λ k.
    covered_set pages 0 p bits p k within (omega arith)
    ∙ ap (λ n. (nat_le (page_place pages p) k && nat_lt k (page_place pages p + n)) || is_covered (ranges_from pages 0 bits) k) (sym whole))
    more

-- the page of a set bit is covered
pub bit_covers : (pages q p : ℕ) (bits : List Bool) (n : ℕ) → slice_get bits n ≡ Some true → p ≡ q + n → Covers (ranges_from pages q bits) (page_place pages p) PAGE
bit_covers pages q p [] n set is = absurd (cc set)
bit_covers pages q p (true ∷ bits) zero set is =
    let same : q ≡ p = omega arith in
    subst (λ x. Covers (ranges_from pages q (true ∷ bits)) (page_place pages x) PAGE) same (covers_here (ranges_from pages (q + 1) bits) (page_place pages q) PAGE)
bit_covers pages q p (false ∷ bits) zero set is = absurd (cc set)
bit_covers pages q p (true ∷ bits) (suc n) set is =
    covers_still (ranges_from pages (q + 1) bits) (page_place pages q, PAGE) (page_place pages p) PAGE (bit_covers pages (q + 1) p bits n set (omega arith))
bit_covers pages q p (false ∷ bits) (suc n) set is = bit_covers pages (q + 1) p bits n set (omega arith)
