-- The links of a list without doubles give it.
use Rattle.std.proofs.Common.{◌≡◌, ℕ, ◌<◌, true, not, List, [], ◌∷◌, length, Option, eqb, get_or, slice_get, arith, inl, inr}
use Rattle.std.specs.List.{IsDistinct}
use Rattle.std.proofs.lemmas.Bool.{cases_Bool, or_cases, or_left, or_right}
use Rattle.page_sweep.specs.Links.{IsChain}
use Rattle.ram_block.specs.PageLinks.{is_listed, link_of}
use Rattle.page_sweep.specs.Sweep.{without}
use Rattle.std.proofs.Common.{◌≢◌}
use Rattle.std.specs.List.Sorted.{IsStrictlyIncreasing}
use Rattle.std.proofs.lemmas.List.Kept.{AllPairs-filter, AllPairs-from_increasing}
use Rattle.std.proofs.lemmas.Map.Made.{AllPairs-from_IsDistinct, IsDistinct-from_AllPairs}
use Rattle.std.proofs.lemmas.Bool.Decides.{Decides-eqb}
use Rattle.ram_block.proofs.LinkedPages.{walked_is}

-- pages that ascend have no doubles
pub distinct_ascending : (q : List ℕ) → IsStrictlyIncreasing q → IsDistinct eqb q
distinct_ascending q k = IsDistinct-from_AllPairs Decides-eqb q (λ i j d near within.
    let rises : get_or q i d < get_or q j d = AllPairs-from_increasing q k i j d near within in
    λ same. omega arith)

-- a list without doubles has none once a page is taken out
pub distinct_without : (q : List ℕ) (p : ℕ) → IsDistinct eqb q → IsDistinct eqb (without q p)
distinct_without q p d = IsDistinct-from_AllPairs Decides-eqb (without q p) (AllPairs-filter (λ x y. x ≢ y) (λ a. not (eqb p a)) q (AllPairs-from_IsDistinct Decides-eqb q d))

-- what is in the list without a page is in the list
pub left_without : (q : List ℕ) (p x : ℕ) → is_listed (without q p) x ≡ true → is_listed q x ≡ true
left_without [] p x e = e
left_without (a ∷ q) p x e = elim (cases_Bool (eqb p a)) [
  | inl same ↦ or_right (eqb x a) (is_listed q x) (left_without q p x (rw same at e))
  | inr other ↦ elim (or_cases (eqb x a) (is_listed (without q p) x) (rw other at e)) [
    | inl first ↦ or_left (eqb x a) (is_listed q x) first
    | inr later ↦ or_right (eqb x a) (is_listed q x) (left_without q p x later)
  ]
]

-- the links of a list of pages give that list
pub chain : (pages : ℕ) (links : List ℕ) (start : Option ℕ) (q : List ℕ) → length links ≡ pages → ((x : ℕ) → x < pages → get_or links x 0 ≡ link_of pages q x) → start ≡ slice_get q 0
    → IsDistinct eqb q → ((x : ℕ) → is_listed q x ≡ true → x < pages) → IsChain pages links start q
chain pages links start q same_length same_links begins d below = record {
  same_length = same_length;
  same_links = same_links;
  begins = begins;
  walks = walked_is pages links start q same_length same_links begins d below;
}
