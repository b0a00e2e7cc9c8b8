-- The links of all pages.
use Rattle.std.proofs.Common.{◌≡◌, ℕ, zero, suc, ◌+◌, ◌-◌, ◌<◌, ◌≤◌, min, true, List, [], length, reverse, map, Option, Some, None, eqb, get_or, slice_get, sym, ap, ◌∙◌, refl, arith, inl, inr, subst, pos_of_ne-zero}
use Rattle.std.specs.List.{IsDistinct, range_with_len}
use Rattle.std.proofs.lemmas.Bool.{cases_Bool, eqb-false, eqb-true}
use Rattle.std.specs.List.Sorted.{IsStrictlyIncreasing}
use Rattle.page_sweep.specs.Links.{IsLinked}
use Rattle.ram_block.specs.PageLinks.{is_listed, first_or, link_of, walked}
use Rattle.page_sweep.specs.Sweep.{IsSweep, SweepData}
use Rattle.std.proofs.lemmas.List.{get_or-reverse, length-reverse}
use Rattle.std.proofs.lemmas.List.Elements.{All-from_get_or}
use Rattle.std.proofs.lemmas.List.FromFn.{get_or-range_with_len, length-range_with_len, get_or-map-range_with_len, length-map-range_with_len}
use Rattle.std.proofs.lemmas.Option.{slice_get-get_or}
use Rattle.ram_block.proofs.LinkedPages.{head_absent, listed_below, link_of-at}
use Rattle.page_sweep.proofs.Mirror.{reverse-cons, is_listed-reverse, IsDistinct-reverse, link_of-mirror}
use Rattle.page_sweep.proofs.Linked.{chain, distinct_ascending}

-- the pages from a on ascend
ascending_range : (a n : ℕ) → IsStrictlyIncreasing (range_with_len a n)
ascending_range a n k h =
    let in_range : k + 1 < n = rw length-range_with_len at h in
    let low : get_or (range_with_len a n) k 0 ≡ a + k = get_or-range_with_len a n k 0 (omega arith) in
    let high : get_or (range_with_len a n) (k + 1) 0 ≡ a + (k + 1) = get_or-range_with_len a n (k + 1) 0 in_range in
    omega arith

-- all pages are those of a sweep
full_sweep : (pages : ℕ) → IsSweep (record { pages = pages; list = range_with_len 0 pages })
full_sweep pages = record {
  ascending = ascending_range 0 pages;
  below = All-from_get_or (λ p. p < pages) (range_with_len 0 pages) 0 (λ i h.
      let in_range : i < pages = rw length-range_with_len at h in
      let value : get_or (range_with_len 0 pages) i 0 ≡ 0 + i = get_or-range_with_len 0 pages i 0 in_range in
      omega arith);
}

-- each page but the last is linked to the next number
link_of-range : (pages a n p : ℕ) → a ≤ p → p < a + n → link_of pages (range_with_len a n) p ≡ min (p + 1) (a + n - 1)
link_of-range pages a zero p low high = absurd (omega arith)
link_of-range pages a (suc n) p low high = elim (cases_Bool (eqb p a)) [
  | inl same ↦ rw same (first n (eqb-true p a same))
  | inr other ↦
      let past : p ≡ a → ⊥ = eqb-false p a other in
      rw other (link_of-range pages (a + 1) n p (omega arith) (omega arith) ∙ ap (λ (x : ℕ). min (p + 1) (x - 1)) (omega arith))
]
  where
    first : (m : ℕ) → p ≡ a → first_or p (range_with_len (a + 1) m) ≡ min (p + 1) (a + suc m - 1)
    first zero e = omega arith
    first (suc m) e = omega arith

-- read backwards, each page but page 0 is linked to the number before
link_of-range_back : (pages p : ℕ) → p < pages → link_of pages (reverse (range_with_len 0 pages)) p ≡ p - 1
link_of-range_back pages zero h = first pages pages h (distinct_ascending (range_with_len 0 pages) (ascending_range 0 pages))
  where
    first : (n m : ℕ) → 0 < n → IsDistinct eqb (range_with_len 0 n) → link_of m (reverse (range_with_len 0 n)) 0 ≡ 0
    first zero m l d = absurd (omega arith)
    first (suc n) m l d = rw reverse-cons (link_of-at m (reverse (range_with_len 1 n)) 0 [] (is_listed-reverse (range_with_len 1 n) 0 ∙ head_absent 0 (range_with_len 1 n) d))
link_of-range_back pages (suc x) h =
    let up : link_of pages (range_with_len 0 pages) x ≡ suc x = link_of-range pages 0 pages x (omega arith) (omega arith) ∙ omega arith in
    link_of-mirror pages (range_with_len 0 pages) x (suc x) (distinct_ascending (range_with_len 0 pages) (ascending_range 0 pages)) (omega arith) h (λ same. omega arith) up ∙ omega arith

-- the links of all pages
full_linked : (pages : ℕ) (next prev : List ℕ) (first last : Option ℕ) → next ≡ map (λ p. min (p + 1) (pages - 1)) (range_with_len 0 pages) → prev ≡ map (λ p. p - 1) (range_with_len 0 pages)
    → first ≡ slice_get (range_with_len 0 pages) 0 → last ≡ slice_get (reverse (range_with_len 0 pages)) 0 → IsLinked pages next prev first last pages (range_with_len 0 pages)
full_linked pages next prev first last n b f l =
    let q = range_with_len 0 pages in
    let distinct : IsDistinct eqb q = distinct_ascending q (ascending_range 0 pages) in
    let below : (x : ℕ) → is_listed q x ≡ true → x < pages = listed_below pages q (full_sweep pages).below in
    record {
      forth = chain pages next first q (rw n (length-map-range_with_len _ 0 pages))
          (λ x h. rw n (get_or-map-range_with_len (λ p. min (p + 1) (pages - 1)) 0 pages x x 0 h (omega arith) ∙ sym (link_of-range pages 0 pages x (omega arith) (omega arith) ∙ ap (λ (n : ℕ). min (x + 1) (n - 1)) (omega arith)))) f distinct below;
      back = chain pages prev last (reverse q) (rw b (length-map-range_with_len _ 0 pages))
          (λ x h. rw b (get_or-map-range_with_len (λ p. p - 1) 0 pages x x 0 h (omega arith) ∙ sym (link_of-range_back pages x h))) l (IsDistinct-reverse q distinct) (λ x e. below x (sym (is_listed-reverse q x) ∙ e));
      count = sym (length-range_with_len 0 pages);
      sweep = full_sweep pages;
    }

-- the first of all pages
first_page : (pages : ℕ) → 0 < pages → slice_get (range_with_len 0 pages) 0 ≡ Some 0
first_page zero h = absurd (omega arith)
first_page (suc n) h = refl

-- the last of all pages
last_page : (pages : ℕ) → 0 < pages → slice_get (reverse (range_with_len 0 pages)) 0 ≡ Some (pages - 1)
last_page pages h =
    let q = range_with_len 0 pages in
    let many : length q ≡ pages = length-range_with_len 0 pages in
    let last : get_or (reverse q) 0 0 ≡ get_or q (length q - 1 - 0) 0 = get_or-reverse q 0 0 (omega arith) in
    let value : get_or q (pages - 1) 0 ≡ 0 + (pages - 1) = get_or-range_with_len 0 pages (pages - 1) 0 (omega arith) in
    slice_get-get_or (reverse q) 0 0 (rw length-reverse (omega arith)) ∙ ap (λ (x : ℕ). Some x) (last ∙ ap (λ (i : ℕ). get_or q i 0) (omega arith) ∙ value ∙ omega arith)

-- a sweep of all pages, as its fields and as contracts see it
pub record IsFull (pages : ℕ) (next prev : List ℕ) (first last : Option ℕ) : Type 0 where
  pub linked : IsLinked pages next prev first last pages (walked first next)
  pub view : ◌≡◌ {A = SweepData} (record { pages = pages; list = walked first next }) (record { pages = pages; list = range_with_len 0 pages })

-- whose ends are those of all pages
full : (pages : ℕ) (next prev : List ℕ) (first last : Option ℕ) → next ≡ map (λ p. min (p + 1) (pages - 1)) (range_with_len 0 pages) → prev ≡ map (λ p. p - 1) (range_with_len 0 pages)
    → first ≡ slice_get (range_with_len 0 pages) 0 → last ≡ slice_get (reverse (range_with_len 0 pages)) 0 → IsFull pages next prev first last
full pages next prev first last n b f l =
    let made = full_linked pages next prev first last n b f l in
    record {
      linked = subst (IsLinked pages next prev first last pages) (sym made.forth.walks) made;
      view = ap (λ (q : List ℕ). record { pages = pages; list = q }) made.forth.walks;
    }

-- no pages
pub full_empty : (pages : ℕ) (next prev : List ℕ) → next ≡ map (λ p. min (p + 1) (pages - 1)) (range_with_len 0 pages) → prev ≡ map (λ p. p - 1) (range_with_len 0 pages) → pages ≡ 0 → IsFull pages next prev None None
full_empty zero next prev n b e = full zero next prev None None n b refl refl
full_empty (suc m) next prev n b e = absurd (omega arith)

-- some pages
pub full_some : (pages : ℕ) (next prev : List ℕ) → next ≡ map (λ p. min (p + 1) (pages - 1)) (range_with_len 0 pages) → prev ≡ map (λ p. p - 1) (range_with_len 0 pages) → (pages ≡ 0 → ⊥) → IsFull pages next prev (Some 0) (Some (pages - 1))
full_some pages next prev n b e = full pages next prev (Some 0) (Some (pages - 1)) n b (sym (first_page pages (pos_of_ne-zero e))) (sym (last_page pages (pos_of_ne-zero e)))
