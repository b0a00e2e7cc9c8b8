-- What a removal makes of the links of one direction.
use Rattle.std.proofs.Common.{◌≡◌, ℕ, ◌<◌, true, false, List, [], ◌∷◌, ◌++◌, length, reverse, Option, Some, None, eqb, get_or, set, slice_get, sym, ap, ◌∙◌, refl, eq-eqb, ne_eqb, inl, inr, subst}
use Rattle.std.specs.List.{IsDistinct}
use Rattle.std.proofs.lemmas.Bool.{cases_Bool, cases_eq, or_parts, eqb-false, eqb-true, true≢false}
use Rattle.page_sweep.specs.Links.{links_without, start_without, IsChain}
use Rattle.ram_block.specs.PageLinks.{is_listed, first_or, link_of}
use Rattle.page_sweep.specs.Sweep.{without}
use Rattle.std.proofs.Common.{if◌then◌else◌, ◌==◌, length-set}
use Rattle.std.proofs.lemmas.List.{get_or-set_same, get_or-set_other, reverse-reverse}
use Rattle.ram_block.proofs.LinkedPages.{head_absent, link_of-absent, link_of-present, link_of-at}
use Rattle.page_sweep.proofs.Mirror.{reverse-cons, is_listed-reverse, IsDistinct-reverse, link_of-mirror, not_last}
use Rattle.page_sweep.proofs.Removed.{without-absent, absent-without, link_of-without, link_of-mended}
use Rattle.page_sweep.proofs.Linked.{chain, distinct_without, left_without}

-- the links once the page before p has what p had
abbrev mended : List ℕ → ℕ → ℕ → ℕ → List ℕ
mended links before p after = if before == p then links else set links before (if after == p then before else after)

-- which are as many
length-mended : (links : List ℕ) (before p after : ℕ) → length (mended links before p after) ≡ length links
length-mended links before p after = elim (cases_Bool (eqb before p)) [
  | inl same ↦ rw same refl
  | inr other ↦ rw other (length-set links before _)
]

-- One direction: page p stands between \`before\` and \`after\` in the list q.
module _ (pages : ℕ) (links : List ℕ) (start : Option ℕ) (q : List ℕ) (before p after : ℕ) (k : IsChain pages links start q) (d : IsDistinct eqb q)
    (below : (x : ℕ) → is_listed q x ≡ true → x < pages) (here : is_listed q p ≡ true) (after_is : link_of pages q p ≡ after) (before_is : link_of pages (reverse q) p ≡ before) where
  -- the page before is a page
  before_page : before < pages
  before_page = subst (λ (x : ℕ). x < pages) before_is (link_of-present pages (reverse q) p (λ x e. below x (sym (is_listed-reverse q x) ∙ e)) (is_listed-reverse q p ∙ here))

  -- only the page before is linked to p
  only_before : (x : ℕ) → x < pages → (x ≡ p → ⊥) → link_of pages q x ≡ p → before ≡ x
  only_before x h other e = sym before_is ∙ link_of-mirror pages q x p d h (below p here) other e

  -- and it is
  before_linked : (before ≡ p → ⊥) → link_of pages q before ≡ p
  before_linked other = rw reverse-reverse at (link_of-mirror pages (reverse q) p before (IsDistinct-reverse q d) (below p here) before_page (λ e. other (sym e)) before_is)

  -- so each link but p's own is that of the list without p
  mended_links : (x : ℕ) → x < pages → (x ≡ p → ⊥) → get_or (mended links before p after) x 0 ≡ link_of pages (without q p) x
  mended_links x h other = elim (cases_Bool (eqb before p)) [
    | inl same ↦ rw same (k.same_links x h ∙ sym (link_of-without pages q p x other (λ e. other (sym (only_before x h other e) ∙ eqb-true before p same))))
    | inr differs ↦ elim (cases_eq x before) [
      | inl at ↦ rw (differs, at) (get_or-set_same links before (if after == p then before else after) 0 (rw k.same_length before_page)
          ∙ sym (link_of-mended pages q p before d (below p here) (eqb-false before p differs) (before_linked (eqb-false before p differs)) ∙ ap (λ (y : ℕ). if y == p then before else y) after_is))
      | inr past ↦ rw differs (get_or-set_other links before x (if after == p then before else after) 0 past ∙ k.same_links x h
          ∙ sym (link_of-without pages q p x other (λ e. past (sym (only_before x h other e)))))
    ]
  ]

  -- the start is that of the list without p
  begins_without : start_without start before p after ≡ slice_get (without q p) 0
  begins_without = first_of q d here after_is before_is k.begins
    where
      second_of : (a : ℕ) (r : List ℕ) → IsDistinct eqb (a ∷ r) → first_or p r ≡ after → p ≡ a → (if after == p then None else Some after) ≡ slice_get r 0
      second_of a [] e f same = rw (eq-eqb after p (sym f)) refl
      second_of a (b ∷ r) e f same =
          let apart : eqb a b ≡ false = (or_parts (eqb a b) (is_listed r a) (head_absent a (b ∷ r) e)).0 in
          rw (ne_eqb after p (λ h. eqb-false a b apart (sym same ∙ sym h ∙ sym f))) (ap (λ (x : ℕ). Some x) (sym f))

      first_of : (r : List ℕ) → IsDistinct eqb r → is_listed r p ≡ true → link_of pages r p ≡ after → link_of pages (reverse r) p ≡ before → start ≡ slice_get r 0
          → start_without start before p after ≡ slice_get (without r p) 0
      first_of [] e at f g b = absurd (true≢false (sym at))
      first_of (a ∷ r) e at f g b = elim (cases_Bool (eqb p a)) [
        | inl same ↦
            let absent : is_listed r p ≡ false = rw (eqb-true p a same) (head_absent a r e) in
            let last : link_of pages (reverse (a ∷ r)) p ≡ p = rw (eqb-true p a same, reverse-cons a r) (link_of-at pages (reverse r) a [] (is_listed-reverse r a ∙ head_absent a r e)) in
            rw (eq-eqb before p (sym g ∙ last), same, without-absent r p absent) (second_of a r e (rw same at f) (eqb-true p a same))
        | inr other ↦
            let within : is_listed (reverse r) p ≡ true = is_listed-reverse r p ∙ rw other at at in
            let backwards : IsDistinct eqb (reverse r ++ a ∷ []) = rw reverse-cons at (IsDistinct-reverse (a ∷ r) e) in
            let link : link_of pages (reverse r ++ a ∷ []) p ≡ before = rw reverse-cons at g in
            rw (ne_eqb before p (λ h. not_last pages (reverse r) a p within backwards (link ∙ h)), other) b
      ]

  -- page p is out of the links
  pub unlinked : IsChain pages (links_without links pages before p after) (start_without start before p after) (without q p)
  unlinked = chain pages _ _ (without q p)
      (length-set (mended links before p after) p pages ∙ length-mended links before p after ∙ k.same_length)
      (λ x h. elim (cases_eq x p) [
        | inl same ↦ rw same (get_or-set_same (mended links before p after) p pages 0 (rw (length-mended, k.same_length) (below p here)) ∙ sym (link_of-absent pages (without q p) p (absent-without q p)))
        | inr other ↦ get_or-set_other (mended links before p after) p x pages 0 other ∙ mended_links x h other
      ])
      begins_without (distinct_without q p d) (λ x e. below x (left_without q p x e))
