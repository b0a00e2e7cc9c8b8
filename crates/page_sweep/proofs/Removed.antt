-- The list without a page, and its links.
use Rattle.std.proofs.Common.{◌≡◌, ℕ, ◌+◌, ◌<◌, true, false, not, List, [], ◌∷◌, length, reverse, eqb, sym, ◌∙◌, refl, arith, eq-eqb, ne_eqb, inl, inr, append-nil, if◌then◌else◌, ◌==◌}
use Rattle.std.specs.List.{IsDistinct}
use Rattle.std.proofs.lemmas.Bool.{cases_Bool, or_left, or_parts, or_right, eqb-true, both_ways, true≢false}
use Rattle.ram_block.specs.PageLinks.{is_listed, first_or, link_of}
use Rattle.page_sweep.specs.Sweep.{without}
use Rattle.std.proofs.lemmas.List.Elements.{filter-append}
use Rattle.std.proofs.lemmas.Map.Keys.{IsDistinct-tail}
use Rattle.ram_block.proofs.LinkedPages.{apart, head_absent}
use Rattle.page_sweep.proofs.Mirror.{reverse-cons}

-- a page that isn't in the list can't be taken out
pub without-absent : (q : List ℕ) (p : ℕ) → is_listed q p ≡ false → without q p ≡ q
without-absent [] p h = refl
without-absent (a ∷ q) p h =
    let parts = or_parts (eqb p a) (is_listed q p) h in
    rw (parts.0, without-absent q p parts.1) refl

-- a page that was taken out isn't in the list
pub absent-without : (q : List ℕ) (p : ℕ) → is_listed (without q p) p ≡ false
absent-without [] p = refl
absent-without (a ∷ q) p = elim (cases_Bool (eqb p a)) [
  | inl same ↦ rw same (absent-without q p)
  | inr other ↦ rw (other, other) (absent-without q p)
]

-- a list without doubles has one page less then
pub length-without : (q : List ℕ) (p : ℕ) → IsDistinct eqb q → is_listed q p ≡ true → length q ≡ length (without q p) + 1
length-without [] p d here = absurd (true≢false (sym here))
length-without (a ∷ q) p d here = elim (cases_Bool (eqb p a)) [
  | inl same ↦
      let absent : is_listed q p ≡ false = rw (eqb-true p a same) (head_absent a q d) in
      rw (same, without-absent q p absent) (omega arith)
  | inr other ↦
      let rest = length-without q p (IsDistinct-tail eqb a q d) (rw other at here) in
      rw other (omega arith)
]

-- it makes no difference to the list backwards when the page is taken out
pub without-reverse : (q : List ℕ) (p : ℕ) → reverse (without q p) ≡ without (reverse q) p
without-reverse [] p = refl
without-reverse (a ∷ q) p =
    let apart = filter-append (λ b. not (eqb p b)) (reverse q) (a ∷ []) in
    elim (cases_Bool (eqb p a)) [
      | inl same ↦ rw (reverse-cons a q, apart, same, without-reverse q p) (sym (append-nil _))
      | inr other ↦ rw (reverse-cons a q, apart, other, reverse-cons a (without q p), without-reverse q p) refl
    ]

-- a page that another is linked to is in the list
pub link_in : (pages : ℕ) (q : List ℕ) (x p : ℕ) → p < pages → (x ≡ p → ⊥) → link_of pages q x ≡ p → is_listed q p ≡ true
link_in pages [] x p below other e = absurd (omega arith)
link_in pages (a ∷ q) x p below other e = elim (cases_Bool (eqb x a)) [
  | inl same ↦ or_right (eqb p a) (is_listed q p) (second q (rw same at e))
  | inr differs ↦ or_right (eqb p a) (is_listed q p) (link_in pages q x p below other (rw differs at e))
]
  where
    second : (r : List ℕ) → first_or x r ≡ p → is_listed r p ≡ true
    second [] h = absurd (other h)
    second (b ∷ r) h = or_left (eqb p b) (is_listed r p) (eq-eqb p b (sym h))

-- the link of a page to another page than p stays
pub link_of-without : (pages : ℕ) (q : List ℕ) (p x : ℕ) → (x ≡ p → ⊥) → (link_of pages q x ≡ p → ⊥) → link_of pages (without q p) x ≡ link_of pages q x
link_of-without pages [] p x other past = refl
link_of-without pages (a ∷ q) p x other past = elim (cases_Bool (eqb p a)) [
  | inl same ↦
      let differs : eqb x a ≡ false = ne_eqb x a (λ e. other (e ∙ sym (eqb-true p a same))) in
      rw (same, differs) (link_of-without pages q p x other (rw differs at past))
  | inr kept ↦ elim (cases_Bool (eqb x a)) [
    | inl same ↦ rw (kept, same) (second q (rw same at past))
    | inr differs ↦ rw (kept, differs) (link_of-without pages q p x other (rw differs at past))
  ]
]
  where
    second : (r : List ℕ) → (first_or x r ≡ p → ⊥) → first_or x (without r p) ≡ first_or x r
    second [] h = refl
    second (b ∷ r) h = rw (ne_eqb p b (λ e. h (sym e))) refl

-- a page that was linked to p is linked to what p was linked to, or to itself where p was last
pub link_of-mended : (pages : ℕ) (q : List ℕ) (p x : ℕ) → IsDistinct eqb q → p < pages → (x ≡ p → ⊥) → link_of pages q x ≡ p
    → link_of pages (without q p) x ≡ (if link_of pages q p == p then x else link_of pages q p)
link_of-mended pages [] p x d below other e = absurd (omega arith)
link_of-mended pages (a ∷ q) p x d below other e = elim (cases_Bool (eqb p a)) [
  | inl same ↦
      let differs : eqb x a ≡ false = ne_eqb x a (λ h. other (h ∙ sym (eqb-true p a same))) in
      let absent : is_listed q p ≡ false = rw (eqb-true p a same) (head_absent a q d) in
      absurd (both_ways _ absent (link_in pages q x p below other (rw differs at e)))
  | inr kept ↦ elim (cases_Bool (eqb x a)) [
    | inl same ↦ rw (kept, same) (second q (IsDistinct-tail eqb a q d) (rw same at e))
    | inr differs ↦ rw (kept, differs) (link_of-mended pages q p x (IsDistinct-tail eqb a q d) below other (rw differs at e))
  ]
]
  where
    third : (s : List ℕ) → IsDistinct eqb (p ∷ s) → first_or x s ≡ (if first_or p s == p then x else first_or p s)
    third [] f = rw (eq-eqb p p refl) refl
    third (c ∷ s) f = rw (apart p c (or_parts (eqb p c) (is_listed s p) (head_absent p (c ∷ s) f)).0) refl

    second : (r : List ℕ) → IsDistinct eqb r → first_or x r ≡ p → first_or x (without r p) ≡ (if link_of pages r p == p then x else link_of pages r p)
    second [] f h = absurd (other h)
    second (b ∷ s) f h =
        let same : p ≡ b = sym h in
        let g : IsDistinct eqb (p ∷ s) = rw same f in
        rw (eq-eqb p b same, without-absent s p (head_absent p s g)) (third s g)
