-- The links of a list read backwards.
use Rattle.std.proofs.Common.{◌≡◌, ℕ, ◌<◌, true, false, List, [], ◌∷◌, ◌++◌, reverse, eqb, sym, ◌∙◌, arith, eq-eqb, inl, inr, append_assoc}
use Rattle.std.specs.List.{IsDistinct}
use Rattle.std.proofs.lemmas.Bool.{cases_Bool, or_parts, eqb-false, eqb-true, true≢false}
use Rattle.ram_block.specs.PageLinks.{is_listed, first_or, link_of}
use Rattle.std.proofs.lemmas.Grind.{reverse_onto}
use Rattle.std.proofs.lemmas.List.Sorted.{IsPermutation-reverse, list_any-IsPermutation}
use Rattle.std.proofs.lemmas.Map.Keys.{IsDistinct-tail, IsDistinct-IsPermutation}
use Rattle.ram_block.proofs.LinkedPages.{apart, head_absent, link_of-at}

-- the first of a list is the last of it backwards
pub reverse-cons : (a : ℕ) (q : List ℕ) → reverse (a ∷ q) ≡ reverse q ++ a ∷ []
reverse-cons a q = reverse_onto q a []

-- the same pages are in the list backwards
pub is_listed-reverse : (q : List ℕ) (p : ℕ) → is_listed (reverse q) p ≡ is_listed q p
is_listed-reverse q p = sym (list_any-IsPermutation (eqb p) q (reverse q) (IsPermutation-reverse q))

-- a test of two numbers gives the same answer either way round
eqb-comm : (a b : ℕ) → eqb a b ≡ eqb b a
eqb-comm a b = elim (cases_Bool (eqb a b)) [
  | inl same ↦ same ∙ sym (eq-eqb b a (sym (eqb-true a b same)))
  | inr other ↦ other ∙ sym (apart a b other)
]

-- a list without doubles has none backwards
pub IsDistinct-reverse : (q : List ℕ) → IsDistinct eqb q → IsDistinct eqb (reverse q)
IsDistinct-reverse q d = IsDistinct-IsPermutation eqb eqb-comm q (reverse q) (IsPermutation-reverse q) d

-- a page behind the list changes no link but the last
link_of-kept : (pages : ℕ) (q : List ℕ) (p x a : ℕ) → link_of pages q p ≡ x → (x ≡ p → ⊥) → x < pages → link_of pages (q ++ a ∷ []) p ≡ x
link_of-kept pages [] p x a e other below = absurd (omega arith)
link_of-kept pages (b ∷ q) p x a e other below = elim (cases_Bool (eqb p b)) [
  | inl same ↦ rw same (first_or-kept q (rw same at e))
  | inr differs ↦ rw differs (link_of-kept pages q p x a (rw differs at e) other below)
]
  where
    first_or-kept : (r : List ℕ) → first_or p r ≡ x → first_or p (r ++ a ∷ []) ≡ x
    first_or-kept [] h = absurd (other (sym h))
    first_or-kept (c ∷ r) h = h

-- where page p comes after x, x comes after p backwards
pub link_of-mirror : (pages : ℕ) (q : List ℕ) (x p : ℕ) → IsDistinct eqb q → x < pages → p < pages → (x ≡ p → ⊥) → link_of pages q x ≡ p → link_of pages (reverse q) p ≡ x
link_of-mirror pages [] x p d x_below p_below other e = absurd (omega arith)
link_of-mirror pages (a ∷ r) x p d x_below p_below other e = elim (cases_Bool (eqb x a)) [
  | inl same ↦ at_first r d (rw same at e) (eqb-true x a same)
  | inr differs ↦ rw reverse-cons (link_of-kept pages (reverse r) p x a (link_of-mirror pages r x p (IsDistinct-tail eqb a r d) x_below p_below other (rw differs at e)) other x_below)
]
  where
    at_first : (s : List ℕ) → IsDistinct eqb (a ∷ s) → first_or x s ≡ p → x ≡ a → link_of pages (reverse (a ∷ s)) p ≡ x
    at_first [] f h same = absurd (other h)
    at_first (b ∷ s) f h same =
        let absent : is_listed (reverse s) b ≡ false = is_listed-reverse s b ∙ head_absent b s (IsDistinct-tail eqb a (b ∷ s) f) in
        rw (← h, reverse-cons a (b ∷ s), reverse-cons b s, append_assoc) (link_of-at pages (reverse s) b (a ∷ []) absent ∙ sym same)

-- a page that stands before the last isn't last
pub not_last : (pages : ℕ) (q : List ℕ) (a p : ℕ) → is_listed q p ≡ true → IsDistinct eqb (q ++ a ∷ []) → link_of pages (q ++ a ∷ []) p ≡ p → ⊥
not_last pages [] a p here d e = true≢false (sym here)
not_last pages (b ∷ q) a p here d e = elim (cases_Bool (eqb p b)) [
  | inl same ↦ not_first q d (rw same at e) (eqb-true p b same)
  | inr differs ↦ not_last pages q a p (rw differs at here) (IsDistinct-tail eqb b (q ++ a ∷ []) d) (rw differs at e)
]
  where
    not_first : (r : List ℕ) → IsDistinct eqb (b ∷ (r ++ a ∷ [])) → first_or p (r ++ a ∷ []) ≡ p → p ≡ b → ⊥
    not_first [] f h same = eqb-false b a (or_parts (eqb b a) false (head_absent b (a ∷ []) f)).0 (sym (h ∙ same))
    not_first (c ∷ r) f h same = eqb-false b c (or_parts (eqb b c) (is_listed (r ++ a ∷ []) b) (head_absent b (c ∷ (r ++ a ∷ [])) f)).0 (sym (h ∙ same))
