-- The links of a list of pages without doubles give that list.
use Rattle.std.proofs.Common.{◌≡◌, ℕ, zero, suc, ◌<◌, ◌≤◌, true, false, List, [], ◌∷◌, ◌++◌, length, Option, All, eqb, get_or, slice_get, sym, ◌∙◌, refl, arith, eq-eqb, ne_eqb, inl, inr, subst}
use Rattle.std.specs.List.{IsDistinct}
use Rattle.std.proofs.lemmas.Bool.{cases_Bool, or_cases, or_left, or_parts, or_right, eqb-false, eqb-true, both_ways, true≢false}
use Rattle.std.proofs.lemmas.List.Elements.{All-from_recursion, All-head, All-tail}
use Rattle.std.proofs.lemmas.List.Folds.{list_any_none}
use Rattle.std.proofs.lemmas.Map.Keys.{IsDistinct-head, IsDistinct-tail}
use Rattle.std.proofs.lemmas.Map.Steps.{length-le_from_distinct_below}
use Rattle.ram_block.specs.PageLinks.{is_listed, first_or, link_of, walk, walked}

-- a test of two numbers gives the same answer either way round
pub apart : (a b : ℕ) → eqb a b ≡ false → eqb b a ≡ false
apart a b h = ne_eqb b a (λ e. eqb-false a b h (sym e))

-- the first of a list without doubles isn't in the rest
pub head_absent : (a : ℕ) (q : List ℕ) → IsDistinct eqb (a ∷ q) → is_listed q a ≡ false
head_absent a q d = list_any_none (eqb a) q (All-from_recursion _ q (IsDistinct-head eqb a q d))

-- a page of a list of pages is below their number
pub listed_below : (pages : ℕ) (q : List ℕ) → All (λ x. x < pages) q → (p : ℕ) → is_listed q p ≡ true → p < pages
listed_below pages [] below p e = absurd (true≢false (sym e))
listed_below pages (a ∷ q) below p e = elim (or_cases (eqb p a) (is_listed q p) e) [
  | inl same ↦ rw (eqb-true p a same) (All-head (λ x. x < pages) a q below)
  | inr later ↦ listed_below pages q (All-tail (λ x. x < pages) a q below) p later
]

-- a page that isn't in the list has the number of pages
pub link_of-absent : (pages : ℕ) (q : List ℕ) (p : ℕ) → is_listed q p ≡ false → link_of pages q p ≡ pages
link_of-absent pages [] p h = refl
link_of-absent pages (a ∷ q) p h =
    let parts = or_parts (eqb p a) (is_listed q p) h in
    rw parts.0 (link_of-absent pages q p parts.1)

-- a page that is in the list has a page
pub link_of-present : (pages : ℕ) (q : List ℕ) (p : ℕ) → ((x : ℕ) → is_listed q x ≡ true → x < pages) → is_listed q p ≡ true → link_of pages q p < pages
link_of-present pages [] p below h = absurd (true≢false (sym h))
link_of-present pages (a ∷ q) p below h = elim (cases_Bool (eqb p a)) [
  | inl same ↦ rw same (first_or-below q (λ x e. below x (or_right (eqb x a) (is_listed q x) e)))
  | inr other ↦ rw other (link_of-present pages q p (λ x e. below x (or_right (eqb x a) (is_listed q x) e)) (rw other at h))
]
  where
    first_or-below : (r : List ℕ) → ((x : ℕ) → is_listed r x ≡ true → x < pages) → first_or p r < pages
    first_or-below [] f = below p h
    first_or-below (b ∷ r) f = f b (or_left (eqb b b) (is_listed r b) (eq-eqb b b refl))

-- the page after p is the one behind its place
pub link_of-at : (pages : ℕ) (q : List ℕ) (p : ℕ) (r : List ℕ) → is_listed q p ≡ false → link_of pages (q ++ p ∷ r) p ≡ first_or p r
link_of-at pages [] p r h = rw (eq-eqb p p refl) refl
link_of-at pages (a ∷ q) p r h =
    let parts = or_parts (eqb p a) (is_listed q p) h in
    rw parts.0 (link_of-at pages q p r parts.1)

-- the walk along the links of a list gives the list
walk_is : (pages n : ℕ) (links : List ℕ) (p : ℕ) (q : List ℕ) → IsDistinct eqb (p ∷ q) → length (p ∷ q) ≤ n
    → ((x : ℕ) → is_listed (p ∷ q) x ≡ true → get_or links x 0 ≡ link_of pages (p ∷ q) x) → walk n links p ≡ p ∷ q
walk_is pages zero links p q d room same = absurd (omega arith)
walk_is pages (suc n) links p [] d room same =
    let here : get_or links p 0 ≡ p = same p (rw (eq-eqb p p refl) refl) ∙ rw (eq-eqb p p refl) refl in
    rw (eq-eqb _ p here) refl
walk_is pages (suc n) links p (b ∷ r) d room same =
    let here : get_or links p 0 ≡ b = same p (rw (eq-eqb p p refl) refl) ∙ rw (eq-eqb p p refl) refl in
    let parts = or_parts (eqb p b) (is_listed r p) (head_absent p (b ∷ r) d) in
    let rest : walk n links b ≡ b ∷ r = walk_is pages n links b r (IsDistinct-tail eqb p (b ∷ r) d) (omega arith)
    (λ x e. same x (or_right (eqb x p) (is_listed (b ∷ r) x) e)
    ∙ rw (ne_eqb x p (λ h. both_ways _ (head_absent p (b ∷ r) d) (subst (λ (y : ℕ). is_listed (b ∷ r) y ≡ true) h e))) refl) in
    rw (here, apart p b parts.0, rest) refl

-- the links of a list give that list
pub walked_is : (pages : ℕ) (links : List ℕ) (start : Option ℕ) (q : List ℕ) → length links ≡ pages → ((x : ℕ) → x < pages → get_or links x 0 ≡ link_of pages q x) → start ≡ slice_get q 0
    → IsDistinct eqb q → ((x : ℕ) → is_listed q x ≡ true → x < pages) → walked start links ≡ q
walked_is pages links start [] same_length same begins d below = rw begins refl
walked_is pages links start (p ∷ r) same_length same begins d below =
    let room : length (p ∷ r) ≤ pages = length-le_from_distinct_below (p ∷ r) pages d below in
    rw begins (walk_is pages (length links) links p r d (omega (arith, same_length)) (λ x e. same x (below x e)))
