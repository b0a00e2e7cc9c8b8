-- Lemmas on the last page of a list, and on a page put behind it.
use Rattle.std.proofs.Common.{◌≡◌, ℕ, true, false, List, [], ◌∷◌, ◌++◌, Some, None, eqb, sym, ap, ◌∙◌, refl, eq-eqb}
use Rattle.std.specs.List.{IsDistinct, AllByRecursion}
use Rattle.std.proofs.lemmas.Bool.{or_from, or_left, or_parts, or_right}
use Rattle.std.proofs.lemmas.List.Folds.{list_any-append}
use Rattle.std.proofs.lemmas.Map.Keys.{IsDistinct-cons, IsDistinct-head, IsDistinct-tail}
use Rattle.ram_block.specs.PageLinks.{is_listed, link_of}
use Rattle.ram_block.proofs.LinkedPages.{apart, head_absent}
use Rattle.wp_fault.specs.Links.{last_of}

-- a page put last changes no page's link but its own and that of the last before
pub link_of-push : (pages : ℕ) (q : List ℕ) (l p x : ℕ) → eqb x l ≡ false → eqb x p ≡ false → link_of pages (q ++ l ∷ p ∷ []) x ≡ link_of pages (q ++ l ∷ []) x
link_of-push pages [] l p x h k = rw (h, k) refl
link_of-push pages (a ∷ []) l p x h k = rw (h, k) refl
link_of-push pages (a ∷ b ∷ q) l p x h k = rw (link_of-push pages (b ∷ q) l p x h k) refl

-- the page put last is the last
pub last_of-push : (q : List ℕ) (p : ℕ) → last_of (q ++ p ∷ []) ≡ Some p
last_of-push [] p = refl
last_of-push (a ∷ []) p = refl
last_of-push (a ∷ b ∷ q) p = last_of-push (b ∷ q) p

-- only the empty list has no last page
pub last_of-none : (q : List ℕ) → last_of q ≡ None → q ≡ []
last_of-none [] e = refl
last_of-none (a ∷ []) e = cc
last_of-none (a ∷ b ∷ q) e = absurd (cc (last_of-none (b ∷ q) e))

-- a list ends with its last page
pub last_split : (q : List ℕ) (l : ℕ) → last_of q ≡ Some l → (init : List ℕ) × (q ≡ init ++ l ∷ [])
last_split [] l e = absurd (cc)
last_split (a ∷ []) l e = ([], cc)
last_split (a ∷ b ∷ q) l e =
    let rest = last_split (b ∷ q) l e in
    (a ∷ rest.0, ap (λ (r : List ℕ). a ∷ r) rest.1)

-- the empty list has no doubles
pub IsDistinct-nil : IsDistinct eqb []
unfolding IsDistinct
IsDistinct-nil = tt

-- a page that isn't in the list may be put last
pub IsDistinct-push : (q : List ℕ) (p : ℕ) → IsDistinct eqb q → is_listed q p ≡ false → IsDistinct eqb (q ++ p ∷ [])
IsDistinct-push [] p d h = IsDistinct-cons eqb p [] tt IsDistinct-nil
IsDistinct-push (a ∷ q) p d h =
    let parts = or_parts (eqb p a) (is_listed q p) h in
    IsDistinct-cons eqb a (q ++ p ∷ []) (all_push q (apart p a parts.0) (IsDistinct-head eqb a q d))
    (IsDistinct-push q p (IsDistinct-tail eqb a q d) parts.1)
  where
    all_push : (r : List ℕ) → eqb a p ≡ false → AllByRecursion (λ y. eqb a y ≡ false) r → AllByRecursion (λ y. eqb a y ≡ false) (r ++ p ∷ [])
    all_push [] e f = (e, tt)
    all_push (b ∷ r) e f = (f.0, all_push r e f.1)

-- the last page is in the list
pub last_queued : (q : List ℕ) (p : ℕ) → is_listed (q ++ p ∷ []) p ≡ true
last_queued q p = list_any-append (eqb p) q (p ∷ []) ∙ or_right (is_listed q p) _ (or_left (eqb p p) false (eq-eqb p p refl))

-- and nowhere before
pub last_absent : (q : List ℕ) (p : ℕ) → IsDistinct eqb (q ++ p ∷ []) → is_listed q p ≡ false
last_absent [] p d = refl
last_absent (a ∷ q) p d =
    let later = or_parts (is_listed q a) (is_listed (p ∷ []) a) (sym (list_any-append (eqb a) q (p ∷ [])) ∙ head_absent a (q ++ p ∷ []) d) in
    or_from (eqb p a) (is_listed q p) (apart a p (or_parts (eqb a p) false later.1).0) (last_absent q p (IsDistinct-tail eqb a (q ++ p ∷ []) d))
