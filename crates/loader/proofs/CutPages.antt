-- Which page of a block the file cuts, from one page on.
use Rattle.std.proofs.Common.{◌≡◌, ℕ, suc, ◌+◌, ◌*◌, ◌<◌, ◌≤◌, Bool, true, false, List, Some, None, length, get_or, drop, ◌∙◌, ap, arith, drop-cons}
use Rattle.std.proofs.lemmas.Bool.{cond-true, cond-false}
use Rattle.std.proofs.lemmas.List.{drop_all}
use Rattle.loader.specs.Frame.{cut_page, is_cut}

-- before the first page
pub cut_first : (len first : ℕ) (bits : List Bool) → cut_page len first bits ≡ cut_page len (first + 4096 * 0) (drop 0 bits)
cut_first len first bits =
    let here : first ≡ first + 4096 * 0 = omega arith in
    ap (λ (at : ℕ). cut_page len at bits) here

-- a page that is cut
pub cut_here : (len first p : ℕ) (bits : List Bool) → p < length bits → is_cut len (first + 4096 * p) (get_or bits p false) ≡ true
    → cut_page len (first + 4096 * p) (drop p bits) ≡ Some (first + 4096 * p)
cut_here len first p bits lt cut = ap (cut_page len (first + 4096 * p)) (drop-cons bits p false lt) ∙ cond-true _ _ _ cut

-- one that is whole, or that isn't saved
pub cut_on : (len first p : ℕ) (bits : List Bool) → p < length bits → is_cut len (first + 4096 * p) (get_or bits p false) ≡ false
    → cut_page len (first + 4096 * p) (drop p bits) ≡ cut_page len (first + 4096 * (p + 1)) (drop (p + 1) bits)
cut_on len first p bits lt whole =
    let next : first + 4096 * p + 4096 ≡ first + 4096 * (p + 1) = omega arith in
    let on : suc p ≡ p + 1 = omega arith in
    ap (cut_page len (first + 4096 * p)) (drop-cons bits p false lt) ∙ cond-false _ _ _ whole
    ∙ ap (λ (at : ℕ). cut_page len at (drop (suc p) bits)) next ∙ ap (λ (k : ℕ). cut_page len (first + 4096 * (p + 1)) (drop k bits)) on

-- behind the last page
pub cut_none : (len at n : ℕ) (bits : List Bool) → length bits ≤ n → cut_page len at (drop n bits) ≡ None
cut_none len at n bits le = ap (cut_page len at) (drop_all n bits le)
