-- RAM with some pages of a machine: which pages it has, and when it is the machine's.
use Rattle.std.proofs.Common.{◌≡◌, ◌≢◌, inl, inr, ℕ, zero, suc, ◌+◌, ◌*◌, ◌/◌, ◌%◌, ◌<◌, ◌≤◌, List, [], ◌∷◌, length, get_or, drop, All, sym, ap, ◌∙◌, arith}
use Rattle.std.proofs.lemmas.Bool.Decides.{eqb_tells}
use Rattle.std.proofs.lemmas.List.{ext_get_or, get_or-drop, get_or-take}
use Rattle.ram_block.specs.declared.page_buf.TheConstants.{PAGE}
use Rattle.flat_machine.specs.Page.{page_at, with_page}
use Rattle.flat_machine.proofs.Pages.{length-with_page, page_at-with_page_other, page_at-with_page_same}
use Rattle.snap_layer.specs.Layer.{AreAscending}

page_byte : (ram : List ℕ) (p i : ℕ) → i < PAGE → get_or (page_at ram p) i 0 ≡ get_or ram (PAGE * p + i) 0
unfolding page_at
page_byte ram p i lt = get_or-take PAGE (drop (PAGE * p) ram) i 0 lt ∙ get_or-drop (PAGE * p) ram i 0

-- RAM is told by its pages
pub same_ram : (n : ℕ) (one two : List ℕ) → length one ≡ PAGE * n → length two ≡ PAGE * n → ((p : ℕ) → p < n → page_at one p ≡ page_at two p) → one ≡ two
same_ram n one two first second each = ext_get_or 0 one two (first ∙ sym second) (λ i lt.
    let p = i / PAGE in
    let off = i % PAGE in
    let place : i ≡ PAGE * p + off = omega arith in
    let inside : p < n = omega (arith, lt, first) in
    let within : off < PAGE = omega arith in
    ap (λ (k : ℕ). get_or one k 0) place
    ∙ sym (page_byte one p off within)
    ∙ ap (λ (page : List ℕ). get_or page off 0) (each p inside)
    ∙ page_byte two p off within
    ∙ ap (λ (k : ℕ). get_or two k 0) (sym place))

-- a page is inside
pub inside : (p total : ℕ) (ram : List ℕ) → p < total → length ram ≡ PAGE * total → PAGE * p + PAGE ≤ length ram
inside p total ram lt long = omega (arith, lt, long)

none_at : (p q : ℕ) (pages : List ℕ) → p ≢ q → All (λ p. p ≢ q) pages → (k d : ℕ) → k < suc (length pages) → get_or (p ∷ pages) k d ≢ q
none_at p q pages first rest zero d h = first
none_at p q pages first rest (suc k) d h = rest k d (omega arith)

-- page numbers from the least on are none below it
pub none_below : (least total q : ℕ) (pages : List ℕ) → q < least → AreAscending least total pages → All (λ p. p ≢ q) pages
none_below least total q [] below ascending = λ k d h. absurd (omega arith)
none_below least total q (p ∷ pages) below ascending = λ k d h.
    let first : p ≢ q = omega (arith, below, ascending.0) in
    let next : q < p + 1 = omega (arith, below, ascending.0) in
    let rest = none_below (p + 1) total q pages next ascending.2 in
    none_at p q pages first rest k d h

pub none_more : (p q : ℕ) (pages : List ℕ) → p ≢ q → All (λ p. p ≢ q) pages → All (λ p. p ≢ q) (p ∷ pages)
none_more p q pages first rest = λ k d h. none_at p q pages first rest k d h

-- RAM with these pages, each with the bytes that are given for its number
abbrev pub written : (ℕ → List ℕ) → List ℕ → List ℕ → List ℕ
written page [] ram = ram
written page (p ∷ pages) ram = written page pages (with_page ram p (page p))

-- each page has the bytes of a page
abbrev pub AreWhole : (ℕ → List ℕ) → ℕ → Type 0
AreWhole page total = (p : ℕ) → p < total → length (page p) ≡ PAGE

pub length-written : (page : ℕ → List ℕ) (total least : ℕ) (pages ram : List ℕ) → AreWhole page total → AreAscending least total pages → length ram ≡ PAGE * total → length (written page pages ram) ≡ PAGE * total
length-written page total least [] ram whole ascending long = long
length-written page total least (p ∷ pages) ram whole ascending long =
    length-written page total (p + 1) pages (with_page ram p (page p)) whole ascending.2
    (length-with_page ram (page p) p (whole p ascending.1) (inside p total ram ascending.1 long) ∙ long)

-- page q has the bytes given for it, if it is one of these pages or had them before
pub page-written : (page : ℕ → List ℕ) (total least q : ℕ) (pages ram : List ℕ) → AreWhole page total → AreAscending least total pages → length ram ≡ PAGE * total
    → (All (λ p. p ≢ q) pages → page_at ram q ≡ page q) → page_at (written page pages ram) q ≡ page q
page-written page total least q [] ram whole ascending long before = before (λ k d h. absurd (omega arith))
page-written page total least q (p ∷ pages) ram whole ascending long before =
    let within = inside p total ram ascending.1 long in
    let after = with_page ram p (page p) in
    let same_length : length after ≡ PAGE * total = length-with_page ram (page p) p (whole p ascending.1) within ∙ long in
    page-written page total (p + 1) q pages after whole ascending.2 same_length (λ others. elim (eqb_tells p q) [
      | inl same ↦ ap (page_at after) (sym same.1) ∙ page_at-with_page_same ram (page p) p (whole p ascending.1) within ∙ ap page same.1
      | inr other ↦ page_at-with_page_other ram (page p) p q other.1 (whole p ascending.1) within ∙ before (none_more p q pages other.1 others)
    ])
