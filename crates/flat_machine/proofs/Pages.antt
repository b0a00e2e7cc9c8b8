-- Pages of RAM: as a list of pages, and as one flat list of bytes with a page read or replaced.
use Rattle.std.proofs.Common.{◌≡◌, ◌≢◌, inl, inr, ℕ, zero, suc, ◌+◌, ◌-◌, ◌*◌, ◌/◌, ◌%◌, ◌<◌, ◌≤◌, List, [], ◌∷◌, ◌++◌, length, take, drop, get_or, slice_set, All, refl, sym, ◌∙◌, ap, arith, append_assoc, length-append, mul_comm}
use Rattle.std.proofs.lemmas.List.{take_at, drop_at, drop-drop, length-take, length-drop, length-take-le, get_or-take, get_or-drop, take-append-le, drop-append-le, take-take, drop-take}
use Rattle.std.proofs.lemmas.Bool.{cases_lt}
use lib.Seq.{take-append-add, drop-append-add}
use Rattle.ram_block.specs.Shape.{ShapeData, ram_bytes_of, total_pages_of}
use Rattle.ram_block.specs.declared.page_buf.TheConstants.{PAGE}
use Rattle.flat_machine.specs.Page.{joined, page_at, with_page}

-- each page of a list is whole
abbrev pub AreWhole : List (List ℕ) → Type 0
AreWhole pages = All (λ page. length page ≡ PAGE) pages

-- the pages behind the first are whole too
pub rest_whole : (page : List ℕ) (pages : List (List ℕ)) → AreWhole (page ∷ pages) → AreWhole pages
rest_whole page pages whole = λ k d h. whole (suc k) d (omega arith)

-- the bytes of all pages
pub length-joined : (pages : List (List ℕ)) → AreWhole pages → length (joined pages) ≡ PAGE * length pages
unfolding joined
length-joined [] whole = refl
length-joined (page ∷ pages) whole =
    let first : length page ≡ PAGE = whole 0 [] (omega arith) in
    omega (arith, first, length-append page (joined pages), length-joined pages (rest_whole page pages whole))

-- behind the first page stands the rest
drop-joined : (page : List ℕ) (pages : List (List ℕ)) (p : ℕ) → length page ≡ PAGE →
    drop (PAGE * suc p) (page ++ joined pages) ≡ drop (PAGE * p) (joined pages)
drop-joined page pages p whole =
    let e : PAGE * suc p ≡ PAGE + PAGE * p = omega arith in
    ap (λ n. drop n (page ++ joined pages)) e ∙ sym (drop-drop (PAGE * p) PAGE (page ++ joined pages)) ∙ ap (drop (PAGE * p)) (drop_at page (joined pages) PAGE whole)

-- page p of the flat list is page p of the list
pub page_at-joined : (pages : List (List ℕ)) (p : ℕ) (d : List ℕ) → AreWhole pages → p < length pages →
    page_at (joined pages) p ≡ get_or pages p d
unfolding joined page_at
page_at-joined [] p d whole h = absurd (omega arith)
page_at-joined (page ∷ pages) zero d whole h = take_at page (joined pages) PAGE (whole 0 [] (omega arith))
page_at-joined (page ∷ pages) (suc p) d whole h =
    ap (take PAGE) (drop-joined page pages p (whole 0 [] (omega arith))) ∙ page_at-joined pages p d (rest_whole page pages whole) (omega arith)

-- the list with another page, as the flat list with that page replaced
pub joined-set : (pages : List (List ℕ)) (p : ℕ) (page : List ℕ) → AreWhole pages → p < length pages →
    joined (slice_set pages p page) ≡ with_page (joined pages) p page
unfolding joined with_page
joined-set [] p page whole h = absurd (omega arith)
joined-set (first ∷ pages) zero page whole h =
    ap (λ l. page ++ l) (sym (drop_at first (joined pages) (PAGE * 0 + PAGE) (whole 0 [] (omega arith))))
joined-set (first ∷ pages) (suc p) page whole h =
    let is_whole : length first ≡ PAGE = whole 0 [] (omega arith) in
    let rest = joined-set pages p page (rest_whole first pages whole) (omega arith) in
    let front : take (PAGE * suc p) (first ++ joined pages) ≡ first ++ take (PAGE * p) (joined pages) =
    ap (λ n. take n (first ++ joined pages)) (let e : PAGE * suc p ≡ length first + PAGE * p = omega arith in e) ∙ take-append-add first (joined pages) (PAGE * p) in
    let back : drop (PAGE * suc p + PAGE) (first ++ joined pages) ≡ drop (PAGE * p + PAGE) (joined pages) =
    ap (λ n. drop n (first ++ joined pages)) (let e : PAGE * suc p + PAGE ≡ length first + (PAGE * p + PAGE) = omega arith in e) ∙ drop-append-add first (joined pages) (PAGE * p + PAGE) in
    ap (λ l. first ++ l) rest
    ∙ sym (append_assoc first (take (PAGE * p) (joined pages)) (page ++ drop (PAGE * p + PAGE) (joined pages)))
    ∙ ap (λ l. l ++ (page ++ drop (PAGE * p + PAGE) (joined pages))) (sym front)
    ∙ ap (λ l. take (PAGE * suc p) (first ++ joined pages) ++ (page ++ l)) (sym back)

-- a byte of the flat list is one of its page
pub get_or-joined : (pages : List (List ℕ)) (p off : ℕ) (d : List ℕ) → AreWhole pages → p < length pages → off < PAGE →
    get_or (joined pages) (PAGE * p + off) 0 ≡ get_or (get_or pages p d) off 0
unfolding page_at
get_or-joined pages p off d whole h within =
    sym (get_or-drop (PAGE * p) (joined pages) off 0)
    ∙ sym (get_or-take PAGE (drop (PAGE * p) (joined pages)) off 0 within)
    ∙ ap (λ l. get_or l off 0) (page_at-joined pages p d whole h)

-- the same, by its number in all of RAM
pub byte_at : (pages : List (List ℕ)) (i : ℕ) (d : List ℕ) → AreWhole pages → i < PAGE * length pages →
    get_or (joined pages) i 0 ≡ get_or (get_or pages (i / PAGE) d) (i % PAGE) 0
byte_at pages i d whole h =
    ap (λ n. get_or (joined pages) n 0) (let e : i ≡ PAGE * (i / PAGE) + i % PAGE = omega arith in e)
    ∙ get_or-joined pages (i / PAGE) (i % PAGE) d whole (omega arith) (omega arith)

-- ---- One page of a flat list replaced

pub length-with_page : (ram page : List ℕ) (p : ℕ) → length page ≡ PAGE → PAGE * p + PAGE ≤ length ram →
    length (with_page ram p page) ≡ length ram
unfolding with_page
length-with_page ram page p whole h =
    omega (arith, whole, length-append (take (PAGE * p) ram) (page ++ drop (PAGE * p + PAGE) ram), length-append page (drop (PAGE * p + PAGE) ram), length-take (PAGE * p) ram, length-drop (PAGE * p + PAGE) ram)

-- that page is the new one
pub page_at-with_page_same : (ram page : List ℕ) (p : ℕ) → length page ≡ PAGE → PAGE * p + PAGE ≤ length ram →
    page_at (with_page ram p page) p ≡ page
unfolding page_at with_page
page_at-with_page_same ram page p whole h =
    ap (take PAGE) (drop_at (take (PAGE * p) ram) (page ++ drop (PAGE * p + PAGE) ram) (PAGE * p) (length-take-le (PAGE * p) ram (omega arith)))
    ∙ take_at page (drop (PAGE * p + PAGE) ram) PAGE whole

-- a page below it stays
page_below : (ram page : List ℕ) (p q : ℕ) → q < p → PAGE * p + PAGE ≤ length ram →
    page_at (with_page ram p page) q ≡ page_at ram q
unfolding page_at with_page
page_below ram page p q below h =
    let rest = page ++ drop (PAGE * p + PAGE) ram in
    let front : length (take (PAGE * p) ram) ≡ PAGE * p = length-take-le (PAGE * p) ram (omega arith) in
    let e : PAGE * p ≡ PAGE * q + (PAGE * p - PAGE * q) = omega arith in
    ap (take PAGE) (drop-append-le (PAGE * q) (take (PAGE * p) ram) rest (omega arith))
    ∙ take-append-le PAGE (drop (PAGE * q) (take (PAGE * p) ram)) rest (omega (arith, length-drop (PAGE * q) (take (PAGE * p) ram)))
    ∙ ap (λ n. take PAGE (drop (PAGE * q) (take n ram))) e
    ∙ ap (take PAGE) (drop-take (PAGE * q) (PAGE * p - PAGE * q) ram)
    ∙ take-take PAGE (PAGE * p - PAGE * q) (drop (PAGE * q) ram) (omega arith)

-- a page above it stays
page_above : (ram page : List ℕ) (p q : ℕ) → p < q → length page ≡ PAGE → PAGE * p + PAGE ≤ length ram →
    page_at (with_page ram p page) q ≡ page_at ram q
unfolding page_at with_page
page_above ram page p q above whole h =
    let front : length (take (PAGE * p) ram ++ page) ≡ PAGE * p + PAGE =
    omega (arith, whole, length-append (take (PAGE * p) ram) page, length-take-le (PAGE * p) ram (omega arith)) in
    let behind = PAGE * q - (PAGE * p + PAGE) in
    let e : PAGE * q ≡ length (take (PAGE * p) ram ++ page) + behind = omega arith in
    let back : PAGE * p + PAGE + behind ≡ PAGE * q = omega arith in
    ap (λ l. take PAGE (drop (PAGE * q) l)) (sym (append_assoc (take (PAGE * p) ram) page (drop (PAGE * p + PAGE) ram)))
    ∙ ap (λ n. take PAGE (drop n ((take (PAGE * p) ram ++ page) ++ drop (PAGE * p + PAGE) ram))) e
    ∙ ap (take PAGE) (drop-append-add (take (PAGE * p) ram ++ page) (drop (PAGE * p + PAGE) ram) behind)
    ∙ ap (take PAGE) (drop-drop behind (PAGE * p + PAGE) ram)
    ∙ ap (λ n. take PAGE (drop n ram)) back

-- every other page stays
pub page_at-with_page_other : (ram page : List ℕ) (p q : ℕ) → p ≢ q → length page ≡ PAGE → PAGE * p + PAGE ≤ length ram →
    page_at (with_page ram p page) q ≡ page_at ram q
page_at-with_page_other ram page p q ne whole h =
    elim (cases_lt p q) as (λ _. page_at (with_page ram p page) q ≡ page_at ram q) [
      | inl above ↦ page_above ram page p q above whole h
      | inr below ↦ page_below ram page p q (omega arith) h
    ]

-- the bytes of the pages of a shape
pub ram_len : (shape : ShapeData) (pages : List (List ℕ)) → AreWhole pages → length pages ≡ total_pages_of shape →
    length (joined pages) ≡ ram_bytes_of shape
ram_len shape pages whole count = length-joined pages whole ∙ ap (λ n. PAGE * n) count ∙ mul_comm PAGE (total_pages_of shape)

-- the lemmas for one page of the list
pub ruleset page_steps = (page_at-joined, joined-set)
