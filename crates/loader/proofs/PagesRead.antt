-- The pages of a block, from one page on.
use Rattle.std.proofs.Common.{◌≡◌, inl, inr, Option, Some, Ok, Err, IfSome, ◌-◌, take, subst, ℕ, suc, ◌+◌, ◌*◌, ◌<◌, ◌≤◌, Bool, true, false, List, [], ◌∷◌, ◌++◌, length, get_or, drop, sym, ◌∙◌, ap, arith, drop-cons, append_assoc}
use Rattle.std.proofs.lemmas.List.{drop_all}
use Rattle.std.specs.Prelude.{nat_lt}
use Rattle.std.proofs.lemmas.Bool.{cases_lt, cond-true, cond-false, lt-ltb, le-ltb}
use Rattle.mig_stream.specs.Pieces.{piece_in}
use Rattle.mig_stream.specs.declared.field_fault.FieldFault.TheVariants.{Truncated}
use Rattle.loader.specs.Loaded.{block_pages, page_by}

-- before the first page
pub pages_first : (file : List ℕ) (first : ℕ) (bits : List Bool) → block_pages file first bits ≡ block_pages file (first + 4096 * 0) (drop 0 bits)
pages_first file first bits =
    let here : first ≡ first + 4096 * 0 = omega arith in
    ap (λ (at : ℕ). block_pages file at bits) here

-- one page more
pub pages_on : (file : List ℕ) (first p : ℕ) (bits : List Bool) → p < length bits
    → block_pages file (first + 4096 * p) (drop p bits) ≡ page_by file (first + 4096 * p) (get_or bits p false) ∷ block_pages file (first + 4096 * (p + 1)) (drop (p + 1) bits)
pages_on file first p bits lt =
    let next : first + 4096 * p + 4096 ≡ first + 4096 * (p + 1) = omega arith in
    let on : suc p ≡ p + 1 = omega arith in
    ap (block_pages file (first + 4096 * p)) (drop-cons bits p false lt)
    ∙ ap (λ (at : ℕ). page_by file (first + 4096 * p) (get_or bits p false) ∷ block_pages file at (drop (suc p) bits)) next
    ∙ ap (λ (k : ℕ). page_by file (first + 4096 * p) (get_or bits p false) ∷ block_pages file (first + 4096 * (p + 1)) (drop k bits)) on

-- with the pages before it
pub pages_more : (file : List ℕ) (first p : ℕ) (bits : List Bool) (so_far new : List (List ℕ)) (page : List ℕ) → p < length bits → page ≡ page_by file (first + 4096 * p) (get_or bits p false)
    → new ≡ so_far ++ page ∷ [] → so_far ++ block_pages file (first + 4096 * p) (drop p bits) ≡ new ++ block_pages file (first + 4096 * (p + 1)) (drop (p + 1) bits)
pages_more file first p bits so_far new page lt is put =
    let rest = block_pages file (first + 4096 * (p + 1)) (drop (p + 1) bits) in
    ap (λ (l : List (List ℕ)). so_far ++ l) (pages_on file first p bits lt)
    ∙ ap (λ (x : List ℕ). so_far ++ (x ∷ rest)) (sym is)
    ∙ sym (append_assoc so_far (page ∷ []) rest)
    ∙ ap (λ (l : List (List ℕ)). l ++ rest) (sym put)

-- behind the last page
pub pages_none : (file : List ℕ) (at n : ℕ) (bits : List Bool) → length bits ≤ n → block_pages file at (drop n bits) ≡ []
pages_none file at n bits le = ap (block_pages file at) (drop_all n bits le)

-- a page that was read
piece_read : (file page : List ℕ) (at : ℕ) → piece_in file at 4096 ≡ Ok page → (page ≡ take 4096 (drop at file)) × (nat_lt (length file - at) 4096 ≡ false)
piece_read file page at found = elim (cases_lt (length file - at) 4096) [
  | inl short ↦ let two = sym found ∙ cond-true _ _ _ (lt-ltb _ _ short) in absurd (cc)
  | inr long ↦ let two = sym found ∙ cond-false _ _ _ (le-ltb _ _ long) in (cc, le-ltb _ _ long)
]

pub page_read : (told : Option (List ℕ)) (file page : List ℕ) (at n : ℕ) → told ≡ Some file → n ≡ 4096 → IfSome told (λ f. piece_in f at n ≡ Ok page)
    → (page ≡ take 4096 (drop at file)) × (nat_lt (length file - at) 4096 ≡ false)
page_read told file page at n is len found =
    let here : IfSome (Some file) (λ f. piece_in f at n ≡ Ok page) = subst (λ (t : Option (List ℕ)). IfSome t (λ f. piece_in f at n ≡ Ok page)) is found in
    piece_read file page at (subst (λ (k : ℕ). piece_in file at k ≡ Ok page) len here)

-- one that the file cuts
piece_cut : (file : List ℕ) (at place : ℕ) → piece_in file at 4096 ≡ Err (Truncated place) → nat_lt (length file - at) 4096 ≡ true
piece_cut file at place found = elim (cases_lt (length file - at) 4096) [
  | inl short ↦ lt-ltb _ _ short
  | inr long ↦ let two = sym found ∙ cond-false _ _ _ (le-ltb _ _ long) in absurd (cc)
]

pub page_cut : (told : Option (List ℕ)) (file : List ℕ) (at place n : ℕ) → told ≡ Some file → n ≡ 4096 → IfSome told (λ f. piece_in f at n ≡ Err (Truncated place))
    → nat_lt (length file - at) 4096 ≡ true
page_cut told file at place n is len found =
    let here : IfSome (Some file) (λ f. piece_in f at n ≡ Err (Truncated place)) = subst (λ (t : Option (List ℕ)). IfSome t (λ f. piece_in f at n ≡ Err (Truncated place))) is found in
    piece_cut file at place (subst (λ (k : ℕ). piece_in file at k ≡ Err (Truncated place)) len here)
