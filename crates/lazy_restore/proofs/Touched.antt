-- A page that is put in at its first touch: the machine that is shown stays.
use Rattle.std.proofs.Common.{◌≡◌, ◌≢◌, inl, inr, true, false, ℕ, ◌<◌, Bool, List, [], ◌∷◌, ◌++◌, length, eqb, refl, sym, ◌∙◌, ap, subst, eq-eqb, ne_eqb}
use Rattle.std.specs.Prelude.{◌||◌}
use Rattle.std.proofs.lemmas.Bool.{cases_Bool, cases_eq}
use Rattle.std.proofs.lemmas.List.Folds.{list_any-append}
use Rattle.ram_block.specs.PageLinks.{is_listed}
use Rattle.ram_block.specs.Shape.{total_pages_of}
use Rattle.flat_machine.specs.Page.{joined, with_page}
use Rattle.flat_machine.proofs.Cells.{page_within}
use Rattle.flat_machine.proofs.Pages.{page_at-with_page_same, page_at-with_page_other}
use Rattle.page_peek.specs.Peeked.{page_in}
use Rattle.lazy_restore.specs.Lazy.{IsLazy, LazyData, shown, shown_page}
use Rattle.lazy_restore.proofs.Shown.{made_same, page_new, page_touched}

-- a list with a page put last has it, and of the others those that it had
pub listed_last : (q : List ℕ) (p : ℕ) → is_listed (q ++ p ∷ []) p ≡ true
listed_last q p = list_any-append (eqb p) q (p ∷ []) ∙ ap (λ (b : Bool). is_listed q p || (b || false)) (eq-eqb p p refl) ∙ or_true (is_listed q p)
  where
    or_true : (b : Bool) → (b || true) ≡ true
    or_true true = refl
    or_true false = refl

pub listed_other : (q : List ℕ) (p x : ℕ) → x ≢ p → is_listed (q ++ p ∷ []) x ≡ is_listed q x
listed_other q p x other = list_any-append (eqb x) q (p ∷ []) ∙ ap (λ (b : Bool). is_listed q x || (b || false)) (ne_eqb x p other) ∙ or_false (is_listed q x)
  where
    or_false : (b : Bool) → (b || false) ≡ b
    or_false true = refl
    or_false false = refl

-- with a page of the file put in
abbrev pub put_in : LazyData → ℕ → List ℕ → LazyData
put_in d p page = record { machine = record d.machine { ram = with_page d.machine.ram p page }; peek = d.peek; touched = d.touched ++ p ∷ [] }

module _ (file : List ℕ) (d : LazyData) (lazy : IsLazy d) (p : ℕ) (page : List ℕ) (lt : p < total_pages_of d.machine.shape) (new : is_listed d.touched p ≡ false)
    (whole : length page ≡ 4096) (read : page ≡ page_in file d.peek p) where
  same_shown : (q : ℕ) → q < total_pages_of d.machine.shape → shown_page file (put_in d p page) q ≡ shown_page file d q
  same_shown q below = elim (cases_eq q p) as (λ _. shown_page file (put_in d p page) q ≡ shown_page file d q) [
    | inl same ↦
        subst (λ (x : ℕ). shown_page file (put_in d p page) x ≡ shown_page file d x) (sym same)
        (page_touched file (put_in d p page) p (listed_last d.touched p)
        ∙ page_at-with_page_same d.machine.ram page p whole (page_within d.machine.shape p (length d.machine.ram) lazy.machine.ram lt)
        ∙ read ∙ sym (page_new file d p new))
    | inr other ↦ elim (cases_Bool (is_listed d.touched q)) as (λ _. shown_page file (put_in d p page) q ≡ shown_page file d q) [
      | inl is ↦
          page_touched file (put_in d p page) q (listed_other d.touched p q other ∙ is)
          ∙ page_at-with_page_other d.machine.ram page p q (λ e. other (sym e)) whole (page_within d.machine.shape p (length d.machine.ram) lazy.machine.ram lt)
          ∙ sym (page_touched file d q is)
      | inr not_yet ↦ page_new file (put_in d p page) q (listed_other d.touched p q other ∙ not_yet) ∙ sym (page_new file d q not_yet)
    ]
  ]

  pub touch_shows : shown file (put_in d p page) ≡ shown file d
  unfolding shown
  touch_shows = ap (λ (pages : List (List ℕ)). record d.machine { ram = joined pages }) (made_same (shown_page file (put_in d p page)) (shown_page file d) (total_pages_of d.machine.shape) [] same_shown)
