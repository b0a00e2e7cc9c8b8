-- What a removal makes of the sweep.
use Rattle.std.proofs.Common.{◌≡◌, ℕ, ◌-◌, ◌<◌, ◌≤◌, true, false, not, List, length, reverse, Option, eqb, get_or, sym, ap, ◌∙◌, refl, arith, inl, inr, subst}
use Rattle.std.specs.List.{IsDistinct}
use Rattle.std.proofs.lemmas.Bool.{cases_Bool}
use Rattle.page_sweep.specs.Links.{links_without, start_without, IsLinked}
use Rattle.ram_block.specs.PageLinks.{is_listed, link_of, walked}
use Rattle.page_sweep.specs.Sweep.{without, IsSweep, SweepData}
use Rattle.std.proofs.lemmas.Grind.{get_or_default_zero}
use Rattle.std.proofs.lemmas.List.{reverse-reverse}
use Rattle.std.proofs.lemmas.List.Elements.{All-filter}
use Rattle.std.proofs.lemmas.List.Kept.{IsStrictlyIncreasing-filter}
use Rattle.ram_block.proofs.LinkedPages.{link_of-absent, link_of-present, listed_below}
use Rattle.page_sweep.proofs.Mirror.{is_listed-reverse, IsDistinct-reverse}
use Rattle.page_sweep.proofs.Removed.{length-without, without-reverse}
use Rattle.page_sweep.proofs.Linked.{distinct_ascending}
use Rattle.page_sweep.proofs.Unlinked.{unlinked}

-- a page's link tells whether it is left
pub tells_absent : (pages : ℕ) (q : List ℕ) (p : ℕ) → IsSweep (record { pages = pages; list = q }) → link_of pages q p ≡ pages → is_listed q p ≡ false
tells_absent pages q p k e = elim (cases_Bool (is_listed q p)) [
  | inl here ↦
      let page : link_of pages q p < pages = link_of-present pages q p (listed_below pages q k.below) here in
      absurd (omega arith)
  | inr absent ↦ absent
]

-- and so does another link
tells_left : (pages : ℕ) (q : List ℕ) (p : ℕ) → (link_of pages q p ≡ pages → ⊥) → is_listed q p ≡ true
tells_left pages q p e = elim (cases_Bool (is_listed q p)) [
  | inl here ↦ here
  | inr absent ↦ absurd (e (link_of-absent pages q p absent))
]

-- what there is once page p was taken out of d
pub record IsRemoved (d : SweepData) (p pages : ℕ) (next prev : List ℕ) (first last : Option ℕ) (left : ℕ) : Type 0 where
  pub linked : IsLinked pages next prev first last left (walked first next)
  pub same_pages : pages ≡ d.pages
  pub rest : walked first next ≡ without d.list p
  pub here : is_listed d.list p ≡ true

module _ (d : SweepData) (p pages : ℕ) (next prev : List ℕ) (first last : Option ℕ) (left after : ℕ)
    (view_is : ◌≡◌ {A = SweepData} (record { pages = pages; list = walked first next }) d) (k : IsLinked pages next prev first last left (walked first next)) (below : p < d.pages) (after_is : after ≡ get_or next p after) where
  -- the page is below the number of pages
  pub page_below : p < pages
  page_below = subst (λ (n : ℕ). p < n) (sym (ap (λ (x : SweepData). x.pages) view_is)) below

  -- the link that was read is that of the list
  after_link : link_of pages (walked first next) p ≡ after
  after_link = sym (k.forth.same_links p page_below) ∙ sym (after_is ∙ get_or_default_zero next p after (rw k.forth.same_length page_below))

  -- where it is the number of pages, the page isn't left
  pub stays : after ≡ pages → is_listed d.list p ≡ false
  stays e = ap (λ (x : SweepData). is_listed x.list p) (sym view_is) ∙ tells_absent pages (walked first next) p k.sweep (after_link ∙ e)

  module _ (there : after ≡ pages → ⊥) (before : ℕ) (before_is : before ≡ get_or prev p before) where
    here : is_listed (walked first next) p ≡ true
    here = tells_left pages (walked first next) p (λ e. there (sym after_link ∙ e))

    -- so is the page before that was read
    before_link : link_of pages (reverse (walked first next)) p ≡ before
    before_link = sym (k.back.same_links p page_below) ∙ sym (before_is ∙ get_or_default_zero prev p before (rw k.back.same_length page_below))

    -- the pages of the list are below the number of pages
    pages_below : (x : ℕ) → is_listed (walked first next) x ≡ true → x < pages
    pages_below = listed_below pages (walked first next) k.sweep.below

    -- so are those of the list backwards
    pages_below_back : (x : ℕ) → is_listed (reverse (walked first next)) x ≡ true → x < pages
    pages_below_back x e = pages_below x (sym (is_listed-reverse (walked first next) x) ∙ e)

    -- the page after is a page
    pub after_below : after < length prev
    after_below = rw (k.back.same_length, ← after_link) (link_of-present pages (walked first next) p pages_below here)

    -- the page before is a page
    pub before_below : before < length next
    before_below = rw (k.forth.same_length, ← before_link) (link_of-present pages (reverse (walked first next)) p pages_below_back (is_listed-reverse (walked first next) p ∙ here))

    -- page p is left
    pub some_left : 1 ≤ left
    some_left =
        let one = length-without (walked first next) p (distinct_ascending (walked first next) k.sweep.ascending) here in
        omega (arith, k.count)

    -- the links of both directions are those of the list without p
    without_linked : IsLinked pages (links_without next pages before p after) (links_without prev pages after p before) (start_without first before p after) (start_without last after p before) (left - 1) (without (walked first next) p)
    without_linked =
        let q = walked first next in
        let distinct : IsDistinct eqb q = distinct_ascending q k.sweep.ascending in
        let after_back : link_of pages (reverse (reverse q)) p ≡ after = rw reverse-reverse after_link in
        let one = length-without q p distinct here in
        record {
          forth = unlinked pages next first q before p after k.forth distinct pages_below here after_link before_link;
          back = rw (without-reverse q p) (unlinked pages prev last (reverse q) after p before k.back (IsDistinct-reverse q distinct) pages_below_back (is_listed-reverse q p ∙ here) before_link after_back);
          count = omega (arith, k.count);
          sweep = record {
            ascending = IsStrictlyIncreasing-filter (λ a. not (eqb p a)) q k.sweep.ascending;
            below = All-filter (λ a. not (eqb p a)) (λ x. x < pages) q k.sweep.below;
          };
        }

    -- page p is taken out
    pub removes : (next' prev' : List ℕ) (first' last' : Option ℕ) → next' ≡ links_without next pages before p after → first' ≡ start_without first before p after
        → prev' ≡ links_without prev pages after p before → last' ≡ start_without last after p before → IsRemoved d p pages next' prev' first' last' (left - 1)
    removes next' prev' first' last' n f b l =
        let made : IsLinked pages next' prev' first' last' (left - 1) (without (walked first next) p) = rw (n, f, b, l) without_linked in
        record {
          linked = subst (IsLinked pages next' prev' first' last' (left - 1)) (sym made.forth.walks) made;
          same_pages = ap (λ (x : SweepData). x.pages) view_is;
          rest = made.forth.walks ∙ ap (λ (x : SweepData). without x.list p) view_is;
          here = ap (λ (x : SweepData). is_listed x.list p) (sym view_is) ∙ here;
        }

-- what contracts see then
pub removed_view : (d : SweepData) (p pages : ℕ) (next prev : List ℕ) (first last : Option ℕ) (left : ℕ) → IsRemoved d p pages next prev first last left
    → ◌≡◌ {A = SweepData} (record { pages = pages; list = walked first next }) (record { pages = d.pages; list = without d.list p })
removed_view d p pages next prev first last left k = rw (k.same_pages, k.rest) refl
