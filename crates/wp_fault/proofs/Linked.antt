-- What each call makes of the links.
use Rattle.std.proofs.Common.{◌≡◌, ℕ, ◌<◌, false, List, [], ◌∷◌, ◌++◌, length, Option, Some, None, All, eqb, get_or, set, replicate, drop, slice_get, sym, ap, ◌∙◌, refl, arith, eq-eqb, ne_eqb, inl, inr, subst, subst₂, not, append_assoc}
use Rattle.std.proofs.lemmas.Bool.{cases_Bool, cases_eq, or_parts, eqb-false}
use Rattle.std.proofs.lemmas.List.{get_or-replicate, length-replicate, get_or-set_same, get_or-set_other, length-set}
use Rattle.std.proofs.lemmas.Grind.{get_or_default_zero}
use Rattle.std.proofs.lemmas.List.Elements.{All-nil, All-tail, All-head, All-push}
use Rattle.std.proofs.lemmas.Map.Keys.{IsDistinct-tail}
use Rattle.ram_block.specs.PageLinks.{is_listed, first_or, link_of, walked}
use Rattle.ram_block.proofs.LinkedPages.{head_absent, listed_below, link_of-absent, link_of-present, link_of-at, walked_is}
use Rattle.wp_fault.specs.Links.{IsLinked}
use Rattle.wp_fault.specs.Queue.{queued, IsQueue, QueueData}
use Rattle.wp_fault.proofs.Lists.{link_of-push, last_of-push, last_of-none, last_split, last_absent, last_queued, IsDistinct-nil, IsDistinct-push}

-- the links of a list give that list
pub links_walked : (pages : ℕ) (next : List ℕ) (front last : Option ℕ) (q : List ℕ) → IsLinked pages next front last q → walked front next ≡ q
links_walked pages next front last q k = walked_is pages next front q k.same_length k.links k.begins k.queue.distinct (listed_below pages q k.queue.below)

-- so they are the links of what they give
pub kept : (pages : ℕ) (next : List ℕ) (front last : Option ℕ) (q : List ℕ) → IsLinked pages next front last q → IsLinked pages next front last (walked front next)
kept pages next front last q k = subst (IsLinked pages next front last) (sym (links_walked pages next front last q k)) k

-- links that all have the number of pages are those of the empty list
pub starts : (pages : ℕ) (next : List ℕ) → next ≡ replicate pages pages → IsLinked pages next None None []
starts pages next e = record {
  same_length = ap length e ∙ length-replicate pages pages;
  links = λ p below. rw e (get_or-replicate pages p pages 0 below);
  begins = refl;
  ends = refl;
  queue = record { distinct = IsDistinct-nil; below = All-nil (λ p. p < pages) };
}

-- the queue with a page put last
queue-push : (pages : ℕ) (q : List ℕ) (p : ℕ) → IsQueue (record { pages = pages; list = q }) → p < pages → is_listed q p ≡ false → IsQueue (record { pages = pages; list = q ++ p ∷ [] })
queue-push pages q p k below absent = record {
  distinct = IsDistinct-push q p k.distinct absent;
  below = All-push (λ x. x < pages) q p k.below below;
}

-- a page put into an empty queue
pub pushed_first : (pages : ℕ) (next : List ℕ) (front : Option ℕ) (q : List ℕ) (p : ℕ) → IsLinked pages next front None q → p < pages → is_listed q p ≡ false
    → IsLinked pages (set next p p) (Some p) (Some p) (q ++ p ∷ [])
pushed_first pages next front (a ∷ q) p k below absent = absurd (cc (last_of-none (a ∷ q) (sym k.ends)))
pushed_first pages next front [] p k below absent = record {
  same_length = length-set next p p ∙ k.same_length;
  links = λ x h. elim (cases_eq x p) [
    | inl same ↦ rw (same, eq-eqb p p refl) (get_or-set_same next p p 0 (omega (arith, k.same_length)))
    | inr other ↦ get_or-set_other next p x p 0 other ∙ k.links x h ∙ rw (ne_eqb x p other) refl
  ];
  begins = refl;
  ends = refl;
  queue = queue-push pages [] p k.queue below absent;
}

-- the last of a list of pages is a page
pub last_below : (pages : ℕ) (next : List ℕ) (front : Option ℕ) (l : ℕ) (q : List ℕ) → IsLinked pages next front (Some l) q → l < length next
last_below pages next front l q k =
    let split = last_split q l (sym k.ends) in
    rw k.same_length (listed_below pages q k.queue.below l (rw split.1 (last_queued split.0 l)))

-- the front stays where a page is put behind another
same_front : (q : List ℕ) (l p : ℕ) → slice_get (q ++ l ∷ []) 0 ≡ slice_get (q ++ l ∷ [] ++ p ∷ []) 0
same_front [] l p = refl
same_front (a ∷ q) l p = refl

-- a page put behind the last, which is l
pushed_at : (pages : ℕ) (next : List ℕ) (front : Option ℕ) (q : List ℕ) (l p : ℕ) → IsLinked pages next front (Some l) (q ++ l ∷ []) → p < pages → is_listed (q ++ l ∷ []) p ≡ false
    → IsLinked pages (set (set next l p) p p) front (Some p) (q ++ l ∷ [] ++ p ∷ [])
pushed_at pages next front q l p k below absent =
    let l_below : l < length next = last_below pages next front l (q ++ l ∷ []) k in
    let p_below : p < length (set next l p) = rw (length-set, k.same_length) below in
    record {
      same_length = length-set (set next l p) p p ∙ length-set next l p ∙ k.same_length;
      links = λ x h. elim (cases_eq x p) [
        | inl same ↦ rw same (get_or-set_same (set next l p) p p 0 p_below ∙ sym (link_of-at pages (q ++ l ∷ []) p [] absent))
        | inr other ↦ get_or-set_other (set next l p) p x p 0 other ∙ elim (cases_eq x l) [
          | inl same ↦ rw (same, append_assoc) (get_or-set_same next l p 0 l_below ∙ sym (link_of-at pages q l (p ∷ []) (last_absent q l k.queue.distinct)))
          | inr neither ↦ get_or-set_other next l x p 0 neither ∙ k.links x h ∙ rw append_assoc (sym (link_of-push pages q l p x (ne_eqb x l neither) (ne_eqb x p other)))
        ]
      ];
      begins = k.begins ∙ same_front q l p;
      ends = sym (last_of-push (q ++ l ∷ []) p);
      queue = queue-push pages (q ++ l ∷ []) p k.queue below absent;
    }

-- a page put behind the last
pub pushed : (pages : ℕ) (next : List ℕ) (front : Option ℕ) (l : ℕ) (q : List ℕ) (p : ℕ) → IsLinked pages next front (Some l) q → p < pages → is_listed q p ≡ false
    → IsLinked pages (set (set next l p) p p) front (Some p) (q ++ p ∷ [])
pushed pages next front l q p k below absent =
    let split = last_split q l (sym k.ends) in
    rw split.1 (pushed_at pages next front split.0 l p (rw split.1 at k) below (rw split.1 at absent))

-- the front is a page, and its link is the page behind it
front_link : (pages : ℕ) (next : List ℕ) (p : ℕ) (last : Option ℕ) (r : List ℕ) → IsLinked pages next (Some p) last (p ∷ r) → get_or next p 0 ≡ first_or p r
front_link pages next p last r k = k.links p (All-head (λ x. x < pages) p r k.queue.below) ∙ rw (eq-eqb p p refl) refl

-- without the front's link, the links are those of the rest
rest_links : (pages : ℕ) (next : List ℕ) (p : ℕ) (last : Option ℕ) (r : List ℕ) → IsLinked pages next (Some p) last (p ∷ r) → (x : ℕ) → x < pages → get_or (set next p pages) x 0 ≡ link_of pages r x
rest_links pages next p last r k x h = elim (cases_eq x p) [
  | inl same ↦ rw same (get_or-set_same next p pages 0 (rw k.same_length (rw same at h)) ∙ sym (link_of-absent pages r p (head_absent p r k.queue.distinct)))
  | inr other ↦ get_or-set_other next p x pages 0 other ∙ k.links x h ∙ rw (ne_eqb x p other) refl
]

-- the queue without its front
queue_rest : (pages p : ℕ) (r : List ℕ) → IsQueue (record { pages = pages; list = p ∷ r }) → IsQueue (record { pages = pages; list = r })
queue_rest pages p r k = record {
  distinct = IsDistinct-tail eqb p r k.distinct;
  below = All-tail (λ x. x < pages) p r k.below;
}

-- the only page taken
popped_only : (pages : ℕ) (next : List ℕ) (p : ℕ) (last : Option ℕ) (r : List ℕ) → IsLinked pages next (Some p) last (p ∷ r) → get_or next p 0 ≡ p
    → (p ∷ r ≡ p ∷ []) × IsLinked pages (set next p pages) None None []
popped_only pages next p last (b ∷ s) k e =
    let parts = or_parts (eqb p b) (is_listed s p) (head_absent p (b ∷ s) k.queue.distinct) in
    absurd (eqb-false p b parts.0 (sym e ∙ front_link pages next p last (b ∷ s) k))
popped_only pages next p last [] k e = (
  refl,
  record {
    same_length = length-set next p pages ∙ k.same_length;
    links = rest_links pages next p last [] k;
    begins = refl;
    ends = refl;
    queue = queue_rest pages p [] k.queue;
  },
)

-- the front taken, with a page behind it
popped_more : (pages : ℕ) (next : List ℕ) (p : ℕ) (last : Option ℕ) (r : List ℕ) → IsLinked pages next (Some p) last (p ∷ r) → (get_or next p 0 ≡ p → ⊥)
    → IsLinked pages (set next p pages) (Some (get_or next p 0)) last r
popped_more pages next p last [] k e = absurd (e (front_link pages next p last [] k))
popped_more pages next p last (b ∷ s) k e = record {
  same_length = length-set next p pages ∙ k.same_length;
  links = rest_links pages next p last (b ∷ s) k;
  begins = ap (λ (x : ℕ). Some x) (front_link pages next p last (b ∷ s) k);
  ends = k.ends;
  queue = queue_rest pages p (b ∷ s) k.queue;
}

-- a queue with a front is that front and the rest
pub front_is : (pages : ℕ) (next : List ℕ) (p : ℕ) (last : Option ℕ) (q : List ℕ) → IsLinked pages next (Some p) last q → q ≡ p ∷ drop 1 q
front_is pages next p last [] k = absurd (cc (k.begins))
front_is pages next p last (a ∷ r) k = cc (k.begins)

-- what there is once page p was put last into d
pub record IsPushed (d : QueueData) (p pages : ℕ) (next : List ℕ) (front last : Option ℕ) : Type 0 where
  pub linked : IsLinked pages next front last (walked front next)
  pub same_pages : pages ≡ d.pages
  pub added : walked front next ≡ d.list ++ p ∷ []

module _ (d : QueueData) (p pages : ℕ) (next : List ℕ) (front last : Option ℕ)
    (view_is : ◌≡◌ {A = QueueData} (record { pages = pages; list = walked front next }) d) (k : IsLinked pages next front last (walked front next)) (below : p < d.pages) (absent : is_listed d.list p ≡ false) where
  -- links of the new list are what was made
  made : (next' : List ℕ) (front' : Option ℕ) → IsLinked pages next' front' (Some p) (walked front next ++ p ∷ []) → IsPushed d p pages next' front' (Some p)
  made next' front' m = record {
    linked = kept pages next' front' (Some p) (walked front next ++ p ∷ []) m;
    same_pages = ap (λ (x : QueueData). x.pages) view_is;
    added = links_walked pages next' front' (Some p) (walked front next ++ p ∷ []) m ∙ ap (λ (x : QueueData). x.list ++ p ∷ []) view_is;
  }

  -- the page is below the number of pages
  page_below : p < pages
  page_below = subst (λ (n : ℕ). p < n) (sym (ap (λ (x : QueueData). x.pages) view_is)) below

  -- the page isn't queued
  page_absent : is_listed (walked front next) p ≡ false
  page_absent = ap (λ (x : QueueData). is_listed x.list p) view_is ∙ absent

  -- the page put into an empty queue
  pub pushes_first : last ≡ None → IsPushed d p pages (set next p p) (Some p) (Some p)
  pushes_first e = made (set next p p) (Some p) (pushed_first pages next front (walked front next) p (rw e at k) page_below page_absent)

  -- the page put behind the last
  pub pushes : (l : ℕ) → last ≡ Some l → IsPushed d p pages (set (set next l p) p p) front (Some p)
  pushes l e = made (set (set next l p) p p) front (pushed pages next front l (walked front next) p (rw e at k) page_below page_absent)

-- what contracts see then
pub pushed_view : (d : QueueData) (p pages : ℕ) (next : List ℕ) (front last : Option ℕ) → is_listed d.list p ≡ false → IsPushed d p pages next front last
    → ◌≡◌ {A = QueueData} (record { pages = pages; list = walked front next }) (record { pages = d.pages; list = queued d.list p })
pushed_view d p pages next front last absent k = rw (absent, k.added, k.same_pages) refl

-- what is left once page p was taken from the front of d
pub record IsPopped (d : QueueData) (p pages : ℕ) (next : List ℕ) (front last : Option ℕ) : Type 0 where
  pub linked : IsLinked pages next front last (walked front next)
  pub same_pages : pages ≡ d.pages
  pub taken : d.list ≡ p ∷ walked front next
  pub below : p < d.pages

module _ (d : QueueData) (p after pages : ℕ) (next : List ℕ) (front last : Option ℕ)
    (view_is : ◌≡◌ {A = QueueData} (record { pages = pages; list = walked front next }) d) (k : IsLinked pages next front last (walked front next)) (begins : front ≡ Some p) (link : after ≡ get_or next p after) where
  -- the queue is that of the list of d
  same : IsLinked pages next (Some p) last d.list
  same = subst₂ (λ (o : Option ℕ) (q : List ℕ). IsLinked pages next o last q) begins (ap (λ (x : QueueData). x.list) view_is) k

  -- the list of d is the front and the rest
  split : d.list ≡ p ∷ drop 1 d.list
  split = front_is pages next p last d.list same

  -- the front is a page
  front_below : p < pages
  front_below =
      let below : All (λ x. x < pages) (p ∷ drop 1 d.list) = subst (All (λ x. x < pages)) split same.queue.below in
      All-head (λ x. x < pages) p (drop 1 d.list) below

  -- the front's link, where another default is read
  front_after : get_or next p 0 ≡ after
  front_after = sym (link ∙ get_or_default_zero next p after (rw same.same_length front_below))

  -- the front taken where its link is itself: it was the only page
  pub pops_only : after ≡ p → IsPopped d p pages (set next p pages) None None
  pops_only e =
      let only = popped_only pages next p last (drop 1 d.list) (rw split at same) (front_after ∙ e) in
      record {
        linked = only.1;
        same_pages = ap (λ (x : QueueData). x.pages) view_is;
        taken = split ∙ only.0;
        below = subst (λ (n : ℕ). p < n) (ap (λ (x : QueueData). x.pages) view_is) front_below;
      }

  -- the front taken where its link is another page: that one is the front then
  pub pops : (after ≡ p → ⊥) → IsPopped d p pages (set next p pages) (Some after) last
  pops e =
      let more : IsLinked pages (set next p pages) (Some after) last (drop 1 d.list) = rw front_after at (popped_more pages next p last (drop 1 d.list) (rw split at same) (λ h. e (sym front_after ∙ h))) in
      record {
        linked = kept pages (set next p pages) (Some after) last (drop 1 d.list) more;
        same_pages = ap (λ (x : QueueData). x.pages) view_is;
        taken = split ∙ ap (λ (q : List ℕ). p ∷ q) (sym (links_walked pages (set next p pages) (Some after) last (drop 1 d.list) more));
        below = subst (λ (n : ℕ). p < n) (ap (λ (x : QueueData). x.pages) view_is) front_below;
      }

-- what contracts see then
pub popped_view : (d : QueueData) (p pages : ℕ) (next : List ℕ) (front last : Option ℕ) → IsPopped d p pages next front last
    → ◌≡◌ {A = QueueData} (record { pages = pages; list = walked front next }) (record { pages = d.pages; list = drop 1 d.list })
popped_view d p pages next front last k = rw (k.taken, k.same_pages) refl

-- a page's link tells whether it is queued
pub tells : (pages : ℕ) (next : List ℕ) (front last : Option ℕ) (q : List ℕ) (p : ℕ) → IsLinked pages next front last q → p < pages → not (eqb (get_or next p 0) pages) ≡ is_listed q p
tells pages next front last q p k below = elim (cases_Bool (is_listed q p)) [
  | inl queued ↦
      let page : link_of pages q p < pages = link_of-present pages q p (listed_below pages q k.queue.below) queued in
      let other : link_of pages q p ≡ pages → ⊥ = λ same. omega arith in
      rw (queued, k.links p below, ne_eqb (link_of pages q p) pages other) refl
  | inr absent ↦ rw (absent, k.links p below, link_of-absent pages q p absent, eq-eqb pages pages refl) refl
]
