-- Each move keeps the rule of the queue.
use Rattle.std.proofs.Common.{◌≡◌, ◌≢◌, ℕ, zero, suc, true, false, List, [], ◌∷◌, ◌++◌, length, All, set, sym, refl, ap, ◌∙◌, subst, ⊎_elim, append_assoc, Option, Some, None, IfSome, nat_eq}
use Rattle.std.proofs.lemmas.List.Elements.{All-nil, All-cons, All-head, All-tail, All-push, All-from_recursion, recursion_from_All}
use Rattle.std.specs.List.{IsDistinct}
use mathlib.Core.Option.{some, some-ne-none}
use lib.ListN.{get_elem?}
use Rattle.crossbeam_queue.specs.Fifo.{Pushes, Pops, Learns}
use Rattle.crossbeam_queue.proofs.Lists.{at_set}
use Rattle.write_pipe.specs.declared.filled.Filled.{Filled}
use Rattle.write_pipe.specs.declared.rule.Log.{Log}
use Rattle.write_pipe.specs.Rule.{log, pages_in, Nothing, IsSent, IsPageOf, IsGot, Fits, Relayed}

module _ {P : Type 0} where
  pub at_end : (l : List (Log P)) (a b : Log P) (j : ℕ) → get_elem? l j ≢ some b → get_elem? (l ++ a ∷ []) j ≡ some b → j ≡ length l
  at_end [] a b zero n e = refl
  at_end [] a b (suc j) n e = absurd (some-ne-none b (sym e))
  at_end (x ∷ xs) a b zero n e = absurd (n e)
  at_end (x ∷ xs) a b (suc j) n e = ap suc (at_end xs a b j n e)

  abbrev pub Each : (ℕ → Log P → Type 0) → List (Log P) → Type 0
  Each F views = (port : ℕ) (v : Log P) → get_elem? views port ≡ some v → F port v

  pub each_set : (F : ℕ → Log P → Type 0) (views : List (Log P)) (port : ℕ) (w : Log P) → F port w → ((j : ℕ) (u : Log P) → j ≢ port → get_elem? views j ≡ some u → F j u) → Each F (set views port w)
  each_set F views port w mine others j u e = ⊎_elim (λ (x : (j ≡ port) × (w ≡ u)). subst (λ (y : ℕ × Log P). F y.0 y.1) (λ i. (sym x.0 i, x.1 i)) mine)
      (λ (x : (j ≢ port) × (get_elem? views j ≡ some u)). others j u x.0 x.1) (at_set views port j w u e)

  pub learns_nothing : (holds : List (Filled P) → List (Log P) → Type 0) (port : ℕ) (v : Log P) → Learns holds port v (Nothing v)
  learns_nothing holds port v items views h at = tt

  -- the pages of one buffer more
  pub pages_more : (got : List (Filled P)) (x : Filled P) → pages_in (got ++ x ∷ []) ≡ pages_in got ++ x.page ∷ []
  pages_more [] x = refl
  pages_more (y ∷ got) x = ap (λ l. y.page ∷ l) (pages_more got x)

  pages_both : (xs ys : List (Filled P)) → pages_in (xs ++ ys) ≡ pages_in xs ++ pages_in ys
  pages_both [] ys = refl
  pages_both (x ∷ xs) ys = ap (λ l. x.page ∷ l) (pages_both xs ys)

-- what holds of all of a list holds of its front
all_front : {X : Type 0} (F : X → Type 0) (xs ys : List X) → All F (xs ++ ys) → All F xs
all_front F [] ys all = All-nil F
all_front F (x ∷ xs) ys all = All-cons F x xs (All-head F x (xs ++ ys) all) (all_front F xs ys (All-tail F x (xs ++ ys) all))

-- and of the member behind the front
pub all_within : {X : Type 0} (F : X → Type 0) (xs : List X) (x : X) (ys : List X) → All F (xs ++ x ∷ ys) → F x
all_within F [] x ys all = All-head F x ys all
all_within F (y ∷ xs) x ys all = all_within F xs x ys (All-tail F y (xs ++ x ∷ ys) all)

-- no member of the front stands twice in it
distinct_front : (xs ys : List ℕ) → IsDistinct nat_eq (xs ++ ys) → IsDistinct nat_eq xs
unfolding IsDistinct
distinct_front [] ys once = tt
distinct_front (x ∷ xs) ys once = (
  recursion_from_All (λ y. nat_eq x y ≡ false) xs (all_front (λ y. nat_eq x y ≡ false) xs ys (All-from_recursion (λ y. nat_eq x y ≡ false) (xs ++ ys) once.0)),
  distinct_front xs ys once.1,
)

module _ {P : Type 0} (total : P → ℕ) (stands : P → List (List ℕ) → Type 0) where
  -- the buffer that comes out is that of a page, once the plant is known
  page_at : (mine from : Option P) (x : Filled P) (got items sent : List (Filled P)) → mine ≡ from → sent ≡ got ++ x ∷ items →
      IfSome from (λ plant. All (IsPageOf total stands plant) sent) → IfSome mine (λ plant. IsPageOf total stands plant x)
  page_at None from x got items sent same order pages = tt
  page_at (Some plant) from x got items sent same order pages =
      let all : All (IsPageOf total stands plant) (got ++ x ∷ items) = subst (All (IsPageOf total stands plant)) order
      (subst (λ f. IfSome f (λ plant. All (IsPageOf total stands plant) sent)) (sym same) pages) in
      all_within (IsPageOf total stands plant) got x items all

  pub gets : (port : ℕ) (v : Log P) → v.pops ≡ true → Pops (Relayed total stands) port v (IsGot total stands v)
  gets port v may x items views h at =
      let w : Log P = log v.pushes v.pops v.from v.sent (v.got ++ x ∷ []) in
      let mine = h.views port v at in
      let same : v.got ≡ h.got = (mine.pops may).2 in
      let got : List (Filled P) = h.got ++ x ∷ [] in
      let order : h.sent ≡ got ++ items = h.order ∙ sym (append_assoc h.got (x ∷ []) items) in (
        w,
        record {
          writer = h.writer;
          reader = h.reader;
          from = h.from;
          sent = h.sent;
          got = got;
          order = order;
          pages = h.pages;
          once = h.once;
          views = each_set (Fits total stands h.writer h.reader h.from h.sent got) views port w
              (record { pushes = mine.pushes; pops = λ _. ((mine.pops may).0, (mine.pops may).1, ap (λ l. l ++ x ∷ []) same) })
              (λ j u other e. record { pushes = (h.views j u e).pushes; pops = λ p. absurd (other (((h.views j u e).pops p).0 ∙ sym (mine.pops may).0)) });
        },
        record {
          log = refl;
          page = page_at v.from h.from x h.got items h.sent (mine.pops may).1 h.order h.pages;
          once = subst (λ (l : List (Filled P)). IsDistinct nat_eq (pages_in (l ++ x ∷ []))) (sym same)
              (distinct_front (pages_in got) (pages_in items) (subst (IsDistinct nat_eq) (ap pages_in order ∙ pages_both got items) h.once));
        },
      )

  -- every buffer that went in is that of a page, with the one that goes in now
  all_sent : (from : Option P) (sent : List (Filled P)) (x : Filled P) → IfSome from (λ plant. All (IsPageOf total stands plant) sent) →
      IfSome from (λ plant. IsPageOf total stands plant x) → IfSome from (λ plant. All (IsPageOf total stands plant) (sent ++ x ∷ []))
  all_sent None sent x all page = tt
  all_sent (Some plant) sent x all page = All-push (IsPageOf total stands plant) sent x all page

  pub sends : (n port : ℕ) (v : Log P) (x : Filled P) → v.pushes ≡ true → IfSome v.from (λ plant. IsPageOf total stands plant x) → IsDistinct nat_eq (pages_in (v.sent ++ x ∷ [])) →
      Pushes (Relayed total stands) n port v x (IsSent v x)
  sends n port v x may page once items views room h at =
      let w : Log P = log v.pushes v.pops v.from (v.sent ++ x ∷ []) v.got in
      let mine = h.views port v at in
      let same : v.sent ≡ h.sent = (mine.pushes may).2 in
      let from : v.from ≡ h.from = (mine.pushes may).1 in
      let sent : List (Filled P) = h.sent ++ x ∷ [] in (
        w,
        record {
          writer = h.writer;
          reader = h.reader;
          from = h.from;
          sent = sent;
          got = h.got;
          order = ap (λ l. l ++ x ∷ []) h.order ∙ append_assoc h.got items (x ∷ []);
          pages = all_sent h.from h.sent x h.pages (subst (λ (f : Option P). IfSome f (λ plant. IsPageOf total stands plant x)) from page);
          once = subst (λ (l : List (Filled P)). IsDistinct nat_eq (pages_in (l ++ x ∷ []))) same once;
          views = each_set (Fits total stands h.writer h.reader h.from sent h.got) views port w
              (record { pushes = λ _. ((mine.pushes may).0, from, ap (λ l. l ++ x ∷ []) same); pops = mine.pops })
              (λ j u other e. record { pushes = λ p. absurd (other (((h.views j u e).pushes p).0 ∙ sym (mine.pushes may).0)); pops = (h.views j u e).pops });
        },
        refl,
      )
