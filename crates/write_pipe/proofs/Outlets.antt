-- What a buffer that came out means for the end at which it came out.
use Rattle.std.proofs.Common.{◌≡◌, ℕ, suc, ◌+◌, ◌<◌, ◌≤◌, List, [], ◌∷◌, ◌++◌, length, All, Some, IfSome, nat_eq, refl, sym, ap, ◌∙◌, subst, arith}
use Rattle.std.proofs.lemmas.List.{length-append}
use Rattle.std.proofs.lemmas.List.Elements.{All-push}
use Rattle.std.proofs.lemmas.Map.Steps.{length-le_from_distinct_below}
use Rattle.std.specs.List.{IsDistinct}
use Rattle.crossbeam_queue.specs.Passes.{view, IsSamePass, Pass}
use Rattle.ram_block.proofs.LinkedPages.{listed_below}
use Rattle.write_pipe.specs.declared.filled.Filled.{Filled}
use Rattle.write_pipe.specs.declared.rule.Log.{Log}
use Rattle.write_pipe.specs.declared.outlet.Outlet.TheInside as outlet
use Rattle.write_pipe.specs.Rule.{pages_in, IsPageOf, IsGot}
use Rattle.atomic_table.specs.Seated.{TableId}
use Rattle.write_pipe.specs.Outlet.{OutletData, IsOutlet, IsOutletInside, LeavesNext, outlet_of}
use Rattle.write_pipe.proofs.Rules.{pages_more}

module _ {P : Type 0} where
  -- there are as many pages as buffers
  pub length_pages : (l : List (Filled P)) → length (pages_in l) ≡ length l
  length_pages [] = refl
  length_pages (x ∷ l) = ap suc (length_pages l)

module _ {P : Type 0} (total : P → ℕ) (stands : P → List (List ℕ) → Type 0) where
  -- the pages that came out, with the one that came out now
  pages_now : (v : Log P) (x : Filled P) (w : Log P) → IsGot total stands v x w → pages_in w.got ≡ pages_in v.got ++ x.page ∷ []
  pages_now v x w got = ap (λ (l : Log P). pages_in l.got) got.log ∙ pages_more v.got x

module _ {P R : Type 0} (total : P → ℕ) (stands : P → List (List ℕ) → Type 0) where
  -- it is one that there is, with its bytes
  pub page_now : (s : outlet.Inside P R) (x : Filled P) (w : Log P) → IsOutletInside total stands s → IsGot total stands (view s.pass) x w → IsPageOf total stands s.from.value x
  page_now s x w inside got = subst (λ f. IfSome f (λ plant. IsPageOf total stands plant x)) inside.known got.page

  -- each came out once, and is one that there is
  pub outlet_now : (s : outlet.Inside P R) (x : Filled P) (w : Log P) (d : OutletData P) → IsOutletInside total stands s → IsGot total stands (view s.pass) x w →
      d.from ≡ s.from.value → d.out ≡ pages_in w.got → IsOutlet total stands d
  outlet_now s x w d inside got from out =
      let now : pages_in w.got ≡ pages_in (view s.pass).got ++ x.page ∷ [] = pages_now total stands (view s.pass) x w got in
      record {
        once = subst (IsDistinct nat_eq) (sym out) (subst (λ (l : Log P). IsDistinct nat_eq (pages_in l.got)) (sym got.log) got.once);
        below = subst (λ (f : P). All (λ p. p < total f) d.out) (sym from) (subst (All (λ p. p < total s.from.value)) (sym (out ∙ now))
            (All-push (λ p. p < total s.from.value) (pages_in (view s.pass).got) x.page inside.outlet.below (page_now s x w inside got).page));
      }

  -- so many pages have come out, at most as many as there are
  pub count_now : (s : outlet.Inside P R) (x : Filled P) (w : Log P) → IsOutletInside total stands s → IsGot total stands (view s.pass) x w → length w.got ≤ total s.from.value
  count_now s x w inside got =
      let d : OutletData P = record { from = s.from.value; queue = s.pass.table_id; out = pages_in w.got; found_empty = s.found_empty } in
      let is : IsOutlet total stands d = outlet_now s x w d inside got refl refl in
      subst (λ n. n ≤ total s.from.value) (length_pages w.got)
      (length-le_from_distinct_below (pages_in w.got) (total s.from.value) is.once (listed_below (total s.from.value) (pages_in w.got) is.below))

  -- so one page more can be counted
  pub count_one : (s : outlet.Inside P R) (x : Filled P) (w : Log P) → IsOutletInside total stands s → IsGot total stands (view s.pass) x w → s.come + 1 ≤ s.pages
  count_one s x w inside got =
      let most : length w.got ≤ total s.from.value = count_now s x w inside got in
      let more : length w.got ≡ length ((view s.pass).got ++ x ∷ []) = ap (λ (l : Log P). length l.got) got.log in
      let one : length ((view s.pass).got ++ x ∷ []) ≡ length (view s.pass).got + 1 = length-append (view s.pass).got (x ∷ []) in
      omega (arith, most, more, one, inside.pages, inside.come)

  -- the end, with the buffer that came out
  abbrev pub with_one : outlet.Inside P R → Pass (Filled P) (Log P) → outlet.Inside P R
  with_one s pass = record s { pass = pass; come = s.come + 1 }

  pub invariant_now : (s : outlet.Inside P R) (pass : Pass (Filled P) (Log P)) (x : Filled P) → IsOutletInside total stands s → IsSamePass s.pass pass →
      IsGot total stands (view s.pass) x (view pass) → IsOutletInside total stands (with_one s pass)
  invariant_now s pass x inside same got = record {
    outlet = outlet_now s x (view pass) (outlet_of (with_one s pass)) inside got refl refl;
    pass = (same.0 ∙ inside.pass.0, same.2 ∙ inside.pass.1);
    pops = ap (λ (l : Log P). l.pops) got.log ∙ inside.pops;
    known = ap (λ (l : Log P). l.from) got.log ∙ inside.known;
    pages = inside.pages;
    come =
        let more : length (view pass).got ≡ length ((view s.pass).got ++ x ∷ []) = ap (λ (l : Log P). length l.got) got.log in
        let one : length ((view s.pass).got ++ x ∷ []) ≡ length (view s.pass).got + 1 = length-append (view s.pass).got (x ∷ []) in
        omega (arith, more, one, inside.come);
  }

  pub next_now : (s : outlet.Inside P R) (pass : Pass (Filled P) (Log P)) (x : Filled P) → IsOutletInside total stands s → IsSamePass s.pass pass →
      IsGot total stands (view s.pass) x (view pass) → LeavesNext total stands (outlet_of s) (Some (record { page = x.page; bytes = x.bytes })) (outlet_of (with_one s pass))
  next_now s pass x inside same got =
      let page : IsPageOf total stands s.from.value x = page_now s x (view pass) inside got in (
        ap (λ (q : TableId × List ℕ). record { from = s.from.value; queue = q.0; out = q.1; found_empty = s.found_empty }) (λ i. (same.0 i, pages_now total stands (view s.pass) x (view pass) got i)),
        page.page,
        page.bytes,
      )

  -- the same, where the end shows this
  pub next_from : (s : outlet.Inside P R) (pass : Pass (Filled P) (Log P)) (x : Filled P) (d : OutletData P) → outlet_of s ≡ d → IsOutletInside total stands s →
      IsSamePass s.pass pass → IsGot total stands (view s.pass) x (view pass) → LeavesNext total stands d (Some (record { page = x.page; bytes = x.bytes })) (outlet_of (with_one s pass))
  next_from s pass x d is inside same got =
      subst (λ (old : OutletData P). LeavesNext total stands old (Some (record { page = x.page; bytes = x.bytes })) (outlet_of (with_one s pass))) is
      (next_now s pass x inside same got)
