-- How the queue begins: one buffer goes through it that tells the plant, and then the pass is split in two.
use Rattle.std.proofs.Common.{◌≡◌, ◌≢◌, ℕ, ◌<◌, true, false, true≢false, List, [], ◌∷◌, ◌++◌, length, All, set, sym, refl, ap, ◌∙◌, subst, drop, ⊎_elim, Option, Some, None, IfSome, nat_eq}
use Rattle.std.specs.List.{IsDistinct}
use Rattle.std.proofs.lemmas.List.Elements.{All-nil}
use mathlib.Core.Option.{some-ne-none}
use Rattle.crossbeam_queue.specs.Fifo.{Forks, Pops, Pushes}
use Rattle.crossbeam_queue.specs.Passes.{view, IsPassOf}
use Rattle.crossbeam_queue.proofs.Lists.{at_snoc}
use Rattle.std.specs.Arc.{arc_value}
use Rattle.write_pipe.specs.declared.filled.Filled.{Filled}
use Rattle.write_pipe.specs.declared.rule.Log.{Log}
use Rattle.write_pipe.specs.Rule.{log, pages_in, plant_in, IsOpened, IsPageOf, IsSent, Fits, Relayed}
use Rattle.write_pipe.specs.Inlet.{IsInletInside}
use Rattle.write_pipe.specs.Outlet.{IsOutletInside}
use Rattle.write_pipe.specs.declared.inlet.Inlet.TheInside as inlet
use Rattle.write_pipe.specs.declared.outlet.Outlet.TheInside as outlet
use Rattle.write_pipe.proofs.Rules.{Each, each_set, at_end, sends}

-- no page stands twice among none
none_twice : IsDistinct nat_eq []
unfolding IsDistinct
none_twice = tt

abbrev first_or : {X : Type 0} → X → List X → X
first_or a [] = a
first_or a (x ∷ xs) = x

module _ {P : Type 0} (total : P → ℕ) (stands : P → List (List ℕ) → Type 0) where
  no_pages : (from : Option P) → IfSome from (λ plant. All (IsPageOf total stands plant) [])
  no_pages None = tt
  no_pages (Some plant) = All-nil (IsPageOf total stands plant)

  -- an empty queue with one pass
  pub begins : Relayed total stands [] (log true true None [] [] ∷ [])
  begins = record {
    writer = 0;
    reader = 0;
    from = None;
    sent = [];
    got = [];
    order = refl;
    pages = tt;
    once = none_twice;
    views = each_set (Fits total stands 0 0 None [] []) (log true true None [] [] ∷ []) 0 (log true true None [] [])
        (record { pushes = λ _. (refl, refl, refl); pops = λ _. (refl, refl, refl) })
        (λ j u other e. absurd (other (at_end [] (log true true None [] []) u j (λ x. some-ne-none u (sym x)) e)));
  }

  -- the one buffer that went in comes out
  pub opens : (port : ℕ) (v : Log P) (sole : Filled P) → v.pushes ≡ true → v.pops ≡ true → v.sent ≡ sole ∷ [] → v.got ≡ [] → Pops (Relayed total stands) port v (IsOpened v)
  opens port v sole a b one none x items views h at =
      let w : Log P = log v.pushes v.pops (plant_in x) [] [] in
      let mine = h.views port v at in
      let order : sole ∷ [] ≡ x ∷ items = sym one ∙ (mine.pushes a).2 ∙ h.order ∙ ap (λ l. l ++ x ∷ items) (sym (mine.pops b).2 ∙ none) in
      let left : [] ≡ items = ap (drop 1) order in
      let same : sole ≡ x = ap (first_or sole) order in (
        w,
        subst (λ (l : List (Filled P)). Relayed total stands l (set views port w)) left (record {
          writer = h.writer;
          reader = h.reader;
          from = plant_in x;
          sent = [];
          got = [];
          order = refl;
          pages = no_pages (plant_in x);
          once = none_twice;
          views = each_set (Fits total stands h.writer h.reader (plant_in x) [] []) views port w
              (record { pushes = λ _. ((mine.pushes a).0, refl, refl); pops = λ _. ((mine.pops b).0, refl, refl) })
              (λ j u other e. record {
                pushes = λ p. absurd (other (((h.views j u e).pushes p).0 ∙ sym (mine.pushes a).0));
                pops = λ p. absurd (other (((h.views j u e).pops p).0 ∙ sym (mine.pops b).0));
              });
        }),
        record { sole = one ∙ ap (λ (y : Filled P). y ∷ []) same; known = refl },
      )

  -- one pass pushes from now on, and another pops
  pub forks : (port : ℕ) (v : Log P) → v.pushes ≡ true → v.pops ≡ true → Forks (Relayed total stands) port v (log true false v.from v.sent []) (log false true v.from [] v.got)
  forks port v a b items views h at =
      let l : Log P = log true false v.from v.sent [] in
      let r : Log P = log false true v.from [] v.got in
      let mine = h.views port v at in
      let vs : List (Log P) = set views port l in
      let Old : ℕ → Log P → Type 0 = λ j u. (u.pushes ≡ true → (j ≡ h.writer) × (u.from ≡ h.from) × (u.sent ≡ h.sent)) × (u.pops ≢ true) in
      let old : Each Old vs = each_set Old views port l ((λ _. mine.pushes a), λ p. true≢false (sym p))
      (λ j u other e. ((h.views j u e).pushes, λ p. other (((h.views j u e).pops p).0 ∙ sym (mine.pops b).0))) in
      record {
        writer = h.writer;
        reader = length vs;
        from = h.from;
        sent = h.sent;
        got = h.got;
        order = h.order;
        pages = h.pages;
        once = h.once;
        views = λ j u e. ⊎_elim
            (λ x. record { pushes = (old j u x).0; pops = λ p. absurd ((old j u x).1 p) })
            (λ (is : r ≡ u). record {
              pushes = λ p. absurd (true≢false (sym (ap (λ (y : Log P). y.pushes) is ∙ p)));
              pops = λ p. (at_end vs r u j (λ x. (old j u x).1 p) e, ap (λ (y : Log P). y.from) (sym is) ∙ (mine.pops b).1, ap (λ (y : Log P). y.got) (sym is) ∙ (mine.pops b).2);
            })
            (at_snoc vs r u j e);
      }

  one_once : (p : ℕ) → IsDistinct nat_eq (p ∷ [])
  unfolding IsDistinct
  one_once p = (tt, tt)

  -- a buffer may go in before the plant is known
  pub goes_first : (n port : ℕ) (v : Log P) (x : Filled P) → v ≡ log true true None [] [] → Pushes (Relayed total stands) n port v x (IsSent v x)
  goes_first n port v x is =
      sends total stands n port v x (ap (λ (l : Log P). l.pushes) is)
      (subst (λ (l : Log P). IfSome l.from (λ plant. IsPageOf total stands plant x)) (sym is) tt)
      (subst (λ (l : Log P). IsDistinct nat_eq (pages_in (l.sent ++ x ∷ []))) (sym is) (one_once x.page))

  -- and comes out again
  pub comes_out : (port : ℕ) (u v : Log P) (x : Filled P) → u ≡ log true true None [] [] → IsSent u x v → Pops (Relayed total stands) port v (IsOpened v)
  comes_out port u v x is sent =
      opens port v x (ap (λ (l : Log P). l.pushes) sent ∙ ap (λ (l : Log P). l.pushes) is) (ap (λ (l : Log P). l.pops) sent ∙ ap (λ (l : Log P). l.pops) is)
      (ap (λ (l : Log P). l.sent) sent ∙ ap (λ (l : Log P). l.sent ++ x ∷ []) is) (ap (λ (l : Log P). l.got) sent ∙ ap (λ (l : Log P). l.got) is)

module _ {P R : Type 0} (total : P → ℕ) (stands : P → List (List ℕ) → Type 0) where
  -- no page has gone in
  pub new_inlet : (s : inlet.Inside P R) → IsPassOf (arc_value s.queue) s.pass → view s.pass ≡ log true false (Some s.from.value) [] [] → IsInletInside total stands s
  new_inlet s pass is = record {
    inlet = record {
      once = subst (λ (l : Log P). IsDistinct nat_eq (pages_in l.sent)) (sym is) none_twice;
      below = subst (λ (l : Log P). All (λ p. p < total s.from.value) (pages_in l.sent)) (sym is) (All-nil (λ p. p < total s.from.value));
    };
    pass = pass;
    pushes = ap (λ (l : Log P). l.pushes) is;
    known = ap (λ (l : Log P). l.from) is;
  }

  -- no page has come out
  pub new_outlet : (s : outlet.Inside P R) → IsPassOf (arc_value s.queue) s.pass → view s.pass ≡ log false true (Some s.from.value) [] [] → s.pages ≡ total s.from.value → s.come ≡ 0 →
      IsOutletInside total stands s
  new_outlet s pass is pages come = record {
    outlet = record {
      once = subst (λ (l : Log P). IsDistinct nat_eq (pages_in l.got)) (sym is) none_twice;
      below = subst (λ (l : Log P). All (λ p. p < total s.from.value) (pages_in l.got)) (sym is) (All-nil (λ p. p < total s.from.value));
    };
    pass = pass;
    pops = ap (λ (l : Log P). l.pops) is;
    known = ap (λ (l : Log P). l.from) is;
    pages = pages;
    come = come ∙ sym (ap (λ (l : Log P). length l.got) is);
  }
