-- What a buffer that goes in means for the end at which it goes in.
use Rattle.std.proofs.Common.{◌≡◌, ℕ, ◌<◌, false, List, [], ◌∷◌, ◌++◌, All, IfSome, nat_eq, sym, ap, ◌∙◌, subst}
use Rattle.std.proofs.lemmas.List.Elements.{All-push}
use Rattle.std.proofs.lemmas.Map.Keys.{IsDistinct-push}
use Rattle.std.specs.Cmp.{nat_eq_equiv}
use Rattle.std.specs.List.{IsDistinct}
use Rattle.crossbeam_queue.specs.Fifo.{Pushes}
use Rattle.crossbeam_queue.specs.Passes.{view, IsSamePass, Pass}
use Rattle.ram_block.specs.PageLinks.{is_listed}
use Rattle.write_pipe.specs.declared.filled.Filled.{Filled}
use Rattle.write_pipe.specs.declared.rule.Log.{Log}
use Rattle.write_pipe.specs.declared.inlet.Inlet.TheInside as inlet
use Rattle.write_pipe.specs.Rule.{pages_in, AreBytesOf, IsPageOf, IsSent, Relayed}
use Rattle.write_pipe.specs.Inlet.{InletData, IsInletInside, inlet_of}
use Rattle.write_pipe.proofs.Rules.{pages_more, sends}

module _ {P R : Type 0} (total : P → ℕ) (stands : P → List (List ℕ) → Type 0) where
  -- the page that goes in went in never before
  once_more : (s : inlet.Inside P R) (x : Filled P) → IsInletInside total stands s → is_listed (inlet_of s).sent x.page ≡ false → IsDistinct nat_eq (pages_in ((view s.pass).sent ++ x ∷ []))
  once_more s x inside first = subst (IsDistinct nat_eq) (sym (pages_more (view s.pass).sent x))
      (IsDistinct-push nat_eq_equiv (pages_in (view s.pass).sent) x.page inside.inlet.once first)

  -- so it may go in
  pub may_send : (n : ℕ) (s : inlet.Inside P R) (x : Filled P) (d : InletData P) → inlet_of s ≡ d → IsInletInside total stands s → x.page < total d.from →
      is_listed d.sent x.page ≡ false → AreBytesOf total stands d.from x.page x.bytes → Pushes (Relayed total stands) n s.pass.id (view s.pass) x (IsSent (view s.pass) x)
  may_send n s x d is inside page first bytes =
      let now : IsPageOf total stands s.from.value x = subst (λ (e : InletData P). IsPageOf total stands e.from x) (sym is) (record { page = page; bytes = bytes }) in
      sends total stands n s.pass.id (view s.pass) x inside.pushes
      (subst (λ f. IfSome f (λ plant. IsPageOf total stands plant x)) (sym inside.known) now)
      (once_more s x inside (subst (λ (e : InletData P). is_listed e.sent x.page ≡ false) (sym is) first))

  -- the end, with the buffer that went in
  pub sent_now : (s : inlet.Inside P R) (pass : Pass (Filled P) (Log P)) (x : Filled P) (d : InletData P) → inlet_of s ≡ d → IsInletInside total stands s → IsSamePass s.pass pass →
      IsSent (view s.pass) x (view pass) → x.page < total d.from → is_listed d.sent x.page ≡ false → IsInletInside total stands (record s { pass = pass })
  sent_now s pass x d is inside same sent page first =
      let now : pages_in (view pass).sent ≡ pages_in (view s.pass).sent ++ x.page ∷ [] = ap (λ (l : Log P). pages_in l.sent) sent ∙ pages_more (view s.pass).sent x in
      let within : x.page < total s.from.value = subst (λ (e : InletData P). x.page < total e.from) (sym is) page in
      record {
        inlet = record {
          once = subst (λ (l : Log P). IsDistinct nat_eq (pages_in l.sent)) (sym sent)
              (once_more s x inside (subst (λ (e : InletData P). is_listed e.sent x.page ≡ false) (sym is) first));
          below = subst (All (λ p. p < total s.from.value)) (sym now) (All-push (λ p. p < total s.from.value) (pages_in (view s.pass).sent) x.page inside.inlet.below within);
        };
        pass = (same.0 ∙ inside.pass.0, same.2 ∙ inside.pass.1);
        pushes = ap (λ (l : Log P). l.pushes) sent ∙ inside.pushes;
        known = ap (λ (l : Log P). l.from) sent ∙ inside.known;
      }
