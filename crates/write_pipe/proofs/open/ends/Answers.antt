use Rattle.std.proofs.Common.{Some, [], true, false, refl, sym, ap, ◌∙◌, subst}
use Rattle.crossbeam_queue.specs.Passes.{view, IsPassOf}
use Rattle.write_pipe.specs.Rule.{log}
use Rattle.write_pipe.specs.declared.rule.Log.{Log}
use Rattle.write_pipe.proofs.Openings.{forks, new_inlet, new_outlet}
use Rattle.write_pipe.proofs.open.ends.Goals as goal

pub another-reader-requires-clause-rule : goal.another-reader-requires-clause-rule
another-reader-requires-clause-rule g c =
    forks g.P.Plant.total g.P.Plant.stands _ (view c.in_ok-queue.writer) (ap (λ (l : Log _). l.pushes) c.in_ok-queue.ensures.known) (ap (λ (l : Log _). l.pops) c.in_ok-queue.ensures.known)

pub invariant_of-inlet : goal.invariant_of-inlet
invariant_of-inlet g c =
    let same = c.another-reader.ensures.queue.0 in
    new_inlet g.P.Plant.total g.P.Plant.stands _
    (subst (λ q. IsPassOf q c.another-reader.new.pass) (sym c.in_ok-queue-2.ensures.ok) (same.0 ∙ c.in_ok-queue.ensures.pass.0, same.2 ∙ c.in_ok-queue.ensures.pass.1))
    (c.another-reader.ensures.rule.0 ∙ ap (λ (l : Log _). log true false l.from l.sent []) c.in_ok-queue.ensures.known ∙ ap (λ p. log true false (Some p) [] []) (sym c.of.ensures))

pub invariant_of-outlet : goal.invariant_of-outlet
invariant_of-outlet g c =
    new_outlet g.P.Plant.total g.P.Plant.stands _
    (subst (λ q. IsPassOf q c.another-reader.result) (sym (c.in_ok-other.ensures ∙ c.in_ok-queue-2.ensures.ok)) c.another-reader.ensures.queue.1)
    (c.another-reader.ensures.rule.1 ∙ ap (λ (l : Log _). log false true l.from [] l.got) c.in_ok-queue.ensures.known ∙ ap (λ p. log false true (Some p) [] []) (sym c.of-2.ensures))
    (c.requires.pages ∙ ap g.P.Plant.total (sym c.of-2.ensures)) refl
