use Rattle.std.proofs.Common.{◌<◌, ℕ, Option, sym, subst, ap, ◌∙◌}
use Rattle.std.specs.Option.{unwrap_or}
use Rattle.std.proofs.lemmas.Option.{unwrap_or-slice_get}
use Rattle.order_log.proofs.Named.{below_most}
use Rattle.order_log.proofs.members.member.Goals as goal

pub returns-clause-value : goal.returns-clause-value
returns-clause-value c = c.unwrap_or.ensures ∙ ap (λ (k : Option ℕ). unwrap_or k 0) c.get.ensures ∙ unwrap_or-slice_get c.args.order.now.members c.args.place 0

pub returns-clause-below : goal.returns-clause-below
returns-clause-below c = λ most some all.
    subst (λ (k : ℕ). k < most) (sym (c.unwrap_or.ensures ∙ ap (λ (k : Option ℕ). unwrap_or k 0) c.get.ensures ∙ unwrap_or-slice_get c.args.order.now.members c.args.place 0))
    (below_most c.args.order.now.members c.args.place most some all)
