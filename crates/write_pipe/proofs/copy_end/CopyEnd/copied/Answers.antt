-- A page less is left, and one more is counted.
use Rattle.std.proofs.Common.{◌≡◌, ◌<◌, None, false, true, sym, ap, subst, ◌∙◌}
use Rattle.ram_block.specs.PageLinks.{is_listed}
use Rattle.page_sweep.specs.Sweep.{SweepData}
use Rattle.bg_saver.proofs.Limits.{swept}
use Rattle.write_pipe.specs.CopyEnd.{copy_end_of, without_page}
use Rattle.write_pipe.proofs.CopyEnds.{copied_limits, not_sent, same_end}
use Rattle.write_pipe.proofs.copy_end.CopyEnd.copied.Goals as goal

pub invariant_of-self : goal.invariant_of-self
invariant_of-self g c =
    let total = g.P.Plant.total in
    let stands = g.P.Plant.stands in
    let d = copy_end_of c.self.inside in
    let p = c.args.taken.page in
    let page : p < total d.inlet.from = subst (λ x. p < total x.inlet.from) (sym c.self.view_is) c.requires.page in
    let here : is_listed d.left p ≡ true = subst (λ x. is_listed x.left p ≡ true) (sym c.self.view_is) c.requires.left in
    let none : d.hand ≡ None = ap (λ x. x.hand) c.self.view_is ∙ c.requires.none in
    let sweep = swept (total d.inlet.from) c.self.inside.sweep c.remove.new.self p (c.self.invariant.swept ∙ c.self.invariant.pages) c.remove.ensures.sweep c.remove.ensures.kept in
    let is = copied_limits total stands d p c.self.invariant.end none page here sweep c.args.taken.picked in
    let end = same_end total stands (without_page d c.args.taken) c.remove.new.self.list c.count.new.counts c.count.new.faulted.items is (ap (λ (s : SweepData). s.list) c.remove.ensures.sweep) c.count.ensures.counts c.count.ensures.faulted in
    record {
      end = end;
      swept = ap (λ (s : SweepData). s.pages) c.remove.ensures.sweep ∙ c.self.invariant.swept;
      pages = c.self.invariant.pages;
    }

pub returns-clause-limits : goal.returns-clause-limits
returns-clause-limits g c =
    let total = g.P.Plant.total in
    let stands = g.P.Plant.stands in
    let d = copy_end_of c.self.inside in
    let p = c.args.taken.page in
    let page : p < total d.inlet.from = subst (λ x. p < total x.inlet.from) (sym c.self.view_is) c.requires.page in
    let here : is_listed d.left p ≡ true = subst (λ x. is_listed x.left p ≡ true) (sym c.self.view_is) c.requires.left in
    let none : d.hand ≡ None = ap (λ x. x.hand) c.self.view_is ∙ c.requires.none in
    let sweep = swept (total d.inlet.from) c.self.inside.sweep c.remove.new.self p (c.self.invariant.swept ∙ c.self.invariant.pages) c.remove.ensures.sweep c.remove.ensures.kept in
    let is = copied_limits total stands d p c.self.invariant.end none page here sweep c.args.taken.picked in
    let end = same_end total stands (without_page d c.args.taken) c.remove.new.self.list c.count.new.counts c.count.new.faulted.items is (ap (λ (s : SweepData). s.list) c.remove.ensures.sweep) c.count.ensures.counts c.count.ensures.faulted in
    end

pub returns-clause-unsent : goal.returns-clause-unsent
returns-clause-unsent g c =
    let d = copy_end_of c.self.inside in
    let p = c.args.taken.page in
    let here : is_listed d.left p ≡ true = subst (λ x. is_listed x.left p ≡ true) (sym c.self.view_is) c.requires.left in
    subst (λ x. is_listed x.inlet.sent p ≡ false) c.self.view_is (not_sent g.P.Plant.total g.P.Plant.stands d p c.self.invariant.end here)
