use Rattle.std.proofs.Common.{rules, ◌+◌, ◌≤◌}
use Rattle.write_pipe.proofs.Outlets.{count_one, invariant_now, next_from}
use Rattle.write_pipe.proofs.Rules.{gets, learns_nothing}
use Rattle.write_pipe.proofs.outlet.Outlet.next.Goals as goal

pub pop_as-requires-clause-rule : goal.pop_as-requires-clause-rule
pop_as-requires-clause-rule g c = (gets g.P.Plant.total g.P.Plant.stands _ _ c.self.invariant.pops, learns_nothing _ _ _)

pub overflow_add-self : goal.overflow_add-self
overflow_add-self g c =
    let one : c.self.inside.come + 1 ≤ c.self.inside.pages = count_one g.P.Plant.total g.P.Plant.stands c.self.inside _ _ c.self.invariant c.in-Some.ensures.rule in
    search rules

pub invariant_of-self : goal.invariant_of-self
invariant_of-self g c = invariant_now g.P.Plant.total g.P.Plant.stands c.self.inside _ _ c.self.invariant c.pop_as.ensures.queue c.in-Some.ensures.rule

pub returns-in-Some-clause-next : goal.returns-in-Some-clause-next
returns-in-Some-clause-next g c =
    next_from g.P.Plant.total g.P.Plant.stands c.self.inside c.pop_as.new.pass c.in-Some.field-0 c.args.self.now c.self.view_is c.self.invariant c.pop_as.ensures.queue
    c.in-Some.ensures.rule

pub returns-in-Some-clause-limits : goal.returns-in-Some-clause-limits
returns-in-Some-clause-limits g c =
    (invariant_now g.P.Plant.total g.P.Plant.stands c.self.inside c.pop_as.new.pass c.in-Some.field-0 c.self.invariant c.pop_as.ensures.queue c.in-Some.ensures.rule).outlet
