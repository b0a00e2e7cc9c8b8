use Rattle.std.proofs.Common.{None}
use Rattle.write_pipe.proofs.Inlets.{may_send, sent_now}
use Rattle.write_pipe.proofs.Rules.{learns_nothing}
use Rattle.write_pipe.proofs.inlet.Inlet.send.Goals as goal

pub push_as-requires-clause-rule : goal.push_as-requires-clause-rule
push_as-requires-clause-rule g c = (
  may_send g.P.Plant.total g.P.Plant.stands _ c.self.inside (record { page = c.args.hand.page; bytes = c.args.hand.bytes; from = None }) c.args.self.now c.self.view_is
      c.self.invariant c.requires.page c.requires.first c.requires.bytes,
  learns_nothing _ _ _,
)

pub invariant_of-self : goal.invariant_of-self
invariant_of-self g c =
    sent_now g.P.Plant.total g.P.Plant.stands c.self.inside c.push_as.new.pass (record { page = c.args.hand.page; bytes = c.args.hand.bytes; from = None }) c.args.self.now
    c.self.view_is c.self.invariant c.push_as.ensures.queue c.in-Ok.ensures.rule c.requires.page c.requires.first

pub returns-in-Ok-clause-limits : goal.returns-in-Ok-clause-limits
returns-in-Ok-clause-limits g c =
    (sent_now g.P.Plant.total g.P.Plant.stands c.self.inside c.push_as.new.pass (record { page = c.args.hand.page; bytes = c.args.hand.bytes; from = None }) c.args.self.now
    c.self.view_is c.self.invariant c.push_as.ensures.queue c.in-Ok.ensures.rule c.requires.page c.requires.first).inlet
