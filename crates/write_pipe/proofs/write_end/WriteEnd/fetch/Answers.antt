use Rattle.write_pipe.specs.WriteEnd.{write_end_of}
use Rattle.write_pipe.proofs.WriteEnds.{got_keeps}
use Rattle.write_pipe.proofs.write_end.WriteEnd.fetch.Goals as goal

pub invariant_of-self : goal.invariant_of-self
invariant_of-self g c =
    got_keeps g.P.Plant.total g.P.Plant.writable g.P.Plant.stands g.P.Plant.fits (write_end_of c.self.inside) c.next.new.self c.in-Some.hand c.self.invariant
    c.in-Some.ensures.next c.in-Some.ensures.limits

pub returns-in-Some-clause-limits : goal.returns-in-Some-clause-limits
returns-in-Some-clause-limits g c =
    got_keeps g.P.Plant.total g.P.Plant.writable g.P.Plant.stands g.P.Plant.fits (write_end_of c.self.inside) c.next.new.self c.in-Some.hand c.self.invariant
    c.in-Some.ensures.next c.in-Some.ensures.limits
