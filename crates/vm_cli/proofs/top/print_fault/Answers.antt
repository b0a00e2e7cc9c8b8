-- What a fault prints is a front of its line.
use Rattle.std.proofs.Common.{List, ℕ, subst}
use Rattle.medium.specs.Bytes.{AddsFront, BecomesTold}
use Rattle.medium.proofs.Taken.{front_of}
use Rattle.vm_cli.proofs.top.print_fault.Goals as goal

pub returns-clause-front : goal.returns-clause-front
returns-clause-front g c =
    subst (λ (line : List ℕ). BecomesTold (AddsFront line) (g.K.Sink.taken c.args.console.now) (g.K.Sink.taken c.put_parts.new.console)) c.fault_line.ensures
    (front_of c.put_parts.result _ _ _ c.put_parts.ensures.all c.put_parts.ensures.some)
