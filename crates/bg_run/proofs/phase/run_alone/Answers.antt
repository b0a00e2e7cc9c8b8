-- The bus closes with all its passes, and its workers have come to their end.
use Rattle.std.proofs.Common.{false, refl}
use Rattle.bg_run.proofs.Ends.{runs_phase}
use Rattle.bg_run.proofs.Steps.{stepped_all}
use Rattle.bg_run.proofs.phase.run_alone.Goals as goal

pub close-machine-requires : goal.close-machine-requires
close-machine-requires g c =
    let s = c.in_ok-bus in
    stepped_all s.bus s.passes.items c.step_all.new.passes.items s.pass s.pass s.ensures.all c.step_all.ensures refl

pub returns-clause-phase : goal.returns-clause-phase
returns-clause-phase g c =
    let s = c.in_ok-bus in
    let all = stepped_all s.bus s.passes.items c.step_all.new.passes.items s.pass s.pass s.ensures.all c.step_all.ensures refl in
    runs_phase c.args.machine c.args.run false s.bus s.passes.items c.step_all.new.passes.items s.pass s.pass _ s.ensures.opened s.ensures.limits.0 all c.step_all.ensures
    c.close-machine.ensures.closes c.close-machine.ensures.limits
