-- The bus closes with all its passes, its workers having come to their end, or with those of its start.
use Rattle.std.proofs.Common.{true, Some, refl, subst}
use Rattle.page_bus.specs.Closing.{Closes}
use Rattle.bg_saver.specs.declared.save_job.PhaseOut.{PhaseOut}
use Rattle.bg_run.specs.declared.owned_end.OwnedEnd.{OwnedEnd}
use Rattle.bg_run.proofs.Ends.{runs_phase}
use Rattle.bg_run.proofs.Steps.{stepped_all}
use Rattle.write_pipe.proofs.Relays.{closes_unchanged, ends_relayed}
use Rattle.write_pipe.proofs.run.run_saved.Goals as goal

pub close-machine-requires : goal.close-machine-requires
close-machine-requires g c =
    let s = c.in_ok-bus in
    let r = c.run_over-ran in
    stepped_all s.bus s.passes.items r.new.passes.items s.pass r.new.end.pass s.ensures.all c.in-Ok.ensures.stepped c.in-Ok.ensures.counted.key

pub returns-in-Ok-clause-phase : goal.returns-in-Ok-clause-phase
returns-in-Ok-clause-phase g c =
    let s = c.in_ok-bus in
    let r = c.run_over-ran in
    let all = stepped_all s.bus s.passes.items r.new.passes.items s.pass r.new.end.pass s.ensures.all c.in-Ok.ensures.stepped c.in-Ok.ensures.counted.key in
    runs_phase c.args.machine c.args.run true s.bus s.passes.items r.new.passes.items s.pass r.new.end.pass _ s.ensures.opened s.ensures.limits.0 all c.in-Ok.ensures.stepped
    c.close-machine.ensures.closes c.close-machine.ensures.limits

pub returns-in-Ok-clause-ends : goal.returns-in-Ok-clause-ends
returns-in-Ok-clause-ends g c =
    let s = c.in_ok-bus in
    let r = c.run_over-ran in
    let all = stepped_all s.bus s.passes.items r.new.passes.items s.pass r.new.end.pass s.ensures.all c.in-Ok.ensures.stepped c.in-Ok.ensures.counted.key in
    let out : PhaseOut = record {
      machine = c.close-machine.result.machine;
      order = c.close-machine.result.order;
      saved = Some c.in-Ok.saved;
      blocked = c.blocked_of-blocked.result;
      counts = c.in-Ok.counts;
    } in
    let phase = runs_phase c.args.machine c.args.run true s.bus s.passes.items r.new.passes.items s.pass r.new.end.pass out s.ensures.opened s.ensures.limits.0 all c.in-Ok.ensures.stepped
    c.close-machine.ensures.closes c.close-machine.ensures.limits in
    ends_relayed c.args.machine c.args.run true s.bus s.passes.items r.new.passes.items s.pass r.new.end.pass r.new.saver c.in-Ok.saved r.new.end.bus.now c.in-Ok.counts out
    c.requires.rest s.ensures.opened s.ensures.limits.0 phase c.in-Ok.ensures.counted c.close-machine.ensures.closes c.in-Ok.ensures.ended refl refl c.blocked_of-blocked.ensures

pub returns-in-Err-clause-no_memory : goal.returns-in-Err-clause-no_memory
returns-in-Err-clause-no_memory g c =
    let s = c.in_ok-bus in
    let left = c.close.result in
    let passes = subst (λ passes. Closes s.bus passes.items c.run_over-ran.new.end.pass left.machine left.order.members) c.in-Err.ensures.same_passes c.close.ensures.closes in
    closes_unchanged c.args.machine c.args.run true s.bus s.passes.items s.pass left.machine left.order.members s.ensures.opened
    (subst (λ (end : OwnedEnd). Closes s.bus s.passes.items end.pass left.machine left.order.members) c.in-Err.ensures.same_end passes)
