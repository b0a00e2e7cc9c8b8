-- The save begins at the instant, the bus closes with all its passes, and its workers have come to their end.
use Rattle.std.proofs.Common.{true, Some, refl, sym, subst}
use Rattle.medium.specs.Members.{file_state}
use Rattle.flat_machine.specs.Machine.{MachineData}
use Rattle.page_bus.specs.Plant.{end_state}
use Rattle.bg_saver.proofs.Instant.{begun_of_save, begun_under_way}
use Rattle.bg_saver.specs.Save.{IsUnderWay}
use Rattle.bg_saver.specs.declared.save_job.PhaseOut.{PhaseOut}
use Rattle.bg_run.proofs.Ends.{at_instant, ends_saved, runs_phase, starts_at}
use Rattle.bg_run.proofs.Steps.{stepped_all}
use Rattle.bg_run.proofs.phase.run_saved.Goals as goal

pub run_beside-saved-requires-clause-save : goal.run_beside-saved-requires-clause-save
run_beside-saved-requires-clause-save g c κs within =
    let s = c.in_ok-bus in
    begun_of_save c.args.saver.now c.args.machine (end_state s.bus s.pass) (file_state g.M.Readable c.args.medium.now) c.requires.begun (at_instant c.args.machine s.bus s.pass (s.ensures.plant refl))

pub run_beside-saved-requires-clause-way : goal.run_beside-saved-requires-clause-way
run_beside-saved-requires-clause-way g c κs within =
    let s = c.in_ok-bus in
    subst (λ (i : MachineData). IsUnderWay c.args.saver.now i (end_state s.bus s.pass) (file_state g.M.Readable c.args.medium.now)) (sym (starts_at c.args.machine c.args.run true s.bus s.passes.items s.pass s.ensures.opened))
    (begun_under_way c.args.saver.now c.args.machine (end_state s.bus s.pass) (file_state g.M.Readable c.args.medium.now) c.requires.begun (at_instant c.args.machine s.bus s.pass (s.ensures.plant refl)))

pub close-machine-requires : goal.close-machine-requires
close-machine-requires g c =
    let s = c.in_ok-bus in
    let r = c.run_beside-saved in
    stepped_all s.bus s.passes.items r.new.passes.items s.pass r.new.end.pass s.ensures.all r.ensures.stepped r.ensures.ends.keeps.key

pub returns-clause-phase : goal.returns-clause-phase
returns-clause-phase g c =
    let s = c.in_ok-bus in
    let r = c.run_beside-saved in
    let all = stepped_all s.bus s.passes.items r.new.passes.items s.pass r.new.end.pass s.ensures.all r.ensures.stepped r.ensures.ends.keeps.key in
    runs_phase c.args.machine c.args.run true s.bus s.passes.items r.new.passes.items s.pass r.new.end.pass _ s.ensures.opened s.ensures.limits.0 all r.ensures.stepped
    c.close-machine.ensures.closes c.close-machine.ensures.limits

pub returns-clause-ends : goal.returns-clause-ends
returns-clause-ends g c =
    let s = c.in_ok-bus in
    let r = c.run_beside-saved in
    let all = stepped_all s.bus s.passes.items r.new.passes.items s.pass r.new.end.pass s.ensures.all r.ensures.stepped r.ensures.ends.keeps.key in
    let out : PhaseOut = record {
      machine = c.close-machine.result.machine;
      order = c.close-machine.result.order;
      saved = Some r.result;
      blocked = c.blocked_of-blocked.result;
      counts = c.counts.result;
    } in
    let phase = runs_phase c.args.machine c.args.run true s.bus s.passes.items r.new.passes.items s.pass r.new.end.pass out s.ensures.opened s.ensures.limits.0 all r.ensures.stepped
    c.close-machine.ensures.closes c.close-machine.ensures.limits in
    ends_saved c.args.machine c.args.run true s.bus s.passes.items r.new.passes.items s.pass r.new.end.pass r.new.saver r.result r.new.end.bus.now out
    c.requires.rest s.ensures.opened s.ensures.limits.0 phase r.ensures.ends c.close-machine.ensures.closes refl c.counts.ensures.counts c.blocked_of-blocked.ensures
