-- A save that ran its second phase ends the job by its report.
use Rattle.std.proofs.Common.{◌≡◌, inl, inr, refl, sym, subst}
use Rattle.medium.specs.Members.{file_state}
use Rattle.vm_cli.specs.Jobs.Save.{LeavesAtInstant}
use Rattle.vm_cli.specs.Served.{Sliced}
use Rattle.vm_cli.proofs.Jobs.{failed_with}
use Rattle.vm_cli.proofs.SaveEnds.{done_by, failed_by, has_saved}
use Rattle.vm_cli.proofs.save.save_machine.Goals as goal

pub returns-clause-done : goal.returns-clause-done
returns-clause-done g c =
    let saved = c.in_ok-out.ensures in
    let ends = c.end_save.ensures in
    done_by c.args.machine (record { stop = c.args.stop; run = c.args.run; way = Sliced c.args.turns.now }) c.reach_instant.new.machine c.in_ok-out.out _ _ _ _ _
    (has_saved c.args.machine (record { stop = c.args.stop; run = c.args.run; way = Sliced c.args.turns.now }) c.reach_instant.new.machine c.in_ok-out.out _ _ (record { first = c.in_ok-orders.field-0; second = c.in_ok-out.out.order }) c.end_save.new.orders _
    (c.in_ok-orders.ensures.instant c.args.turns.now) saved.phase saved.saved saved.crash ends.first ends.second)
    ends.report

pub returns-clause-failed : goal.returns-clause-failed
returns-clause-failed g c = λ fault is other.
    let saved = c.in_ok-out.ensures in
    let ends = c.end_save.ensures in
    inr (failed_by c.args.machine (record { stop = c.args.stop; run = c.args.run; way = Sliced c.args.turns.now }) c.reach_instant.new.machine c.in_ok-out.out _ _ _ _ _
    (has_saved c.args.machine (record { stop = c.args.stop; run = c.args.run; way = Sliced c.args.turns.now }) c.reach_instant.new.machine c.in_ok-out.out _ _ (record { first = c.in_ok-orders.field-0; second = c.in_ok-out.out.order }) c.end_save.new.orders _
    (c.in_ok-orders.ensures.instant c.args.turns.now) saved.phase saved.saved saved.crash ends.first ends.second)
    ends.report fault is other)

pub save_instant-requires-clause-rest : goal.save_instant-requires-clause-rest
save_instant-requires-clause-rest g c = (c.in_ok-orders.ensures.instant c.args.turns.now).rest

pub returns-in_err-out-clause-failed : goal.returns-in_err-out-clause-failed
returns-in_err-out-clause-failed g c = λ fault is other.
    inl (
      inr (record {
        instant = c.reach_instant.new.machine;
        first = c.in_ok-orders.ensures.instant c.args.turns.now;
        second = c.requires.second;
        output = subst (λ f. LeavesAtInstant c.reach_instant.new.machine (c.save_instant.new.output ≡ c.args.output.now) (file_state g.M.Readable c.args.output.now) (file_state g.M.Readable c.save_instant.new.output) f)
            (sym (failed_with _ _ c.from_residual-in_err-out.ensures)) c.in_err-out.ensures.unsaved;
        crash = c.in_err-out.ensures.crash;
      }),
      refl,
    )
