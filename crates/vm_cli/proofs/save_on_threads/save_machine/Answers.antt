-- A save that ran its second phase ends the job by its report.
use Rattle.std.proofs.Common.{inr}
use Rattle.vm_cli.specs.Served.{OnThreads}
use Rattle.vm_cli.proofs.SaveEnds.{done_by, failed_by, has_saved}
use Rattle.vm_cli.proofs.save_on_threads.save_machine.Goals as goal

pub returns-clause-done : goal.returns-clause-done
returns-clause-done g c =
    let saved = c.in_ok-out.ensures in
    let ends = c.end_save.ensures in
    done_by c.args.machine (record { stop = c.args.stop; run = c.args.run; way = OnThreads }) c.in_ok-machine.machine c.in_ok-out.out _ _ _ _ _
    (has_saved c.args.machine (record { stop = c.args.stop; run = c.args.run; way = OnThreads }) c.in_ok-machine.machine c.in_ok-out.out _ _ (record { first = c.in_ok-machine.first; second = c.in_ok-out.out.order }) c.end_save.new.orders _
    c.in_ok-machine.ensures.instant saved.phase saved.saved saved.crash ends.first ends.second)
    ends.report

pub returns-clause-failed : goal.returns-clause-failed
returns-clause-failed g c = λ fault is other.
    let saved = c.in_ok-out.ensures in
    let ends = c.end_save.ensures in
    inr (failed_by c.args.machine (record { stop = c.args.stop; run = c.args.run; way = OnThreads }) c.in_ok-machine.machine c.in_ok-out.out _ _ _ _ _
    (has_saved c.args.machine (record { stop = c.args.stop; run = c.args.run; way = OnThreads }) c.in_ok-machine.machine c.in_ok-out.out _ _ (record { first = c.in_ok-machine.first; second = c.in_ok-out.out.order }) c.end_save.new.orders _
    c.in_ok-machine.ensures.instant saved.phase saved.saved saved.crash ends.first ends.second)
    ends.report fault is other)
