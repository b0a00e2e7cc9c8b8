-- A job that ended well did its work; another printed its fault's line, and its cause lasts.
use Rattle.std.proofs.Common.{ap}
use Rattle.flat_machine.specs.Order.{OrderData}
use Rattle.medium.specs.Members.{sink_state}
use Rattle.vm_cli.proofs.JobEnds.{end_by, ends_by}
use Rattle.vm_cli.proofs.top.rvsnap.Goals as goal

pub returns-clause-ends : goal.returns-clause-ends
returns-clause-ends g c =
    let answer = c.answer.ensures in
    let work = c.run_line_on_threads-ended in
    end_by _ _ _ _ _ _ _ _ _ _ _ answer.fault (ap (λ (o : OrderData). o.members) answer.first) (ap (λ (o : OrderData). o.members) answer.second)
    (ends_by _ _ _ _ (sink_state g.K.Sink work.new.console) _ _ _ _ _ _ work.ensures.cause work.ensures.works answer.printed
    (λ same. ap (λ k. sink_state g.K.Sink k) same) (λ same. ap (λ k. sink_state g.K.Sink k) same))
