-- The line, and then the report.
use Rattle.std.proofs.Common.{None}
use Rattle.std.proofs.lemmas.Result.{on_err_weaker, on_ok_weaker}
use Rattle.medium.proofs.Taken.{front_alone, whole_then_front, whole_then_whole}
use Rattle.vm_report.specs.Report.{report}
use Rattle.vm_cli.specs.Jobs.LazyRestore.{touched_line}
use Rattle.vm_cli.proofs.Fronts.{if_failed}
use Rattle.vm_cli.proofs.lazy.put_touched.Goals as goal

pub returns-in_err-put_parts-clause-some : goal.returns-in_err-put_parts-clause-some
returns-in_err-put_parts-clause-some g c =
    if_failed c.from_residual.result (front_alone (touched_line c.args.pages) (report None c.args.machine.now) _ _ (rw c.from.ensures at c.in_err-put_parts.ensures.some))

pub returns-clause-all : goal.returns-clause-all
returns-clause-all g c = on_ok_weaker c.put_report.result (whole_then_whole (touched_line c.args.pages) (report None c.args.machine.now) _ _ _ (rw c.from.ensures at c.in_ok-put_parts.ensures.all)) c.put_report.ensures.all

pub returns-clause-some : goal.returns-clause-some
returns-clause-some g c = on_err_weaker c.put_report.result (whole_then_front (touched_line c.args.pages) (report None c.args.machine.now) _ _ _ (rw c.from.ensures at c.in_ok-put_parts.ensures.all)) c.put_report.ensures.some
