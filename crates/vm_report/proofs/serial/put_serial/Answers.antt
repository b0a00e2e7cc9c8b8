-- The line, and then the rows.
use Rattle.std.proofs.Common.{ap, ◌∙◌}
use Rattle.std.proofs.lemmas.Result.{on_ok_weaker, on_err_weaker}
use Rattle.medium.proofs.Taken.{front_alone, whole_then_front, whole_then_whole}
use Rattle.vm_report.specs.Report.{row_lines, serial_line}
use Rattle.vm_report.proofs.Ranges.{if_failed}
use Rattle.vm_report.proofs.serial.put_serial.Goals as goal

pub returns-in_err-write-clause-some : goal.returns-in_err-write-clause-some
returns-in_err-write-clause-some g c =
    let line = c.bytes.ensures ∙ c.serial_line.ensures in
    if_failed c.from_residual.result
    (front_alone (serial_line c.args.serial.now) (row_lines c.args.serial.now.bytes) _ _ (rw line at c.in_err-write.ensures.some))

pub returns-clause-all : goal.returns-clause-all
returns-clause-all g c =
    let line = c.bytes.ensures ∙ c.serial_line.ensures in
    let rows = ap row_lines c.bytes-2.ensures.bytes in
    on_ok_weaker c.put_rows.result (whole_then_whole _ _ _ _ _ (rw line at c.in_ok-write.ensures.all)) (rw rows at c.put_rows.ensures.all)

pub returns-clause-some : goal.returns-clause-some
returns-clause-some g c =
    let line = c.bytes.ensures ∙ c.serial_line.ensures in
    let rows = ap row_lines c.bytes-2.ensures.bytes in
    on_err_weaker c.put_rows.result (whole_then_front _ _ _ _ _ (rw line at c.in_ok-write.ensures.all)) (rw rows at c.put_rows.ensures.some)
