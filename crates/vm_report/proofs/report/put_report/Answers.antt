-- The parts of the report, one after another.
use Rattle.std.proofs.Common.{◌∙◌, ap}
use Rattle.std.proofs.lemmas.Result.{on_err_weaker, on_ok_weaker}
use Rattle.medium.proofs.Taken.{front_alone, whole_then_front, whole_then_whole}
use Rattle.vm_report.specs.Report.{first_lines, report, serial_lines}
use Rattle.vm_report.proofs.Ranges.{if_failed}
use Rattle.vm_report.proofs.report.put_report.Goals as goal

pub returns-in_err-write-clause-some : goal.returns-in_err-write-clause-some
unfolding report
returns-in_err-write-clause-some g c =
    let first = c.bytes.ensures ∙ c.first_lines.ensures ∙ ap (first_lines c.args.save) c.clock.ensures.value in
    if_failed c.from_residual.result
    (front_alone _ _ _ _ (front_alone _ _ _ _ (front_alone _ _ _ _ (rw first at c.in_err-write.ensures.some))))

pub returns-in_err-put_vcpus-clause-some : goal.returns-in_err-put_vcpus-clause-some
unfolding report
returns-in_err-put_vcpus-clause-some g c =
    let first = c.bytes.ensures ∙ c.first_lines.ensures ∙ ap (first_lines c.args.save) c.clock.ensures.value in
    let one = rw first at c.in_ok-write.ensures.all in
    if_failed c.from_residual-in_err-put_vcpus.result
    (front_alone _ _ _ _ (front_alone _ _ _ _ (whole_then_front _ _ _ _ _ one c.in_err-put_vcpus.ensures.some)))

pub returns-in_err-put_serial-clause-some : goal.returns-in_err-put_serial-clause-some
unfolding report
returns-in_err-put_serial-clause-some g c =
    let first = c.bytes.ensures ∙ c.first_lines.ensures ∙ ap (first_lines c.args.save) c.clock.ensures.value in
    let one = rw first at c.in_ok-write.ensures.all in
    let two = whole_then_whole _ _ _ _ _ one c.in_ok-put_vcpus.ensures.all in
    let device = ap serial_lines c.serial.ensures.value in
    if_failed c.from_residual-in_err-put_serial.result
    (front_alone _ _ _ _ (whole_then_front _ _ _ _ _ two (rw device at c.in_err-put_serial.ensures.some)))

pub returns-clause-some : goal.returns-clause-some
unfolding report
returns-clause-some g c =
    let first = c.bytes.ensures ∙ c.first_lines.ensures ∙ ap (first_lines c.args.save) c.clock.ensures.value in
    let one = rw first at c.in_ok-write.ensures.all in
    let two = whole_then_whole _ _ _ _ _ one c.in_ok-put_vcpus.ensures.all in
    let device = ap serial_lines c.serial.ensures.value in
    let three = whole_then_whole _ _ _ _ _ two (rw device at c.in_ok-put_serial.ensures.all) in
    let last = c.bytes-2.ensures ∙ c.last_lines.ensures in
    on_err_weaker c.write-2.result (whole_then_front _ _ _ _ _ three) (rw last at c.write-2.ensures.some)

pub returns-clause-all : goal.returns-clause-all
unfolding report
returns-clause-all g c =
    let first = c.bytes.ensures ∙ c.first_lines.ensures ∙ ap (first_lines c.args.save) c.clock.ensures.value in
    let one = rw first at c.in_ok-write.ensures.all in
    let two = whole_then_whole _ _ _ _ _ one c.in_ok-put_vcpus.ensures.all in
    let device = ap serial_lines c.serial.ensures.value in
    let three = whole_then_whole _ _ _ _ _ two (rw device at c.in_ok-put_serial.ensures.all) in
    let last = c.bytes-2.ensures ∙ c.last_lines.ensures in
    on_ok_weaker c.write-2.result (whole_then_whole _ _ _ _ _ three) (rw last at c.write-2.ensures.all)
