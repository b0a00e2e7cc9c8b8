-- Each row behind those before it.
use Rattle.std.proofs.Common.{◌≡◌, ◌++◌, length, ap, subst, ◌∙◌, option_map, arith}
use Rattle.std.specs.Int.{div_ceil}
use Rattle.std.specs.List.{flat_map, range_with_len}
use Rattle.vm_report.specs.Report.{row_line, row_of}
use Rattle.vm_report.proofs.Ranges.{if_failed, taken_more, taken_within}
use Rattle.vm_report.proofs.serial.put_rows.Goals as goal

pub loop-i-preserved : goal.loop-i-preserved
loop-i-preserved g c =
    let written = c.bytes.ensures ∙ c.row_line.ensures ∙ ap row_line c.row.ensures.row in
    record {
      taken = taken_more (λ i. row_line (row_of c.args.bytes.now i)) c.loop-i.i c.bytes.result.now _ _ _ c.loop-i.invariant.taken written c.in_ok-write.ensures.all;
      never_falls = omega (arith, c.loop-i.invariant.never_falls, c.in_ok-write.ensures.cause.never_falls);
    }

pub returns-in_err-write-clause-some : goal.returns-in_err-write-clause-some
returns-in_err-write-clause-some g c =
    let written = c.bytes.ensures ∙ c.row_line.ensures ∙ ap row_line c.row.ensures.row in
    if_failed c.from_residual.result
    (taken_within (λ i. row_line (row_of c.args.bytes.now i)) c.loop-i.i (div_ceil (length c.args.bytes.now) 32) c.bytes.result.now _ _ _
    (omega (arith, c.div_ceil-rows.ensures)) c.loop-i.invariant.taken written c.in_err-write.ensures.some)

pub returns-clause-all : goal.returns-clause-all
returns-clause-all g c =
    let end : c.loop-i.i ≡ div_ceil (length c.args.bytes.now) 32 = omega (arith, c.div_ceil-rows.ensures) in
    subst (λ n. g.K.Sink.taken c.loop-i.sink ≡ option_map (λ before. before ++ flat_map (λ i. row_line (row_of c.args.bytes.now i)) (range_with_len 0 n)) (g.K.Sink.taken c.args.sink.now)) end
    c.loop-i.invariant.taken
