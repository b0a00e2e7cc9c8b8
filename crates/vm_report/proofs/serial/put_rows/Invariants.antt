use Rattle.std.proofs.Common.{◌≡◌, ◌≤◌, ◌++◌, option_map}
use Rattle.std.specs.List.{flat_map, range_with_len}
use Rattle.vm_report.specs.Report.{row_line, row_of}
use Rattle.vm_report.proofs.serial.put_rows.Given as goal

abbrev pub invariant-loop-i : goal.invariant-loop-i
invariant-loop-i g l = record {
  taken : g.K.Sink.taken l.sink ≡ option_map (λ before. before ++ flat_map (λ i. row_line (row_of l.bytes i)) (range_with_len 0 l.i)) (g.K.Sink.taken l.fn.sink);
  never_falls : g.K.Sink.faults l.fn.sink ≤ g.K.Sink.faults l.sink;
}
