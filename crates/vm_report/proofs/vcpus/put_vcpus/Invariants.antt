use Rattle.std.proofs.Common.{◌≡◌, ◌≤◌, ◌++◌, option_map}
use Rattle.std.specs.List.{flat_map, range_with_len}
use Rattle.vm_report.specs.Report.{vcpu_lines}
use Rattle.vm_report.proofs.vcpus.put_vcpus.Given as goal

abbrev pub invariant-loop-k : goal.invariant-loop-k
invariant-loop-k g l = record {
  taken : g.K.Sink.taken l.sink ≡ option_map (λ before. before ++ flat_map (vcpu_lines l.machine) (range_with_len 0 l.k)) (g.K.Sink.taken l.fn.sink);
  never_falls : g.K.Sink.faults l.fn.sink ≤ g.K.Sink.faults l.sink;
}
