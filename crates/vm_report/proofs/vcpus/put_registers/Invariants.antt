use Rattle.std.proofs.Common.{◌≡◌, ◌≤◌, ◌+◌, ◌-◌, ◌*◌, ◌++◌, length}
use Rattle.std.specs.List.{flat_map, range_with_len}
use Rattle.rv64i_step.specs.Vcpu.{reg_of}
use Rattle.vm_report.specs.Report.{register_line}
use Rattle.vm_report.proofs.vcpus.put_registers.Given as goal

abbrev pub invariant-loop-i : goal.invariant-loop-i
invariant-loop-i l = record {
  text : l.text ≡ l.fn.text ++ flat_map (λ i. register_line i (reg_of l.vcpu i)) (range_with_len 1 (l.i - 1));
  room : length l.text ≤ 100 + 39 * (l.i - 1);
}
