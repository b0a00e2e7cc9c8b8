use Rattle.std.proofs.Common.{◌≡◌, map, vec_len}
use Rattle.std.specs.List.{range_with_len}
use Rattle.rv64i_step.specs.Vcpu.{boot_vcpu}
use Rattle.flat_machine.proofs.boot.boot_vcpus.Given as goal

abbrev pub invariant-loop-k : goal.invariant-loop-k
invariant-loop-k l = record {
  vcpus : l.vcpus.items ≡ map boot_vcpu (range_with_len 0 l.k);
  count : vec_len l.vcpus ≡ l.k;
}
