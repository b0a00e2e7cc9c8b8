use Rattle.std.proofs.Common.{◌≡◌, ◌++◌, take}
use Rattle.device_state.specs.DeviceText.{cpu_sections}
use Rattle.device_state.proofs.put.put_vcpus.Given as goal

abbrev pub invariant-loop-k : goal.invariant-loop-k
invariant-loop-k l = l.out.items ≡ l.fn.out.items ++ cpu_sections 0 (take l.k l.machine.vcpus)
