use Rattle.std.proofs.Common.{arith}
use Rattle.flat_machine.proofs.Padded.{vcpus_more}
use Rattle.flat_machine.proofs.boot.boot_vcpus.Goals as goal

pub loop-k-preserved : goal.loop-k-preserved
loop-k-preserved c = record {
  vcpus = vcpus_more c.loop-k.vcpus.items c.push.new.self.items c.boot.result c.loop-k.k (c.in_ok-push.ensures {u = tt}).items c.boot.ensures.boot c.loop-k.invariant.vcpus;
  count = omega (arith, (c.in_ok-push.ensures {u = tt}).len, c.loop-k.invariant.count);
}
