use Rattle.std.proofs.Common.{◌∙◌, ap}
use Rattle.flat_machine.specs.Machine.{MachineData}
use Rattle.flat_machine.proofs.Padded.{boot_rests}
use Rattle.flat_machine.proofs.machine.Machine.boot.Goals as goal

pub returns-clause-rest : goal.returns-clause-rest
returns-clause-rest c =
    boot_rests c.of-2.result c.args.shape.vcpus
    (ap (λ (m : MachineData). m.vcpus) c.of-2.ensures.parts ∙ (c.in_ok-vcpus.ensures).vcpus) (ap (λ (m : MachineData). m.clock) c.of-2.ensures.parts)
