-- The order of a record is one of the vCPUs of its machine, and its text is short.
use Rattle.std.proofs.Common.{◌≡◌, ℕ, ◌*◌, ◌<◌, ◌≤◌, List, All, Some, length, sym, ◌∙◌, ap, subst, arith}
use Rattle.std.proofs.lemmas.List.FromFn.{length-map-range_with_len}
use Rattle.std.proofs.lemmas.Nat.{mul-le}
use Rattle.flat_machine.specs.Machine.{MachineData, Rest, boot}
use Rattle.flat_machine.specs.Run.{Phase, run}
use Rattle.flat_machine.proofs.PhaseEnds.{phase_length}
use Rattle.flat_machine.proofs.Rests.{run_members}
use Rattle.order_log.specs.Text.{IsOrder, text_of}
use Rattle.order_log.proofs.Packed.{length-packed}
use Rattle.ram_block.specs.Shape.{IsShape, ShapeData}
use Rattle.rv64i_step.specs.Vcpu.{boot_vcpu}
use Rattle.vm_cli.specs.Jobs.Save.{IsInstant}
use Rattle.vm_cli.specs.Served.{OnThreads}
use Rattle.vm_cli.proofs.Boots.{boot_shape}

-- ---- The order

-- a machine at boot has the vCPUs of its shape
pub boot_vcpus : (shape : ShapeData) (image serial : List ℕ) → length (boot shape image serial).vcpus ≡ shape.vcpus
unfolding boot
boot_vcpus shape image serial = length-map-range_with_len boot_vcpu 0 shape.vcpus

-- each instruction of a phase has two events at most
few_events : (n vcpus events : ℕ) → n ≤ 1000000 → vcpus ≤ 8 → events ≤ 2 * n * vcpus → events ≤ 16000000
few_events n vcpus events most few is = omega (arith, is, mul-le (2 * n) vcpus 2000000 8 (omega (arith, most)) few)

pub phase_order : (b : MachineData) (vcpus n : ℕ) (o : List ℕ) (after : MachineData) → length b.vcpus ≡ vcpus → b.shape.vcpus ≡ vcpus → vcpus ≤ 8 → n ≤ 1000000 → Rest b
    → Phase b n o → run b o ≡ Some after → IsOrder vcpus o
phase_order b vcpus n o after count shape few most rest phase ran = record {
  most = few_events n b.shape.vcpus (length o) most (omega (arith, shape, few)) (phase_length b n o rest (count ∙ sym shape) phase);
  members = subst (λ (v : ℕ). All (λ k. k < v) o) count (run_members b o after ran);
}

-- the order of a phase of the machine that boots
pub boot_order : (shape : ShapeData) (image serial : List ℕ) (b : MachineData) (n : ℕ) (o : List ℕ) (after : MachineData) → b ≡ boot shape image serial → IsShape shape → n ≤ 1000000 → Rest b
    → IsInstant OnThreads b n o after → IsOrder shape.vcpus o
boot_order shape image serial b n o after same is most rest ran =
    let count : length b.vcpus ≡ shape.vcpus = ap (λ (m : MachineData). length m.vcpus) same ∙ boot_vcpus shape image serial in
    let shaped : b.shape ≡ shape = ap (λ (m : MachineData). m.shape) same ∙ boot_shape shape image serial in
    phase_order b shape.vcpus n o after count (ap (λ (s : ShapeData). s.vcpus) shaped) is.vcpus.1 most rest ran.phase ran.ran

-- its text is short
pub small_text : (o : List ℕ) (vcpus number : ℕ) (bytes : List ℕ) → bytes ≡ text_of o number → IsOrder vcpus o → length bytes ≤ 1073741824
unfolding text_of
small_text o vcpus number bytes is order = omega (arith, ap length is, length-packed o, order.most)
