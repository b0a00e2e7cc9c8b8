-- A machine at boot has room for a first phase.
use Rattle.std.proofs.Common.{◌≡◌, ℕ, ◌+◌, ◌*◌, ◌≤◌, ◌^◌, List, [], All, refl, subst, sym, ap, ◌∙◌, arith}
use Rattle.std.specs.List.{range_with_len}
use Rattle.std.proofs.lemmas.List.Elements.{All-map}
use Rattle.std.proofs.lemmas.Nat.{mul-le}
use Rattle.ram_block.specs.Shape.{IsShape, ShapeData}
use Rattle.rv64i_step.specs.Vcpu.{boot_vcpu}
use Rattle.flat_machine.specs.Laws.{HasRoom}
use Rattle.flat_machine.specs.Machine.{MachineData, boot}
use Rattle.vm_cli.specs.Jobs.Workload.{workload_machine, workload_shape}
use Rattle.vm_cli.specs.declared.workload.TheConstants.{STOP, VCPUS}
use Rattle.vm_words.specs.Turns.{IsTurn}
use Rattle.vm_words.specs.Workload.{work}
use Rattle.vm_words.specs.declared.turns.TurnOf.{TurnOf}

pub boot_has_room : (shape : ShapeData) (image input : List ℕ) (n : ℕ) → IsShape shape → n ≤ 1000000 → HasRoom (boot shape image input) n
unfolding boot
boot_has_room shape image input n is most = record {
  clock = clocked n shape.vcpus (is.vcpus.1) most;
  steps = All-map (λ v. v.steps + n ≤ 2 ^ 62) boot_vcpu (range_with_len 0 shape.vcpus) (λ k d h. omega (arith, most));
}
  where
    clocked : (n v : ℕ) → v ≤ 8 → n ≤ 1000000 → 0 + 2 * n * v ≤ 2 ^ 62
    clocked n v few most = omega (arith, mul-le (2 * n) v 2000000 8 (omega (arith, most)) few)

pub boot_has : (shape : ShapeData) (image input : List ℕ) (b : MachineData) (n : ℕ) → b ≡ boot shape image input → IsShape shape → n ≤ 1000000 → HasRoom b n
boot_has shape image input b n same is most = subst (λ (m : MachineData). HasRoom m n) (sym same) (boot_has_room shape image input n is most)

-- the shape of a machine at boot
pub boot_shape : (shape : ShapeData) (image input : List ℕ) → (boot shape image input).shape ≡ shape
unfolding boot
boot_shape shape image input = refl

-- the turns of a line are those of its vCPUs
pub boot_turns : (shape : ShapeData) (image input : List ℕ) (b : MachineData) (turns : List TurnOf) → b ≡ boot shape image input → All (IsTurn shape.vcpus) turns → All (IsTurn b.shape.vcpus) turns
boot_turns shape image input b turns same all =
    subst (λ (s : ShapeData). All (IsTurn s.vcpus) turns) (sym (ap (λ (m : MachineData). m.shape) same ∙ boot_shape shape image input)) all

-- ---- The machine of the workload

workload_shape_is : IsShape workload_shape
workload_shape_is = record { vcpus = (omega arith, omega arith); blocks = (omega arith, omega arith); pages = (omega arith, omega arith) }

pub workload_room : (seed : ℕ) (b : MachineData) → b ≡ workload_machine seed → HasRoom b STOP
workload_room seed b same = boot_has workload_shape (work seed) [] b STOP same workload_shape_is (omega arith)

pub workload_turns : (seed : ℕ) (b : MachineData) (turns : List TurnOf) → b ≡ workload_machine seed → All (IsTurn VCPUS) turns → All (IsTurn b.shape.vcpus) turns
workload_turns seed b turns same all = boot_turns workload_shape (work seed) [] b turns same all
