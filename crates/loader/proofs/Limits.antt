-- The machine of a frame with its pages is within the limits, and at rest.
use Rattle.std.proofs.Common.{◌≡◌, ℕ, ◌*◌, List, length, Option, IfSome, ◌∙◌, sym, ap, subst, arith, mul_comm}
use Rattle.rv64i_step.specs.Access.{AccessesMemory}
use Rattle.rv64i_step.specs.Event.{IsServable, access_of}
use Rattle.rv64i_step.specs.Request.{CanServe}
use Rattle.rv64i_step.specs.declared.access.Access.{Access}
use Rattle.rv64i_step.specs.Vcpu.{VcpuData}
use Rattle.flat_machine.specs.Machine.{IsMachine, Rest}
use Rattle.flat_machine.proofs.Pages.{length-joined}
use Rattle.device_state.specs.DeviceText.{IsResting}
use Rattle.loader.specs.Frame.{FrameData}
use Rattle.loader.specs.Loaded.{machine_of, pages_from}
use Rattle.loader.specs.Stands.{IsFrame}
use Rattle.loader.specs.Whole.{AreWhole}
use Rattle.loader.proofs.RamPages.{all_whole, count_from}

-- a vCPU with no pending access can be served
rests_served : (file : List ℕ) (frame : FrameData) (v : VcpuData) → IsResting v → IsServable frame.shape v
rests_served file frame v rests = subst (λ (p : Option Access). IfSome p (λ access. AccessesMemory access.instr × CanServe frame.shape (access_of v access.place access.instr))) (sym rests.none_pending) tt

pub machine_limits : (file : List ℕ) (frame : FrameData) → IsFrame frame → AreWhole file frame.shape.pages 0 frame.bits → IsMachine (machine_of file frame) × Rest (machine_of file frame)
machine_limits file frame limits whole =
    let pages = pages_from file frame.shape.pages 0 frame.bits in
    let count = length-joined pages (all_whole file frame.shape.pages 0 frame.bits whole) in
    let each = count_from file frame.shape.pages 0 frame.bits whole in
    let blocks : length frame.bits * frame.shape.pages ≡ frame.shape.blocks * frame.shape.pages = ap (λ (k : ℕ). k * frame.shape.pages) limits.blocks in (
      record {
        shape = limits.shape;
        ram = count ∙ ap (λ (k : ℕ). 4096 * k) (each ∙ blocks) ∙ mul_comm 4096 (frame.shape.blocks * frame.shape.pages);
        vcpus = limits.vcpus;
        each = λ k d h. (limits.devices.each k d h).vcpu;
        servable = λ k d h. rests_served file frame _ (limits.devices.each k d h);
        serial = limits.devices.serial;
        cmp = limits.devices.cmp;
        clock = let early = limits.devices.clock in omega (arith, early);
      },
      record {
        none_pending = λ k d h. (limits.devices.each k d h).none_pending;
        steps = λ k d h. (limits.devices.each k d h).steps;
        clock = limits.devices.clock;
      },
    )
