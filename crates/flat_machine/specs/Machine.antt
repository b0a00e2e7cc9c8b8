-- The machine as plain data: one flat list of bytes, vCPUs, devices and a clock (RISC-V Unprivileged ISA for the
-- vCPUs; this project's own devices, limits and boot values, docs/MACHINE.md).
use Rattle.std.specs.Prelude.{◌≡◌, ℕ, ◌-◌, ◌^◌, ◌<◌, ◌≤◌, List, [], ◌++◌, length, map, replicate, None, All}
use Rattle.std.specs.List.{range_with_len}
use Rattle.ram_block.specs.Shape.{ShapeData, IsShape, ram_bytes_of}
use Rattle.rv64i_step.specs.Event.{IsServable}
use Rattle.rv64i_step.specs.Vcpu.{VcpuData, IsVcpu, boot_vcpu}
use Rattle.serial_timer.specs.Serial.{SerialData, IsSerial}
use Rattle.flat_machine.specs.Page.{page_at}

-- the RAM of all blocks as one list, and the timer's compare value; the clock counts the events so far
pub record MachineData : Type 0 where
  pub shape : ShapeData
  pub ram : List ℕ
  pub vcpus : List VcpuData
  pub serial : SerialData
  pub cmp : ℕ
  pub clock : ℕ

-- a page, counted over all blocks
abbrev pub page_of : MachineData → ℕ → List ℕ
page_of m p = page_at m.ram p

-- within the limits: each part as the shape has it, and each pending access one that it can serve
pub record IsMachine (m : MachineData) : Type 0 where
  pub shape : IsShape m.shape
  pub ram : length m.ram ≡ ram_bytes_of m.shape
  pub vcpus : length m.vcpus ≡ m.shape.vcpus
  pub each : All IsVcpu m.vcpus
  pub servable : All (IsServable m.shape) m.vcpus
  pub serial : IsSerial m.serial
  pub cmp : m.cmp < 2 ^ 64
  pub clock : m.clock ≤ 2 ^ 63

-- no vCPU has a pending access, and the clock and each count of steps are at most 2^62
pub record Rest (m : MachineData) : Type 0 where
  pub none_pending : All (λ v. v.pending ≡ None) m.vcpus
  pub steps : All (λ v. v.steps ≤ 2 ^ 62) m.vcpus
  pub clock : m.clock ≤ 2 ^ 62

-- a machine at boot: the image from the start of RAM, zeros behind it, and the input at the serial device
unfoldable pub boot : ShapeData → List ℕ → List ℕ → MachineData
boot shape image input = record {
  shape = shape;
  ram = image ++ replicate (ram_bytes_of shape - length image) 0;
  vcpus = map boot_vcpu (range_with_len 0 shape.vcpus);
  serial = record { bytes = []; lost = 0; input = input };
  cmp = 0;
  clock = 0;
}
