-- The sections of the devices and the vCPUs in a file (this project's own, docs/FILE_FORMAT.md).
use Rattle.std.specs.Prelude.{◌≡◌, ℕ, ◌+◌, ◌^◌, ◌<◌, ◌≤◌, List, [], ◌∷◌, ◌++◌, length, codes, None, All}
use Rattle.std.specs.List.{flat_map}
use Rattle.ram_block.specs.Cause.{code_of}
use Rattle.ram_block.specs.declared.limits.TheConstants.{MOST_AT_REST}
use Rattle.ram_block.specs.declared.shape.TheConstants.{MAX_VCPUS}
use Rattle.mig_stream.specs.Text.{be32, be64, start_text, footer_text}
use Rattle.mig_stream.specs.declared.put.TheConstants.{FULL, EOF}
use Rattle.rv64i_step.specs.Vcpu.{VcpuData, IsVcpu}
use Rattle.rv64i_step.specs.declared.state.State.{State}
use Rattle.rv64i_step.specs.declared.state.State.TheVariants.{Running, Halted}
use Rattle.serial_timer.specs.Serial.{SerialData, IsSerial}
use Rattle.flat_machine.specs.Machine.{MachineData}
use Rattle.device_state.specs.declared.format.TheConstants.{CPU_VERSION, FIRST_DEVICE, SERIAL_VERSION, SERIAL_VERSION_WITHOUT_INPUT, TIMER_VERSION}

-- the version of a serial section: the first has no input
pub data SerialVersion : Type 0 where
  One : SerialVersion
  Two : SerialVersion

abbrev pub version_number : SerialVersion → ℕ
version_number One = SERIAL_VERSION_WITHOUT_INPUT
version_number Two = SERIAL_VERSION

-- 0 for a vCPU that runs, else its cause's code
abbrev pub state_byte : State → ℕ
state_byte Running = 0
state_byte (Halted cause) = code_of cause

-- the section of vCPU c
unfoldable pub cpu_section : ℕ → VcpuData → List ℕ
cpu_section c v =
    start_text FULL (FIRST_DEVICE + c) (codes "cpu") c CPU_VERSION
    ++ (flat_map be64 v.regs ++ (be64 v.pc ++ (be64 v.steps ++ (state_byte v.state ∷ footer_text (FIRST_DEVICE + c)))))

-- the sections of the vCPUs from number c on
abbrev pub cpu_sections : ℕ → List VcpuData → List ℕ
cpu_sections c [] = []
cpu_sections c (v ∷ vs) = cpu_section c v ++ cpu_sections (c + 1) vs

-- the lengths of what a serial section holds
abbrev pub serial_lengths : SerialVersion → SerialData → List ℕ
serial_lengths One s = be32 (length s.bytes)
serial_lengths Two s = be32 (length s.bytes) ++ be32 (length s.input)

-- the bytes that a serial section holds
abbrev pub serial_bytes : SerialVersion → SerialData → List ℕ
serial_bytes One s = s.bytes
serial_bytes Two s = s.bytes ++ s.input

-- the section of the serial device of a machine with so many vCPUs
unfoldable pub serial_section : SerialVersion → ℕ → SerialData → List ℕ
serial_section version vcpus s =
    start_text FULL (FIRST_DEVICE + vcpus) (codes "serial") 0 (version_number version)
    ++ (be64 s.lost ++ (serial_lengths version s ++ (serial_bytes version s ++ footer_text (FIRST_DEVICE + vcpus))))

-- the section of the timer of a machine with so many vCPUs
unfoldable pub timer_section : ℕ → ℕ → ℕ → List ℕ
timer_section vcpus clock cmp =
    start_text FULL (FIRST_DEVICE + 1 + vcpus) (codes "timer") 0 TIMER_VERSION
    ++ (be64 clock ++ (be64 cmp ++ footer_text (FIRST_DEVICE + 1 + vcpus)))

-- a version tells all that the serial device has: the first has no input
abbrev pub TellsAll : SerialVersion → SerialData → Type 0
TellsAll One s = s.input ≡ []
TellsAll Two s = Unit {0}

-- what a device text tells: the vCPUs, the serial device, the timer's compare value, and the clock
pub record DevicesData : Type 0 where
  pub vcpus : List VcpuData
  pub serial : SerialData
  pub cmp : ℕ
  pub clock : ℕ

-- a vCPU as it stands between two phases: nothing is pending, and its steps have room for a phase
pub record IsResting (v : VcpuData) : Type 0 where
  pub vcpu : IsVcpu v
  pub none_pending : v.pending ≡ None
  pub steps : v.steps ≤ MOST_AT_REST

-- within the limits of a machine at rest
pub record AreDevices (d : DevicesData) : Type 0 where
  pub some : 1 ≤ length d.vcpus
  pub count : length d.vcpus ≤ MAX_VCPUS
  pub each : All IsResting d.vcpus
  pub serial : IsSerial d.serial
  pub cmp : d.cmp < 2 ^ 64
  pub clock : d.clock ≤ MOST_AT_REST

-- all sections, and the end of the stream
abbrev pub devices_text : SerialVersion → DevicesData → List ℕ
devices_text version d =
    cpu_sections 0 d.vcpus
    ++ (serial_section version (length d.vcpus) d.serial ++ (timer_section (length d.vcpus) d.clock d.cmp ++ EOF ∷ []))

-- a machine but for its shape and its RAM
abbrev pub devices_of : MachineData → DevicesData
devices_of m = record { vcpus = m.vcpus; serial = m.serial; cmp = m.cmp; clock = m.clock }

-- the first version is one of machines that have no input
abbrev pub HasVersion : SerialVersion → MachineData → Type 0
HasVersion version m = TellsAll version m.serial

-- the text of a machine's devices
unfoldable pub device_text : SerialVersion → MachineData → List ℕ
device_text version m = devices_text version (devices_of m)

-- two machines are one but for their shape and their RAM
pub record SameDevices (m n : MachineData) : Type 0 where
  pub vcpus : m.vcpus ≡ n.vcpus
  pub serial : m.serial ≡ n.serial
  pub cmp : m.cmp ≡ n.cmp
  pub clock : m.clock ≡ n.clock
