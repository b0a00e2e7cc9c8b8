-- What stands in a file from a place on, by the pieces of a device text in their order: each is read whole and then
-- checked, and the first that fails gives the refusal (this project's own, docs/FILE_FORMAT.md).
use Rattle.std.specs.Prelude.{ℕ, suc, zero, ◌+◌, ◌==◌, ◌&&◌, nat_lt, if◌then◌else◌, List, [], ◌∷◌, ◌++◌, length, drop, slice_index, codes, Option, Some, None, Result, Ok, Err}
use Rattle.ram_block.specs.Cause.{cause_of}
use Rattle.ram_block.specs.declared.cause.Cause.{Cause}
use Rattle.ram_block.specs.declared.limits.TheConstants.{MAX_INPUT, MOST_AT_REST}
use Rattle.ram_block.specs.declared.shape.TheConstants.{MAX_VCPUS}
use Rattle.mig_stream.specs.Checks.{and_then}
use Rattle.mig_stream.specs.Pieces.{piece_in, same_text, text_in}
use Rattle.mig_stream.specs.Text.{be32, be32_at, be64_at, part_text, start_text, footer_text}
use Rattle.mig_stream.specs.declared.field_fault.FieldFault.{FieldFault}
use Rattle.mig_stream.specs.declared.put.TheConstants.{FULL, EOF}
use Rattle.mig_stream.specs.declared.text_fault.TextFault.{TextFault}
use Rattle.mig_stream.specs.declared.text_fault.TextFault.TheVariants as text
use Rattle.rv64i_step.specs.Vcpu.{VcpuData}
use Rattle.rv64i_step.specs.declared.state.State.{State}
use Rattle.rv64i_step.specs.declared.state.State.TheVariants.{Running, Halted}
use Rattle.serial_timer.specs.Serial.{SerialData}
use Rattle.serial_timer.specs.declared.serial.TheConstants.{MAX_SERIAL_BYTES}
use Rattle.device_state.specs.DeviceText.{SerialVersion, One, Two, DevicesData}
use Rattle.device_state.specs.declared.fault.DeviceFault.TheVariants.{Steps, State as StateByte, SerialLength, InputLength, Clock}
use Rattle.device_state.specs.declared.fault.DeviceReadFault.{DeviceReadFault}
use Rattle.device_state.specs.declared.fault.DeviceReadFault.TheVariants.{Field, Section, Footer, Device}
use Rattle.device_state.specs.declared.format.TheConstants.{CPU_VERSION, FIRST_DEVICE, PC_AT, SERIAL_HEAD_BYTES, SERIAL_HEAD_BYTES_WITHOUT_INPUT, SERIAL_VERSION, SERIAL_VERSION_WITHOUT_INPUT, STATE_AT, STEPS_AT, TIMER_BYTES, TIMER_VERSION, VCPU_BYTES}
use Rattle.device_state.specs.declared.kind.DeviceKind.{DeviceKind}
use Rattle.device_state.specs.declared.kind.DeviceKind.TheVariants.{Cpu, Serial}

-- what a piece has, and the place behind it
abbrev pub located : ℕ → Result (List ℕ) FieldFault → Result (List ℕ × ℕ) DeviceReadFault
located end (Ok bytes) = Ok (bytes, end)
located end (Err fault) = Err (Field fault)

-- the bytes of the piece of so many; one of none never fails
unfoldable pub bytes_in : List ℕ → ℕ → ℕ → Result (List ℕ × ℕ) DeviceReadFault
bytes_in file at len = located (at + len) (piece_in file at len)

-- the place behind a text, or which refusal the first byte is that differs
abbrev pub checked : (ℕ → ℕ → DeviceReadFault) → ℕ → Result (Unit {0}) TextFault → Result ℕ DeviceReadFault
checked refusal end (Ok same) = Ok end
checked refusal end (Err (text.Differs place found)) = Err (refusal place found)
checked refusal end (Err (text.Field fault)) = Err (Field fault)

-- a text of a section's header, or the end of the stream
unfoldable pub section_in : List ℕ → ℕ → List ℕ → Result ℕ DeviceReadFault
section_in file at wanted = checked Section (at + length wanted) (text_in file at wanted)

-- a footer
unfoldable pub footer_in : List ℕ → ℕ → ℕ → Result ℕ DeviceReadFault
footer_in file at id = checked Footer (at + length (footer_text id)) (text_in file at (footer_text id))

-- a piece that is a text and one byte more: what is read from this byte, which stands at the place
unfoldable pub tagged_in : {A : Type 0} → List ℕ → ℕ → List ℕ → (ℕ → ℕ → Result A DeviceReadFault) → Result (A × ℕ) DeviceReadFault
tagged_in file at text read =
    and_then (bytes_in file at (length text + 1)) (λ piece.
    and_then (checked Section piece.1 (same_text at piece.0 text)) (λ end.
    and_then (read (at + length text) (slice_index piece.0 (length text))) (λ found. Ok (found, end))))

-- the rest of a section behind its start: the rest of its header, a body of so many bytes, which stand at the place,
-- and the footer
unfoldable pub rest_in : {A : Type 0} → List ℕ → ℕ → List ℕ → ℕ → (ℕ → List ℕ → Result A DeviceReadFault) → ℕ → Result (A × ℕ) DeviceReadFault
rest_in file at header len read id =
    and_then (section_in file at header) (λ body_at.
    and_then (bytes_in file body_at len) (λ body.
    and_then (read body_at body.0) (λ found.
    and_then (footer_in file body.1 id) (λ end. Ok (found, end)))))

-- which section begins behind those of c vCPUs, by the length of its name
unfoldable pub kind_of : ℕ → ℕ → ℕ → Result DeviceKind DeviceReadFault
kind_of c at byte =
    if nat_lt c MAX_VCPUS && byte == length (codes "cpu") then Ok Cpu
    else if nat_lt 0 c && byte == length (codes "serial") then Ok Serial
    else Err (Section at byte)

-- the start of the section behind those of c vCPUs
abbrev pub start_in : List ℕ → ℕ → ℕ → Result (DeviceKind × ℕ) DeviceReadFault
start_in file at c = tagged_in file at (part_text FULL (FIRST_DEVICE + c)) (kind_of c)

-- the numbers of eight bytes with which these bytes begin
unfoldable pub numbers_of : ℕ → List ℕ → List ℕ
numbers_of zero bytes = []
numbers_of (suc n) bytes = be64_at bytes 0 ∷ numbers_of n (drop 8 bytes)

abbrev pub halted_by : ℕ → ℕ → Option Cause → Result State DeviceReadFault
halted_by at byte (Some cause) = Ok (Halted cause)
halted_by at byte None = Err (Device at (StateByte byte))

-- what a state's byte says
unfoldable pub state_of : ℕ → ℕ → Result State DeviceReadFault
state_of at byte = if byte == 0 then Ok Running else halted_by at byte (cause_of byte)

-- the vCPU that these bytes are, which stand at the place: its steps are checked before its state
unfoldable pub vcpu_of : ℕ → List ℕ → Result VcpuData DeviceReadFault
vcpu_of at body =
    let steps = be64_at body STEPS_AT in
    if nat_lt MOST_AT_REST steps then Err (Device (at + STEPS_AT) (Steps steps))
    else and_then (state_of (at + STATE_AT) (slice_index body STATE_AT)) (λ state.
    Ok (record { regs = numbers_of 31 body; pc = be64_at body PC_AT; steps = steps; state = state; pending = None }))

-- the section of vCPU c behind its start
abbrev pub vcpu_in : List ℕ → ℕ → ℕ → Result (VcpuData × ℕ) DeviceReadFault
vcpu_in file at c = rest_in file at (codes "cpu" ++ (be32 c ++ be32 CPU_VERSION)) VCPU_BYTES vcpu_of (FIRST_DEVICE + c)

-- the sections of the vCPUs from number c on, of which so many may still come, and the start of the serial device's
unfoldable pub vcpus_in : List ℕ → ℕ → ℕ → ℕ → Result (List VcpuData × ℕ) DeviceReadFault
vcpus_in file zero at c = and_then (start_in file at c) (λ start. Ok ([], start.1))
vcpus_in file (suc more) at c =
    and_then (start_in file at c) (λ start.
    elim start.0 [
      | Cpu ↦
          and_then (vcpu_in file start.1 c) (λ vcpu.
          and_then (vcpus_in file more vcpu.1 (c + 1)) (λ rest. Ok (vcpu.0 ∷ rest.0, rest.1)))
      | Serial ↦ Ok ([], start.1)
    ])

-- what a version's byte says
unfoldable pub version_of : ℕ → ℕ → Result SerialVersion DeviceReadFault
version_of at byte =
    if byte == SERIAL_VERSION_WITHOUT_INPUT then Ok One
    else if byte == SERIAL_VERSION then Ok Two
    else Err (Section at byte)

-- the serial section's header behind its start: its version, of which the last byte tells
abbrev pub version_in : List ℕ → ℕ → Result (SerialVersion × ℕ) DeviceReadFault
version_in file at = tagged_in file at (codes "serial" ++ (be32 0 ++ 0 ∷ 0 ∷ 0 ∷ [])) version_of

-- how many bytes the serial device has lost, and the lengths of what it holds
pub record SerialHead : Type 0 where
  pub lost : ℕ
  pub bytes : ℕ
  pub input : ℕ

abbrev pub head_bytes : SerialVersion → ℕ
head_bytes One = SERIAL_HEAD_BYTES_WITHOUT_INPUT
head_bytes Two = SERIAL_HEAD_BYTES

-- the input's length that the head tells
abbrev pub input_bytes : SerialVersion → List ℕ → ℕ
input_bytes One head = 0
input_bytes Two head = be32_at head 12

-- the head that these bytes are, which stand at the place
unfoldable pub head_of : SerialVersion → ℕ → List ℕ → Result SerialHead DeviceReadFault
head_of version at head =
    let bytes = be32_at head 8 in
    let input = input_bytes version head in
    if nat_lt MAX_SERIAL_BYTES bytes then Err (Device (at + 8) (SerialLength bytes))
    else if nat_lt MAX_INPUT input then Err (Device (at + 12) (InputLength input))
    else Ok (record { lost = be64_at head 0; bytes = bytes; input = input })

-- the head of a serial section of this version
unfoldable pub head_in : List ℕ → ℕ → SerialVersion → Result (SerialHead × ℕ) DeviceReadFault
head_in file at version =
    and_then (bytes_in file at (head_bytes version)) (λ front.
    and_then (head_of version at front.0) (λ head. Ok (head, front.1)))

-- the serial section behind its header, of a machine with so many vCPUs
unfoldable pub serial_in : List ℕ → ℕ → SerialVersion → ℕ → Result (SerialData × ℕ) DeviceReadFault
serial_in file at version vcpus =
    and_then (head_in file at version) (λ head.
    and_then (bytes_in file head.1 head.0.bytes) (λ bytes.
    and_then (bytes_in file bytes.1 head.0.input) (λ input.
    and_then (footer_in file input.1 (FIRST_DEVICE + vcpus)) (λ end.
    Ok (record { bytes = bytes.0; lost = head.0.lost; input = input.0 }, end)))))

-- the clock and the timer's compare value
pub record TimerBody : Type 0 where
  pub clock : ℕ
  pub cmp : ℕ

unfoldable pub timer_of : ℕ → List ℕ → Result TimerBody DeviceReadFault
timer_of at body =
    let clock = be64_at body 0 in
    if nat_lt MOST_AT_REST clock then Err (Device at (Clock clock))
    else Ok (record { clock = clock; cmp = be64_at body 8 })

-- the section of the timer of a machine with so many vCPUs
abbrev pub timer_in : List ℕ → ℕ → ℕ → Result (TimerBody × ℕ) DeviceReadFault
timer_in file at vcpus = rest_in file at (start_text FULL (FIRST_DEVICE + 1 + vcpus) (codes "timer") 0 TIMER_VERSION) TIMER_BYTES timer_of (FIRST_DEVICE + 1 + vcpus)

-- what a device text from a place on tells, with its version and the place behind it
pub record DevicesRead : Type 0 where
  pub devices : DevicesData
  pub version : SerialVersion
  pub end : ℕ

-- all sections, and the end of the stream
unfoldable pub devices_in : List ℕ → ℕ → Result DevicesRead DeviceReadFault
devices_in file at =
    and_then (vcpus_in file MAX_VCPUS at 0) (λ vcpus.
    and_then (version_in file vcpus.1) (λ version.
    and_then (serial_in file version.1 version.0 (length vcpus.0)) (λ serial.
    and_then (timer_in file serial.1 (length vcpus.0)) (λ timer.
    and_then (section_in file timer.1 (EOF ∷ [])) (λ end.
    Ok (record {
      devices = record { vcpus = vcpus.0; serial = serial.0; cmp = timer.0.cmp; clock = timer.0.clock };
      version = version.0;
      end = end;
    }))))))
