-- The device text of a machine at rest is short.
use Rattle.std.proofs.Common.{◌≡◌, ℕ, zero, suc, ◌+◌, ◌*◌, ◌≤◌, List, [], ◌∷◌, ◌++◌, length, All, refl, arith, length-append}
use Rattle.std.specs.List.{flat_map}
use Rattle.mig_stream.specs.Text.{be64, footer_text}
use Rattle.rv64i_step.specs.Vcpu.{VcpuData, IsVcpu}
use Rattle.serial_timer.specs.Serial.{SerialData, IsSerial}
use Rattle.flat_machine.specs.Machine.{MachineData, IsMachine}
use Rattle.device_state.specs.DeviceText.{Two, cpu_section, cpu_sections, device_text, serial_section, timer_section, state_byte}

numbers_length : (regs : List ℕ) → length (flat_map be64 regs) ≡ 8 * length regs
numbers_length [] = refl
numbers_length (r ∷ regs) = omega (arith, numbers_length regs)

cpu_length : (c : ℕ) (v : VcpuData) → IsVcpu v → length (cpu_section c v) ≡ 287
unfolding cpu_section
cpu_length c v is =
    omega (arith, is.count, numbers_length v.regs, length-append (flat_map be64 v.regs) (be64 v.pc ++ (be64 v.steps ++ (state_byte v.state ∷ footer_text (3 + c)))))

cpus_length : (c : ℕ) (vs : List VcpuData) → All IsVcpu vs → length (cpu_sections c vs) ≡ 287 * length vs
cpus_length c [] all = omega arith
cpus_length c (v ∷ vs) all =
    omega (arith, cpu_length c v (all zero v (omega arith)), cpus_length (c + 1) vs (λ i d lt. all (suc i) d (omega arith)), length-append (cpu_section c v) (cpu_sections (c + 1) vs))

serial_length : (n : ℕ) (s : SerialData) → IsSerial s → length (serial_section Two n s) ≤ 100000
unfolding serial_section
serial_length n s is =
    omega (arith, is.bytes, is.input, length-append (s.bytes ++ s.input) (footer_text (3 + n)), length-append s.bytes s.input)

timer_length : (n clock cmp : ℕ) → length (timer_section n clock cmp) ≤ 100
unfolding timer_section
timer_length n clock cmp = omega arith

pub device_text_short : (m : MachineData) → IsMachine m → length (device_text Two m) ≤ 1000000
unfolding device_text
device_text_short m is =
    omega (
      arith,
      cpus_length 0 m.vcpus is.each,
      is.vcpus,
      is.shape.vcpus.1,
      serial_length (length m.vcpus) m.serial is.serial,
      timer_length (length m.vcpus) m.clock m.cmp,
      length-append (cpu_sections 0 m.vcpus) (serial_section Two (length m.vcpus) m.serial ++ (timer_section (length m.vcpus) m.clock m.cmp ++ 0 ∷ [])),
      length-append (serial_section Two (length m.vcpus) m.serial) (timer_section (length m.vcpus) m.clock m.cmp ++ 0 ∷ []),
      length-append (timer_section (length m.vcpus) m.clock m.cmp) (0 ∷ []),
    )
