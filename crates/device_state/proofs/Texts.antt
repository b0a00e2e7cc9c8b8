-- What a device text tells of its machine, section by section.
use Rattle.std.proofs.Common.{◌≡◌, ℕ, ◌+◌, ◌^◌, ◌<◌, List, [], ◌∷◌, ◌++◌, length, get_or, Some, None, refl, sym, ap, ◌∙◌, arith, append_assoc}
use Rattle.std.specs.Prelude.{All, codes}
use Rattle.std.specs.List.{flat_map}
use Rattle.std.proofs.lemmas.List.{append_cancel_left, length-append}
use Rattle.std.proofs.lemmas.List.Elements.{All-head, All-tail}
use Rattle.ram_block.specs.Cause.{cause_of, code_of}
use Rattle.ram_block.specs.declared.cause.Cause.{Cause}
use Rattle.ram_block.specs.declared.cause.Cause.TheVariants.{FetchMisaligned, FetchOutside, Illegal, JumpMisaligned, LoadMisaligned, LoadOutside, StoreMisaligned, StoreOutside, Ecall, Ebreak}
use Rattle.mig_stream.specs.Text.{be32, be64, start_text, footer_text}
use Rattle.mig_stream.specs.declared.put.TheConstants.{FULL, EOF}
use Rattle.rv64i_step.specs.Vcpu.{VcpuData, IsVcpu}
use Rattle.rv64i_step.specs.declared.state.State.{State}
use Rattle.rv64i_step.specs.declared.state.State.TheVariants.{Running, Halted}
use Rattle.serial_timer.specs.Serial.{SerialData, IsSerial}
use Rattle.flat_machine.specs.Machine.{IsMachine, MachineData, Rest}
use Rattle.device_state.specs.DeviceText.{SerialVersion, One, Two, HasVersion, SameDevices, version_number, state_byte, cpu_section, cpu_sections, serial_section, timer_section, device_text}
use Rattle.device_state.proofs.Split.{split, split_first, be32-same, be32_first, be64_first}

-- the cause that a code stands for is the one whose code it is
cause_back : (cause : Cause) → cause_of (code_of cause) ≡ Some cause
unfolding cause_of
cause_back FetchMisaligned = refl
cause_back FetchOutside = refl
cause_back Illegal = refl
cause_back JumpMisaligned = refl
cause_back LoadMisaligned = refl
cause_back LoadOutside = refl
cause_back StoreMisaligned = refl
cause_back StoreOutside = refl
cause_back Ecall = refl
cause_back Ebreak = refl

code_some : (cause : Cause) → 0 < code_of cause
code_some FetchMisaligned = omega arith
code_some FetchOutside = omega arith
code_some Illegal = omega arith
code_some JumpMisaligned = omega arith
code_some LoadMisaligned = omega arith
code_some LoadOutside = omega arith
code_some StoreMisaligned = omega arith
code_some StoreOutside = omega arith
code_some Ecall = omega arith
code_some Ebreak = omega arith

state_byte-same : (s t : State) → state_byte s ≡ state_byte t → s ≡ t
state_byte-same Running Running same = refl
state_byte-same Running (Halted cause) same = absurd (omega (arith, same, code_some cause))
state_byte-same (Halted cause) Running same = absurd (omega (arith, same, code_some cause))
state_byte-same (Halted one) (Halted two) same =
    let both : Some one ≡ Some two = sym (cause_back one) ∙ ap cause_of same ∙ cause_back two in
    let equal : one ≡ two = cc in
    ap Halted equal

-- numbers one after another
numbers : (xs ys t u : List ℕ) → length xs ≡ length ys → All (λ x. x < 2 ^ 64) xs → All (λ y. y < 2 ^ 64) ys → flat_map be64 xs ++ t ≡ flat_map be64 ys ++ u → (xs ≡ ys) × (t ≡ u)
numbers [] [] t u len fits other same = (refl, same)
numbers [] (y ∷ ys) t u len fits other same = absurd (omega (arith, len))
numbers (x ∷ xs) [] t u len fits other same = absurd (omega (arith, len))
numbers (x ∷ xs) (y ∷ ys) t u len fits other same =
    let parts = be64_first x y (flat_map be64 xs) (flat_map be64 ys) t u (All-head (λ (n : ℕ). n < 2 ^ 64) x xs fits) (All-head (λ (n : ℕ). n < 2 ^ 64) y ys other) same in
    let first : x ≡ y = parts.0 in
    let rest = numbers xs ys t u (omega (arith, len)) (All-tail (λ (n : ℕ). n < 2 ^ 64) x xs fits) (All-tail (λ (n : ℕ). n < 2 ^ 64) y ys other) parts.1 in
    let equal : xs ≡ ys = rest.0 in
    (cc, rest.1)

-- a vCPU with nothing pending, in each of its parts
same_vcpu : (v w : VcpuData) → v.regs ≡ w.regs → v.pc ≡ w.pc → v.steps ≡ w.steps → v.state ≡ w.state → v.pending ≡ None → w.pending ≡ None → v ≡ w
same_vcpu v w regs pc steps state none other =
    let pending : v.pending ≡ w.pending = none ∙ sym other in
    λ i. record { regs = regs i; pc = pc i; steps = steps i; state = state i; pending = pending i }

-- the section of a vCPU that comes first
vcpu_first : (c : ℕ) (v w : VcpuData) (x y : List ℕ) → IsVcpu v → IsVcpu w → v.pending ≡ None → w.pending ≡ None → cpu_section c v ++ x ≡ cpu_section c w ++ y → (v ≡ w) × (x ≡ y)
unfolding cpu_section
vcpu_first c v w x y is other none nor same =
    let head = start_text FULL (3 + c) (codes "cpu") c 1 in
    let foot = footer_text (3 + c) in
    let body = λ (u : VcpuData). be64 u.pc ++ (be64 u.steps ++ (state_byte u.state ∷ foot)) in
    let one = split_first head head (flat_map be64 v.regs ++ body v) (flat_map be64 w.regs ++ body w) x y refl same in
    let two = numbers v.regs w.regs (body v ++ x) (body w ++ y) (is.count ∙ sym other.count) is.regs other.regs
    (sym (append_assoc (flat_map be64 v.regs) (body v) x) ∙ one.1 ∙ append_assoc (flat_map be64 w.regs) (body w) y) in
    let three = be64_first v.pc w.pc (be64 v.steps ++ (state_byte v.state ∷ foot)) (be64 w.steps ++ (state_byte w.state ∷ foot)) x y is.pc other.pc two.1 in
    let four = be64_first v.steps w.steps (state_byte v.state ∷ foot) (state_byte w.state ∷ foot) x y is.steps other.steps three.1 in
    let five = split (state_byte v.state ∷ []) (state_byte w.state ∷ []) (foot ++ x) (foot ++ y) refl four.1 in
    let state : state_byte v.state ≡ state_byte w.state = ap (λ (l : List ℕ). get_or l 0 0) five.0 in
    (same_vcpu v w two.0 three.0 four.0 (state_byte-same v.state w.state state) none nor, append_cancel_left foot x y five.1)

-- the byte that tells a section of a vCPU from that of the serial device: the length of its name
cpu_name : (c : ℕ) (v : VcpuData) (x : List ℕ) → get_or (cpu_section c v ++ x) 5 0 ≡ 3
unfolding cpu_section
cpu_name c v x = refl

serial_name : (version : SerialVersion) (k : ℕ) (s : SerialData) (x : List ℕ) → get_or (serial_section version k s ++ x) 5 0 ≡ 6
unfolding serial_section
serial_name version k s x = refl

abbrev IsAtRest : VcpuData → Type 0
IsAtRest v = v.pending ≡ None

-- the sections of all vCPUs, behind which the serial device's comes
vcpus_first : (c : ℕ) (vs ws : List VcpuData) (x y : List ℕ) → All IsVcpu vs → All IsVcpu ws → All IsAtRest vs → All IsAtRest ws
    → get_or x 5 0 ≡ 6 → get_or y 5 0 ≡ 6 → cpu_sections c vs ++ x ≡ cpu_sections c ws ++ y → (vs ≡ ws) × (x ≡ y)
vcpus_first c [] [] x y is other none nor here there same = (refl, same)
vcpus_first c [] (w ∷ ws) x y is other none nor here there same =
    let name = ap (λ (l : List ℕ). get_or l 5 0) (same ∙ append_assoc (cpu_section c w) (cpu_sections (c + 1) ws) y) in
    absurd (omega (arith, name, here, cpu_name c w (cpu_sections (c + 1) ws ++ y)))
vcpus_first c (v ∷ vs) [] x y is other none nor here there same =
    let name = ap (λ (l : List ℕ). get_or l 5 0) (sym same ∙ append_assoc (cpu_section c v) (cpu_sections (c + 1) vs) x) in
    absurd (omega (arith, name, there, cpu_name c v (cpu_sections (c + 1) vs ++ x)))
vcpus_first c (v ∷ vs) (w ∷ ws) x y is other none nor here there same =
    let one = vcpu_first c v w (cpu_sections (c + 1) vs ++ x) (cpu_sections (c + 1) ws ++ y) (All-head IsVcpu v vs is) (All-head IsVcpu w ws other) (All-head IsAtRest v vs none) (All-head IsAtRest w ws nor)
    (sym (append_assoc (cpu_section c v) (cpu_sections (c + 1) vs) x) ∙ same ∙ append_assoc (cpu_section c w) (cpu_sections (c + 1) ws) y) in
    let rest = vcpus_first (c + 1) vs ws x y (All-tail IsVcpu v vs is) (All-tail IsVcpu w ws other) (All-tail IsAtRest v vs none) (All-tail IsAtRest w ws nor) here there one.1 in
    let first : v ≡ w = one.0 in
    let behind : vs ≡ ws = rest.0 in
    (cc, rest.1)

-- a serial device in each of its parts
same_serial : (s t : SerialData) → s.bytes ≡ t.bytes → s.lost ≡ t.lost → s.input ≡ t.input → s ≡ t
same_serial s t bytes lost input = λ i. record { bytes = bytes i; lost = lost i; input = input i }

-- the input is what the version can tell
abbrev HasInput : SerialVersion → SerialData → Type 0
HasInput One s = s.input ≡ []
HasInput Two s = Unit {0}

-- the section of the serial device that comes first, by the version of each
module _ (k l : ℕ) (s t : SerialData) (x y : List ℕ) (is : IsSerial s) (other : IsSerial t) where
  abbrev head : SerialVersion → ℕ → List ℕ
  head version n = start_text FULL (3 + n) (codes "serial") 0 (version_number version)

  foot_first : footer_text (3 + k) ++ x ≡ footer_text (3 + l) ++ y → x ≡ y
  foot_first same = (split (footer_text (3 + k)) (footer_text (3 + l)) x y refl same).1

  version_first : (v w : SerialVersion) → serial_section v k s ++ x ≡ serial_section w l t ++ y → version_number v ≡ version_number w
  unfolding serial_section
  version_first One One same = refl
  version_first Two Two same = refl
  version_first One Two same = ap (λ (b : List ℕ). get_or b 19 0) same
  version_first Two One same = ap (λ (b : List ℕ). get_or b 19 0) same

  serial_one : s.input ≡ [] → t.input ≡ [] → serial_section One k s ++ x ≡ serial_section One l t ++ y → (s ≡ t) × (x ≡ y)
  unfolding serial_section
  serial_one empty void same =
      let one = split_first (head One k) (head One l) (be64 s.lost ++ (be32 (length s.bytes) ++ (s.bytes ++ footer_text (3 + k)))) (be64 t.lost ++ (be32 (length t.bytes) ++ (t.bytes ++ footer_text (3 + l)))) x y refl same in
      let two = be64_first s.lost t.lost (be32 (length s.bytes) ++ (s.bytes ++ footer_text (3 + k))) (be32 (length t.bytes) ++ (t.bytes ++ footer_text (3 + l))) x y is.lost other.lost one.1 in
      let three = be32_first (length s.bytes) (length t.bytes) (s.bytes ++ footer_text (3 + k)) (t.bytes ++ footer_text (3 + l)) x y (omega (arith, is.bytes)) (omega (arith, other.bytes)) two.1 in
      let four = split_first s.bytes t.bytes (footer_text (3 + k)) (footer_text (3 + l)) x y three.0 three.1 in
      (same_serial s t four.0 two.0 (empty ∙ sym void), foot_first four.1)

  serial_two : serial_section Two k s ++ x ≡ serial_section Two l t ++ y → (s ≡ t) × (x ≡ y)
  unfolding serial_section
  serial_two same =
      let held = λ (u : SerialData) (n : ℕ). (u.bytes ++ u.input) ++ footer_text (3 + n) in
      let sizes = λ (u : SerialData). be32 (length u.bytes) ++ be32 (length u.input) in
      let one = split_first (head Two k) (head Two l) (be64 s.lost ++ (sizes s ++ held s k)) (be64 t.lost ++ (sizes t ++ held t l)) x y refl same in
      let two = be64_first s.lost t.lost (sizes s ++ held s k) (sizes t ++ held t l) x y is.lost other.lost one.1 in
      let three = split_first (sizes s) (sizes t) (held s k) (held t l) x y refl two.1 in
      let bytes_size = split (be32 (length s.bytes)) (be32 (length t.bytes)) (be32 (length s.input)) (be32 (length t.input)) refl three.0 in
      let bytes_len = be32-same (length s.bytes) (length t.bytes) (omega (arith, is.bytes)) (omega (arith, other.bytes)) bytes_size.0 in
      let input_len = be32-same (length s.input) (length t.input) (omega (arith, is.input)) (omega (arith, other.input)) bytes_size.1 in
      let sum = length-append s.bytes s.input ∙ ap (λ (n : ℕ). n + length s.input) bytes_len ∙ ap (λ (n : ℕ). length t.bytes + n) input_len ∙ sym (length-append t.bytes t.input) in
      let four = split_first (s.bytes ++ s.input) (t.bytes ++ t.input) (footer_text (3 + k)) (footer_text (3 + l)) x y sum three.1 in
      let five = split s.bytes t.bytes s.input t.input bytes_len four.0 in
      (same_serial s t five.0 two.0 five.1, foot_first four.1)

  serial_first : (v w : SerialVersion) → HasInput v s → HasInput w t → serial_section v k s ++ x ≡ serial_section w l t ++ y → (s ≡ t) × (x ≡ y)
  serial_first One One empty void same = serial_one empty void same
  serial_first Two Two empty void same = serial_two same
  serial_first One Two empty void same = absurd (omega (arith, version_first One Two same))
  serial_first Two One empty void same = absurd (omega (arith, version_first Two One same))

-- the section of the timer
timer_first : (k l clock cmp time due : ℕ) (x y : List ℕ) → clock < 2 ^ 64 → cmp < 2 ^ 64 → time < 2 ^ 64 → due < 2 ^ 64 → timer_section k clock cmp ++ x ≡ timer_section l time due ++ y
    → (clock ≡ time) × (cmp ≡ due)
unfolding timer_section
timer_first k l clock cmp time due x y clock_fits cmp_fits time_fits due_fits same =
    let one = split_first (start_text FULL (4 + k) (codes "timer") 0 1) (start_text FULL (4 + l) (codes "timer") 0 1) (be64 clock ++ (be64 cmp ++ footer_text (4 + k)))
    (be64 time ++ (be64 due ++ footer_text (4 + l))) x y refl same in
    let two = be64_first clock time (be64 cmp ++ footer_text (4 + k)) (be64 due ++ footer_text (4 + l)) x y clock_fits time_fits one.1 in
    let three = be64_first cmp due (footer_text (4 + k)) (footer_text (4 + l)) x y cmp_fits due_fits two.1 in
    (two.0, three.0)

has_input : (v : SerialVersion) (m : MachineData) → HasVersion v m → HasInput v m.serial
has_input One m has = has
has_input Two m has = tt

-- a device text tells the vCPUs, the serial device, the compare value and the clock
pub same_devices : (v w : SerialVersion) (m n : MachineData) → IsMachine m → Rest m → HasVersion v m → IsMachine n → Rest n → HasVersion w n → device_text v m ≡ device_text w n → SameDevices m n
unfolding device_text
same_devices v w m n is rest has other calm holds same =
    let k = length m.vcpus in
    let l = length n.vcpus in
    let timer = timer_section k m.clock m.cmp ++ (EOF ∷ []) in
    let later = timer_section l n.clock n.cmp ++ (EOF ∷ []) in
    let one = vcpus_first 0 m.vcpus n.vcpus (serial_section v k m.serial ++ timer) (serial_section w l n.serial ++ later) is.each other.each rest.none_pending calm.none_pending
    (serial_name v k m.serial timer) (serial_name w l n.serial later) same in
    let two = serial_first k l m.serial n.serial timer later is.serial other.serial v w (has_input v m has) (has_input w n holds) one.1 in
    let three = timer_first k l m.clock m.cmp n.clock n.cmp (EOF ∷ []) (EOF ∷ []) (omega (arith, is.clock)) is.cmp (omega (arith, other.clock)) other.cmp two.1 in
    record { vcpus = one.0; serial = two.0; cmp = three.1; clock = three.0 }
