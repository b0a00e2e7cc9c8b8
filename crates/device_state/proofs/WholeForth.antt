-- A device text is read as what it tells.
use Rattle.std.proofs.Common.{◌≡◌, ℕ, zero, suc, ◌+◌, ◌<◌, ◌≤◌, List, [], ◌∷◌, ◌++◌, Ok, length, refl, sym, ap, ◌∙◌, subst, arith, append_assoc, length-append}
use Rattle.std.specs.Prelude.{All, codes}
use Rattle.std.proofs.lemmas.List.Elements.{All-head, All-tail}
use Rattle.mig_stream.specs.Pieces.{Has}
use Rattle.mig_stream.specs.Text.{be32, be64, part_text, footer_text}
use Rattle.mig_stream.specs.declared.put.TheConstants.{FULL, EOF}
use Rattle.rv64i_step.specs.Vcpu.{VcpuData}
use Rattle.device_state.specs.DeviceText.{SerialVersion, AreDevices, DevicesData, IsResting, cpu_section, cpu_sections, timer_section, version_number}
use Rattle.device_state.specs.Reader.{StandsAs}
use Rattle.device_state.specs.Reading.{TimerBody, devices_in, kind_of, section_in, serial_in, start_in, timer_in, timer_of, vcpu_in, vcpu_of, vcpus_in, version_in, version_of}
use Rattle.device_state.specs.declared.kind.DeviceKind.TheVariants.{Cpu, Serial}
use Rattle.device_state.proofs.Back.{cpu_header, cpu_parts, serial_header, start_bytes, timer_header, timer_parts}
use Rattle.device_state.proofs.Chains.{devices_found, on_ok}
use Rattle.device_state.proofs.Forth.{kind_cpu, kind_serial, serial_is, timer_is, vcpu_is, vcpu_length, version_is}
use Rattle.device_state.proofs.Found.{section_is}
use Rattle.device_state.proofs.Heads.{serial_rest}
use Rattle.device_state.proofs.Parts.{has_parts, has_same, rest_is, tagged_is}
use Rattle.device_state.proofs.Vcpus.{next_vcpu, serial_starts}
use Rattle.device_state.proofs.Values.{vcpu_bytes}
use Rattle.device_state.proofs.WholeBack.{all_parts}

-- a vCPU's section, and how long it is
section_length : (c : ℕ) (v : VcpuData) → IsResting v → length (cpu_section c v) ≡ 287
section_length c v rests =
    omega (arith, ap length (cpu_parts c v), vcpu_length v rests, length-append (vcpu_bytes v) (footer_text (3 + c)))

vcpu_found : (file : List ℕ) (at c : ℕ) (v : VcpuData) → IsResting v → c < 8 → Has file at (cpu_section c v) → (start_in file at c ≡ Ok (Cpu, at + 6)) × (vcpu_in file (at + 6) c ≡ Ok (v, at + 6 + 11 + 265 + 5))
vcpu_found file at c v rests lt has =
    let parts = has_parts file at (start_bytes c 3) (cpu_header c ++ (vcpu_bytes v ++ footer_text (3 + c))) (has_same file at _ _ (sym (cpu_parts c v)) has) in (
      tagged_is file at (part_text FULL (3 + c)) 3 (kind_of c) Cpu parts.0 (kind_cpu c (at + 5) lt),
      rest_is file (at + 6) 265 (3 + c) (cpu_header c) (vcpu_bytes v) vcpu_of v parts.1 (vcpu_length v rests) (vcpu_is (at + 6 + 11) v rests),
    )

-- the sections of vCPUs, and the start of the serial device's behind them
pub vcpus_are_read : (file : List ℕ) (vs : List VcpuData) (more at c end : ℕ) → All IsResting vs → length vs ≤ more → c + more ≡ 8 → 0 < c + length vs → Has file at (cpu_sections c vs ++ start_bytes (c + length vs) 6)
    → end ≡ at + length (cpu_sections c vs ++ start_bytes (c + length vs) 6) → vcpus_in file more at c ≡ Ok (vs, end)
vcpus_are_read file [] more at c end rests few count some has last =
    let here : c + 0 ≡ c = omega arith in
    let stands : Has file at (start_bytes c 6) = subst (λ (n : ℕ). Has file at (start_bytes n 6)) here has in
    let start : start_in file at c ≡ Ok (Serial, at + 6) = tagged_is file at (part_text FULL (3 + c)) 6 (kind_of c) Serial stands (kind_serial c (at + 5) (omega (arith, some))) in
    serial_starts file more at c (at + 6) start ∙ ap (λ (e : ℕ). Ok ([], e)) (sym last)
vcpus_are_read file (v ∷ vs) zero at c end rests few count some has last = absurd (omega (arith, few))
vcpus_are_read file (v ∷ vs) (suc more) at c end rests few count some has last =
    let first = All-head IsResting v vs rests in
    let next : c + 1 + length vs ≡ c + length (v ∷ vs) = omega arith in
    let tail = cpu_sections (c + 1) vs ++ start_bytes (c + length (v ∷ vs)) 6 in
    let joined : (cpu_section c v ++ cpu_sections (c + 1) vs) ++ start_bytes (c + length (v ∷ vs)) 6 ≡ cpu_section c v ++ tail = append_assoc (cpu_section c v) (cpu_sections (c + 1) vs) (start_bytes (c + length (v ∷ vs)) 6) in
    let parts = has_parts file at (cpu_section c v) tail (has_same file at _ _ joined has) in
    let one = vcpu_found file at c v first (omega (arith, count)) parts.0 in
    let q = at + 6 + 11 + 265 + 5 in
    let there : at + length (cpu_section c v) ≡ q = omega (arith, section_length c v first) in
    let behind : Has file q (cpu_sections (c + 1) vs ++ start_bytes (c + 1 + length vs) 6) =
    subst (λ (n : ℕ). Has file q (cpu_sections (c + 1) vs ++ start_bytes n 6)) (sym next) (subst (λ (p : ℕ). Has file p tail) there parts.1) in
    let same_tail : length tail ≡ length (cpu_sections (c + 1) vs ++ start_bytes (c + 1 + length vs) 6) = ap (λ (n : ℕ). length (cpu_sections (c + 1) vs ++ start_bytes n 6)) (sym next) in
    let end_is : end ≡ q + length (cpu_sections (c + 1) vs ++ start_bytes (c + 1 + length vs) 6) = omega (arith, last, ap length joined, length-append (cpu_section c v) tail, section_length c v first, same_tail) in
    let rest : vcpus_in file more q (c + 1) ≡ Ok (vs, end) =
    vcpus_are_read file vs more q (c + 1) end (All-tail IsResting v vs rests) (omega (arith, few)) (omega (arith, count)) (omega arith) behind end_is in
    next_vcpu file more at c (at + 6) q v one.0 one.1 ∙ on_ok (vcpus_in file more q (c + 1)) _ (vs, end) rest

header_length : (version : SerialVersion) → length (serial_header version) ≡ 14
header_length version = refl

pub devices_are_read : (file : List ℕ) (at end : ℕ) (version : SerialVersion) (d : DevicesData) → AreDevices d → StandsAs file at end version d → devices_in file at ≡ Ok (record { devices = d; version = version; end = end })
devices_are_read file at end version d are stands =
    let n = length d.vcpus in
    let zero_first : n ≡ 0 + n = omega arith in
    let a = cpu_sections 0 d.vcpus ++ start_bytes n 6 in
    let b = serial_header version in
    let s = serial_rest version n d.serial in
    let t = timer_section n d.clock d.cmp in
    let e = EOF ∷ [] in
    let joined = all_parts version d in
    let one = has_parts file at a (b ++ (s ++ (t ++ e))) (has_same file at _ _ (sym joined) stands.bytes) in
    let p1 = at + length a in
    let two = has_parts file p1 b (s ++ (t ++ e)) one.1 in
    let p2 = p1 + length b in
    let three = has_parts file p2 s (t ++ e) two.1 in
    let p3 = p2 + length s in
    let four = has_parts file p3 t e three.1 in
    let p4 = p3 + length t in
    let body = be64 d.clock ++ be64 d.cmp in
    let told : TimerBody = record { clock = d.clock; cmp = d.cmp } in
    let timer_text : Has file p3 (timer_header n ++ (body ++ footer_text (3 + 1 + n))) = has_same file p3 _ _ (sym (timer_parts n d.clock d.cmp)) four.0 in
    let vcpus : vcpus_in file 8 at 0 ≡ Ok (d.vcpus, p1) =
    vcpus_are_read file d.vcpus 8 at 0 p1 are.each are.count refl (omega (arith, are.some)) (subst (λ (k : ℕ). Has file at (cpu_sections 0 d.vcpus ++ start_bytes k 6)) zero_first one.0) (ap (λ (k : ℕ). at + length (cpu_sections 0 d.vcpus ++ start_bytes k 6)) zero_first) in
    let header : version_in file p1 ≡ Ok (version, p1 + 14) = tagged_is file p1 (codes "serial" ++ (be32 0 ++ 0 ∷ 0 ∷ 0 ∷ [])) (version_number version) version_of version two.0 (version_is (p1 + 13) version) in
    let p2_is : p1 + 14 ≡ p2 = omega (arith, header_length version) in
    let version_found : version_in file p1 ≡ Ok (version, p2) = header ∙ ap (λ (p : ℕ). Ok (version, p)) p2_is in
    let serial : serial_in file p2 version n ≡ Ok (d.serial, p3) = serial_is file p2 version n d.serial are.serial stands.tells_all three.0 p3 refl in
    let timer : timer_in file p3 n ≡ Ok (told, p3 + 19 + 16 + 5) = rest_is file p3 16 (3 + 1 + n) (timer_header n) body timer_of told timer_text refl (timer_is (p3 + 19) d.clock d.cmp are.clock are.cmp) in
    let t_length : length t ≡ 40 = sym (ap length (timer_parts n d.clock d.cmp)) in
    let p4_is : p3 + 19 + 16 + 5 ≡ p4 = omega (arith, t_length) in
    let timer_found : timer_in file p3 n ≡ Ok (told, p4) = timer ∙ ap (λ (p : ℕ). Ok (told, p)) p4_is in
    let last : p4 + 1 ≡ end = omega (arith, stands.end, ap length joined, length-append a (b ++ (s ++ (t ++ e))), length-append b (s ++ (t ++ e)), length-append s (t ++ e), length-append t e) in
    let eof : section_in file p4 e ≡ Ok end = section_is file p4 e four.1 ∙ ap (λ (p : ℕ). Ok p) last in
    devices_found file at d.vcpus p1 vcpus version p2 n refl version_found d.serial p3 serial told p4 timer_found end eof
