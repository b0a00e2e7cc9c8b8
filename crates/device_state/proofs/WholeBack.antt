-- What is read as a device text is one.
use Rattle.std.proofs.Common.{◌≡◌, ℕ, ◌+◌, ◌≤◌, List, [], ◌∷◌, ◌++◌, Ok, length, refl, sym, ap, ◌∙◌, subst, arith, append_assoc, length-append}
use Rattle.std.specs.Prelude.{codes}
use Rattle.mig_stream.specs.Text.{be32, footer_text}
use Rattle.mig_stream.specs.declared.put.TheConstants.{EOF}
use Rattle.rv64i_step.specs.Vcpu.{VcpuData}
use Rattle.serial_timer.specs.Serial.{SerialData}
use Rattle.device_state.specs.DeviceText.{SerialVersion, AreDevices, DevicesData, cpu_sections, devices_text, timer_section}
use Rattle.device_state.specs.Reader.{AreBytes, StandsAs}
use Rattle.device_state.specs.Reading.{DevicesRead, TimerBody, bytes_in, devices_in, footer_in, head_bytes, head_in, head_of, section_in, serial_in, timer_in, timer_of, vcpus_in, version_in, version_of}
use Rattle.device_state.proofs.Back.{IsText, text_both, text_same, start_bytes, serial_header, serial_parts, timer_header, timer_parts, vcpus_told}
use Rattle.device_state.proofs.Found.{bytes_of, footer_of, section_of}
use Rattle.device_state.proofs.Heads.{bytes_there, serial_rest, serial_told}
use Rattle.device_state.proofs.Parts.{found_first, has_piece, rest_of, tagged_of}
use Rattle.device_state.proofs.Values.{ok_same, timer_told, version_told}

-- a serial section ends no earlier than it begins
serial_goes_on : (file : List ℕ) (at : ℕ) (version : SerialVersion) (vcpus : ℕ) (s : SerialData) (end : ℕ) → serial_in file at version vcpus ≡ Ok (s, end) → at ≤ end
unfolding serial_in head_in
serial_goes_on file at version vcpus s end is =
    let head = found_first (head_in file at version) _ (s, end) is in
    let front = found_first (bytes_in file at (head_bytes version)) _ head.0 head.1 in
    let said = found_first (head_of version at front.0.0) _ head.0 front.2 in
    let bytes = found_first (bytes_in file head.0.1 head.0.0.bytes) _ (s, end) head.2 in
    let input = found_first (bytes_in file bytes.0.1 head.0.0.input) _ (s, end) bytes.2 in
    let foot = found_first (footer_in file input.0.1 (3 + vcpus)) _ (s, end) input.2 in
    let first : front.0.1 ≡ head.0.1 = ap (λ (p : _ × ℕ). p.1) (ok_same _ _ said.2) in
    let last : foot.0 ≡ end = ap (λ (p : SerialData × ℕ). p.1) (ok_same _ _ foot.2) in
    omega (
      arith,
      first,
      last,
      (bytes_of file at (head_bytes version) front.0.1 front.0.0 front.1).1,
      (bytes_of file head.0.1 head.0.0.bytes bytes.0.1 bytes.0.0 bytes.1).1,
      (bytes_of file bytes.0.1 head.0.0.input input.0.1 input.0.0 input.1).1,
      (footer_of file input.0.1 foot.0 (3 + vcpus) foot.1).1,
    )

-- the sections one behind another
pub all_parts : (version : SerialVersion) (d : DevicesData)
    → (cpu_sections 0 d.vcpus ++ start_bytes (length d.vcpus) 6) ++ (serial_header version ++ (serial_rest version (length d.vcpus) d.serial ++ (timer_section (length d.vcpus) d.clock d.cmp ++ EOF ∷ []))) ≡ devices_text version d
all_parts version d =
    let n = length d.vcpus in
    let rest = timer_section n d.clock d.cmp ++ EOF ∷ [] in
    append_assoc (cpu_sections 0 d.vcpus) (start_bytes n 6) (serial_header version ++ (serial_rest version n d.serial ++ rest))
    ∙ ap (λ (l : List ℕ). cpu_sections 0 d.vcpus ++ l) (ap (λ (l : List ℕ). start_bytes n 6 ++ l) (sym (append_assoc (serial_header version) (serial_rest version n d.serial) rest))
    ∙ sym (append_assoc (start_bytes n 6) (serial_header version ++ serial_rest version n d.serial) rest)
    ∙ ap (λ (l : List ℕ). l ++ rest) (serial_parts version n d.serial))

pub devices_told : (file : List ℕ) (at : ℕ) (read : DevicesRead) → AreBytes file at read.end → devices_in file at ≡ Ok read → AreDevices read.devices × StandsAs file at read.end read.version read.devices
unfolding devices_in
devices_told file at read each is =
    let one = found_first (vcpus_in file 8 at 0) _ read is in
    let vs : List VcpuData = one.0.0 in
    let p1 : ℕ = one.0.1 in
    let n = length vs in
    let two = found_first (version_in file p1) _ read one.2 in
    let version : SerialVersion = two.0.0 in
    let p2 : ℕ = two.0.1 in
    let three = found_first (serial_in file p2 version n) _ read two.2 in
    let s : SerialData = three.0.0 in
    let p3 : ℕ = three.0.1 in
    let four = found_first (timer_in file p3 n) _ read three.2 in
    let t : TimerBody = four.0.0 in
    let p4 : ℕ = four.0.1 in
    let five = found_first (section_in file p4 (EOF ∷ [])) _ read four.2 in
    let d : DevicesData = record { vcpus = vs; serial = s; cmp = t.cmp; clock = t.clock } in
    let told : DevicesRead = record { devices = d; version = version; end = five.0 } in
    let same : told ≡ read = ok_same _ _ five.2 in
    let last : five.0 ≡ read.end = ap (λ (r : DevicesRead). r.end) same in
    let tagged = tagged_of file p1 (codes "serial" ++ (be32 0 ++ 0 ∷ 0 ∷ 0 ∷ [])) version_of version p2 two.1 in
    let timer = rest_of file p3 16 (3 + 1 + n) (timer_header n) timer_of t p4 four.1 in
    let eof = section_of file p4 five.0 (EOF ∷ []) five.1 in
    let serial_on : p2 ≤ p3 = serial_goes_on file p2 version n s p3 three.1 in
    let p1_end : p1 ≤ read.end = omega (arith, last, tagged.behind, serial_on, timer.behind, eof.1) in
    let vcpus = vcpus_told file 8 at 0 p1 vs refl one.1 (λ i from to. each i from (omega (arith, to, p1_end))) in
    let at_p1 : at ≤ p1 = omega (arith, vcpus.text.behind) in
    let serial = serial_told file p2 version n s p3 three.1 (λ i from to. each i (omega (arith, from, at_p1, tagged.behind)) (omega (arith, to, last, timer.behind, eof.1))) in
    let within : p3 + 19 + length timer.body ≤ read.end = omega (arith, timer.count, timer.behind, eof.1, last) in
    let body_bytes = bytes_there file (p3 + 19) (length timer.body) read.end timer.body timer.body_stands within (λ i from to. each i (omega (arith, from, at_p1, tagged.behind, serial_on)) to) in
    let timer_is = timer_told (p3 + 19) timer.body t timer.count body_bytes timer.told in
    let zero_first : 0 + n ≡ n = omega arith in
    let vcpus_text : IsText file at (cpu_sections 0 vs ++ start_bytes n 6) p1 = subst (λ (k : ℕ). IsText file at (cpu_sections 0 vs ++ start_bytes k 6) p1) zero_first vcpus.text in
    let version_text : IsText file p1 (serial_header version) p2 =
    subst (λ (b : ℕ). IsText file p1 ((codes "serial" ++ (be32 0 ++ 0 ∷ 0 ∷ 0 ∷ [])) ++ b ∷ []) p2) (version_told (p1 + 13) tagged.byte version tagged.told) (record { stands = tagged.stands; behind = tagged.behind }) in
    let serial_text : IsText file p2 (serial_rest version n s) p3 = record { stands = serial.stands; behind = serial.behind } in
    let timer_bytes : IsText file p3 (timer_header n ++ (timer.body ++ footer_text (3 + 1 + n))) p4 = record { stands = timer.stands; behind = omega (arith, timer.behind, timer.count, length-append timer.body (footer_text (3 + 1 + n))) } in
    let timer_text : IsText file p3 (timer_section n t.clock t.cmp) p4 = text_same file p3 p4 _ _ (ap (λ (b : List ℕ). timer_header n ++ (b ++ footer_text (3 + 1 + n))) timer_is.2 ∙ timer_parts n t.clock t.cmp) timer_bytes in
    let eof_text : IsText file p4 (EOF ∷ []) five.0 = record { stands = has_piece file p4 1 (EOF ∷ []) eof.0; behind = eof.1 } in
    let whole : IsText file at (devices_text version d) five.0 =
    text_same file at five.0 _ _ (all_parts version d) (text_both file at p1 five.0 _ _ vcpus_text (text_both file p1 p2 five.0 _ _ version_text (text_both file p2 p3 five.0 _ _ serial_text (text_both file p3 p4 five.0 _ _ timer_text eof_text)))) in
    let limits : AreDevices d = record { some = omega (arith, vcpus.some); count = vcpus.few; each = vcpus.each; serial = serial.limits; cmp = timer_is.1; clock = timer_is.0 } in
    let stands : StandsAs file at five.0 version d = record { tells_all = serial.tells_all; bytes = whole.stands; end = whole.behind } in
    subst (λ (r : DevicesRead). AreDevices r.devices × StandsAs file at r.end r.version r.devices) same (limits, stands)
