-- What is read is a device text.
use Rattle.std.proofs.Common.{◌≡◌, ℕ, zero, suc, ◌+◌, ◌<◌, ◌≤◌, List, [], ◌∷◌, ◌++◌, Result, Ok, length, refl, sym, ap, ◌∙◌, subst, arith, append_assoc, length-append}
use Rattle.std.specs.Prelude.{All, codes}
use Rattle.std.specs.List.{flat_map}
use Rattle.std.proofs.lemmas.List.Elements.{All-cons, All-nil}
use Rattle.mig_stream.specs.Checks.{and_then}
use Rattle.mig_stream.specs.Pieces.{Has}
use Rattle.mig_stream.specs.Text.{be32, be64, part_text, start_text, footer_text}
use Rattle.mig_stream.specs.declared.put.TheConstants.{FULL}
use Rattle.rv64i_step.specs.Vcpu.{VcpuData}
use Rattle.serial_timer.specs.Serial.{SerialData}
use Rattle.device_state.specs.DeviceText.{SerialVersion, One, Two, IsResting, cpu_section, cpu_sections, serial_section, state_byte, timer_section, version_number}
use Rattle.device_state.specs.Reader.{AreBytes}
use Rattle.device_state.specs.Reading.{kind_of, start_in, vcpu_in, vcpu_of, vcpus_in}
use Rattle.device_state.specs.declared.fault.DeviceReadFault.{DeviceReadFault}
use Rattle.device_state.specs.declared.kind.DeviceKind.{DeviceKind}
use Rattle.device_state.specs.declared.kind.DeviceKind.TheVariants.{Cpu, Serial}
use Rattle.device_state.proofs.Heads.{bytes_there, serial_rest}
use Rattle.device_state.proofs.Parts.{found_first, has_both, rest_of, tagged_of}
use Rattle.device_state.proofs.Values.{IsKind, kind_told, ok_same, vcpu_bytes, vcpu_told}

-- a text that stands in the file up to a place
pub record IsText (file : List ℕ) (at : ℕ) (text : List ℕ) (end : ℕ) : Type 0 where
  pub stands : Has file at text
  pub behind : end ≡ at + length text

pub text_both : (file : List ℕ) (at between end : ℕ) (one two : List ℕ) → IsText file at one between → IsText file between two end → IsText file at (one ++ two) end
text_both file at between end one two first second = record {
  stands = has_both file at one two first.stands (subst (λ (p : ℕ). Has file p two) first.behind second.stands);
  behind = omega (arith, first.behind, second.behind, length-append one two);
}

pub text_same : (file : List ℕ) (at end : ℕ) (one two : List ℕ) → one ≡ two → IsText file at one end → IsText file at two end
text_same file at end one two same is = subst (λ (t : List ℕ). IsText file at t end) same is

-- the start of a section behind those of c vCPUs, by the length of its name
abbrev pub start_bytes : ℕ → ℕ → List ℕ
start_bytes c name = part_text FULL (3 + c) ++ name ∷ []

abbrev pub cpu_header : ℕ → List ℕ
cpu_header c = codes "cpu" ++ (be32 c ++ be32 1)

pub cpu_parts : (c : ℕ) (v : VcpuData) → start_bytes c 3 ++ (cpu_header c ++ (vcpu_bytes v ++ footer_text (3 + c))) ≡ cpu_section c v
unfolding cpu_section
cpu_parts c v = ap (λ (l : List ℕ). start_text FULL (3 + c) (codes "cpu") c 1 ++ l) (append_assoc (flat_map be64 v.regs) (be64 v.pc ++ (be64 v.steps ++ (state_byte v.state ∷ []))) (footer_text (3 + c)))

abbrev pub serial_header : SerialVersion → List ℕ
serial_header version = (codes "serial" ++ (be32 0 ++ 0 ∷ 0 ∷ 0 ∷ [])) ++ version_number version ∷ []

pub serial_parts : (version : SerialVersion) (n : ℕ) (s : SerialData) → start_bytes n 6 ++ (serial_header version ++ serial_rest version n s) ≡ serial_section version n s
unfolding serial_section
serial_parts One n s = refl
serial_parts Two n s = refl

abbrev pub timer_header : ℕ → List ℕ
timer_header n = start_text FULL (3 + 1 + n) (codes "timer") 0 1

pub timer_parts : (n clock cmp : ℕ) → timer_header n ++ ((be64 clock ++ be64 cmp) ++ footer_text (3 + 1 + n)) ≡ timer_section n clock cmp
unfolding timer_section
timer_parts n clock cmp = refl

-- what is read where a section begins
pub record IsStart (file : List ℕ) (at c : ℕ) (kind : DeviceKind) (end : ℕ) : Type 0 where
  pub name : ℕ
  pub kind_is : IsKind c name kind
  pub stands : IsText file at (start_bytes c name) end

start_told : (file : List ℕ) (at c : ℕ) (kind : DeviceKind) (end : ℕ) → start_in file at c ≡ Ok (kind, end) → IsStart file at c kind end
start_told file at c kind end is =
    let tagged = tagged_of file at (part_text FULL (3 + c)) (kind_of c) kind end is in
    record { name = tagged.byte; kind_is = kind_told c (at + 5) tagged.byte kind tagged.told; stands = record { stands = tagged.stands; behind = tagged.behind } }

-- vCPUs that were read, and the start of the serial section behind them
pub record AreVcpus (file : List ℕ) (at c more : ℕ) (vs : List VcpuData) (end : ℕ) : Type 0 where
  pub each : All IsResting vs
  pub few : length vs ≤ more
  pub some : 0 < c + length vs
  pub text : IsText file at (cpu_sections c vs ++ start_bytes (c + length vs) 6) end

none_more : (file : List ℕ) (more at c end : ℕ) (kind : DeviceKind) → kind ≡ Serial → IsStart file at c kind end → AreVcpus file at c more [] end
none_more file more at c end kind is start =
    let serial : IsKind c start.name Serial = subst (IsKind c start.name) is start.kind_is in
    let zero_more : c ≡ c + 0 = omega arith in
    record {
      each = All-nil IsResting;
      few = omega arith;
      some = omega (arith, serial.0);
      text = subst (λ (n : ℕ). IsText file at (start_bytes n 6) end) zero_more (subst (λ (n : ℕ). IsText file at (start_bytes c n) end) serial.1 start.stands);
    }

one_more : (file : List ℕ) (more at c p q end : ℕ) (v : VcpuData) (vs : List VcpuData) → IsStart file at c Cpu p → vcpu_in file p c ≡ Ok (v, q) → AreBytes file at end → AreVcpus file q (c + 1) more vs end → AreVcpus file at c (suc more) (v ∷ vs) end
one_more file more at c p q end v vs start found each rest =
    let section = rest_of file p 265 (3 + c) (cpu_header c) vcpu_of v q found in
    let start_end : p ≡ at + 6 = start.stands.behind in
    let within : p + 11 + length section.body ≤ end = omega (arith, section.count, section.behind, rest.text.behind) in
    let bytes = bytes_there file (p + 11) (length section.body) end section.body section.body_stands within (λ i from to. each i (omega (arith, from, start_end)) to) in
    let told = vcpu_told (p + 11) section.body v section.count bytes section.told in
    let first : IsText file at (start_bytes c 3) p = subst (λ (n : ℕ). IsText file at (start_bytes c n) p) start.kind_is.1 start.stands in
    let body_text : IsText file p (cpu_header c ++ (section.body ++ footer_text (3 + c))) q = record {
      stands = section.stands;
      behind = omega (arith, section.behind, section.count, length-append section.body (footer_text (3 + c)));
    } in
    let whole : IsText file at (cpu_section c v) q =
    text_same file at q _ _ (ap (λ (b : List ℕ). start_bytes c 3 ++ (cpu_header c ++ (b ++ footer_text (3 + c)))) told.1 ∙ cpu_parts c v) (text_both file at p q (start_bytes c 3) _ first body_text) in
    let count : c + 1 + length vs ≡ c + length (v ∷ vs) = omega arith in
    let behind : IsText file q (cpu_sections (c + 1) vs ++ start_bytes (c + length (v ∷ vs)) 6) end = subst (λ (n : ℕ). IsText file q (cpu_sections (c + 1) vs ++ start_bytes n 6) end) count rest.text in
    record {
      each = All-cons IsResting v vs told.0 rest.each;
      few = omega (arith, rest.few);
      some = omega (arith, rest.some);
      text = text_same file at end _ _ (sym (append_assoc (cpu_section c v) (cpu_sections (c + 1) vs) (start_bytes (c + length (v ∷ vs)) 6))) (text_both file at q end (cpu_section c v) _ whole behind);
    }

by_kind : (file : List ℕ) (more at c p end : ℕ) (kind : DeviceKind) (vs : List VcpuData) → IsStart file at c kind p → AreBytes file at end
    → ((q e : ℕ) (us : List VcpuData) → vcpus_in file more q (c + 1) ≡ Ok (us, e) → AreBytes file q e → AreVcpus file q (c + 1) more us e)
    → ◌≡◌ {A = Result (List VcpuData × ℕ) DeviceReadFault} (elim kind [
      | Cpu ↦ and_then (vcpu_in file p c) (λ vcpu. and_then (vcpus_in file more vcpu.1 (c + 1)) (λ rest. Ok (vcpu.0 ∷ rest.0, rest.1)))
      | Serial ↦ Ok ([], p)
    ]) (Ok (vs, end)) → AreVcpus file at c (suc more) vs end
by_kind file more at c p end Serial vs start each next is =
    let same : ◌≡◌ {A = List VcpuData × ℕ} ([], p) (vs, end) = ok_same _ _ is in
    subst (λ (r : List VcpuData × ℕ). AreVcpus file at c (suc more) r.0 r.1) same (none_more file (suc more) at c p Serial refl start)
by_kind file more at c p end Cpu vs start each next is =
    let one = found_first (vcpu_in file p c) _ (vs, end) is in
    let two = found_first (vcpus_in file more one.0.1 (c + 1)) _ (vs, end) one.2 in
    let same : ◌≡◌ {A = List VcpuData × ℕ} (one.0.0 ∷ two.0.0, two.0.1) (vs, end) = ok_same _ _ two.2 in
    let last : two.0.1 ≡ end = ap (λ (r : List VcpuData × ℕ). r.1) same in
    let section = rest_of file p 265 (3 + c) (cpu_header c) vcpu_of one.0.0 one.0.1 one.1 in
    let no_less : at ≤ one.0.1 = omega (arith, start.stands.behind, section.behind) in
    let bytes : AreBytes file at two.0.1 = λ i from to. each i from (omega (arith, to, last)) in
    subst (λ (r : List VcpuData × ℕ). AreVcpus file at c (suc more) r.0 r.1) same
    (one_more file more at c p one.0.1 two.0.1 one.0.0 two.0.0 start one.1 bytes (next one.0.1 two.0.1 two.0.0 two.1 (λ i from to. bytes i (omega (arith, from, no_less)) to)))

not_cpu : (c name : ℕ) (kind : DeviceKind) → c ≡ 8 → IsKind c name kind → kind ≡ Serial
not_cpu c name Cpu last is = absurd (omega (arith, last, is.0))
not_cpu c name Serial last is = refl

pub vcpus_told : (file : List ℕ) (more at c end : ℕ) (vs : List VcpuData) → c + more ≡ 8 → vcpus_in file more at c ≡ Ok (vs, end) → AreBytes file at end → AreVcpus file at c more vs end
unfolding vcpus_in
vcpus_told file zero at c end vs count is each =
    let start = found_first (start_in file at c) _ (vs, end) is in
    let same : ◌≡◌ {A = List VcpuData × ℕ} ([], start.0.1) (vs, end) = ok_same _ _ start.2 in
    let told = start_told file at c start.0.0 start.0.1 start.1 in
    subst (λ (r : List VcpuData × ℕ). AreVcpus file at c 0 r.0 r.1) same (none_more file 0 at c start.0.1 start.0.0 (not_cpu c told.name start.0.0 (omega (arith, count)) told.kind_is) told)
vcpus_told file (suc more) at c end vs count is each =
    let start = found_first (start_in file at c) _ (vs, end) is in
    by_kind file more at c start.0.1 end start.0.0 vs (start_told file at c start.0.0 start.0.1 start.1) each
    (λ q e us found bytes. vcpus_told file more q (c + 1) e us (omega (arith, count)) found bytes) start.2
