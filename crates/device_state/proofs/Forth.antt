-- The parts of a device text are read as what they tell.
use Rattle.std.proofs.Common.{◌≡◌, ℕ, ◌+◌, ◌*◌, ◌^◌, ◌<◌, ◌≤◌, List, [], ◌∷◌, ◌++◌, Ok, Err, None, length, take, drop, get_or, refl, sym, ap, ◌∙◌, subst, arith, slice_index, length-append}
use Rattle.std.specs.Prelude.{Bool, true, false, ◌&&◌, nat_lt, if◌then◌else◌}
use Rattle.std.specs.List.{flat_map}
use Rattle.std.specs.Int.{w64, from_be_bytes}
use Rattle.std.proofs.lemmas.Bool.{cond-false, le-ltb, lt-ltb}
use Rattle.std.proofs.lemmas.List.{drop-drop, drop_at, get_or-append-add}
use Rattle.std.proofs.lemmas.Nat.{from_be_bytes-to_be_bytes_4, from_be_bytes-to_be_bytes_8}
use Rattle.ram_block.specs.declared.limits.TheConstants.{MAX_INPUT, MOST_AT_REST}
use Rattle.mig_stream.specs.Pieces.{Has}
use Rattle.mig_stream.specs.Text.{be32, be64, be32_at, be64_at, footer_text}
use Rattle.rv64i_step.specs.Vcpu.{VcpuData}
use Rattle.serial_timer.specs.Serial.{SerialData, IsSerial}
use Rattle.serial_timer.specs.declared.serial.TheConstants.{MAX_SERIAL_BYTES}
use Rattle.device_state.specs.DeviceText.{SerialVersion, One, Two, IsResting, TellsAll, state_byte, version_number}
use Rattle.device_state.specs.Reading.{SerialHead, bytes_in, footer_in, head_bytes, head_in, head_of, kind_of, numbers_of, serial_in, state_of, timer_of, vcpu_of, version_of}
use Rattle.device_state.specs.declared.fault.DeviceReadFault.TheVariants.{Section}
use Rattle.device_state.specs.declared.format.TheConstants.{PC_AT, STATE_AT, STEPS_AT}
use Rattle.device_state.specs.declared.kind.DeviceKind.TheVariants.{Cpu, Serial}
use Rattle.device_state.proofs.Bodies.{be64_at-first, numbers_back, state_back}
use Rattle.device_state.proofs.Chains.{on_ok, head_found}
use Rattle.device_state.proofs.Found.{bytes_is, footer_is}
use Rattle.device_state.proofs.Heads.{SaysAll, head_lengths, serial_joined, serial_rest}
use Rattle.device_state.proofs.Parts.{has_parts, has_same, piece_by}
use Rattle.device_state.proofs.Values.{vcpu_bytes}

-- which section begins
pub kind_cpu : (c at : ℕ) → c < 8 → kind_of c at 3 ≡ Ok Cpu
unfolding kind_of
kind_cpu c at lt = ap (λ (b : Bool). if b && true then Ok Cpu else (if nat_lt 0 c && false then Ok Serial else Err (Section at 3))) (lt-ltb c 8 lt)

not_both : {A : Type 0} (b : Bool) (x y : A) → (if b && false then x else y) ≡ y
not_both true x y = refl
not_both false x y = refl

pub kind_serial : (c at : ℕ) → 0 < c → kind_of c at 6 ≡ Ok Serial
unfolding kind_of
kind_serial c at some =
    not_both (nat_lt c 8) (Ok Cpu) (if nat_lt 0 c && true then Ok Serial else Err (Section at 6))
    ∙ ap (λ (b : Bool). if b && true then Ok Serial else Err (Section at 6)) (lt-ltb 0 c some)

pub version_is : (at : ℕ) (version : SerialVersion) → version_of at (version_number version) ≡ Ok version
unfolding version_of
version_is at One = refl
version_is at Two = refl

-- a number behind other bytes
be64_at-behind : (a b : List ℕ) (n k : ℕ) → length a ≡ n → be64_at (a ++ b) (n + k) ≡ be64_at b k
be64_at-behind a b n k count = ap (λ (l : List ℕ). from_be_bytes w64 (take 8 l)) (sym (drop-drop k n (a ++ b)) ∙ ap (drop k) (drop_at a b n count))

numbers_length : (regs : List ℕ) → length (flat_map be64 regs) ≡ 8 * length regs
numbers_length [] = refl
numbers_length (r ∷ regs) = omega (arith, numbers_length regs)

registers_length : (v : VcpuData) → IsResting v → length (flat_map be64 v.regs) ≡ 248
registers_length v rests = omega (arith, numbers_length v.regs, rests.vcpu.count)

pub vcpu_length : (v : VcpuData) → IsResting v → length (vcpu_bytes v) ≡ 265
vcpu_length v rests = omega (arith, registers_length v rests, length-append (flat_map be64 v.regs) (be64 v.pc ++ (be64 v.steps ++ (state_byte v.state ∷ []))))

vcpu_by : (at : ℕ) (body : List ℕ) (v : VcpuData) → numbers_of 31 body ≡ v.regs → be64_at body PC_AT ≡ v.pc → be64_at body STEPS_AT ≡ v.steps → v.steps ≤ MOST_AT_REST
    → state_of (at + STATE_AT) (slice_index body STATE_AT) ≡ Ok v.state → v.pending ≡ None → vcpu_of at body ≡ Ok v
unfolding vcpu_of
vcpu_by at body v regs pc steps few state none =
    cond-false _ _ _ (le-ltb _ _ (subst (λ (n : ℕ). n ≤ MOST_AT_REST) (sym steps) few))
    ∙ on_ok (state_of (at + STATE_AT) (slice_index body STATE_AT)) _ v.state state
    ∙ (λ i. Ok (record { regs = regs i; pc = pc i; steps = steps i; state = v.state; pending = sym none i }))

pub vcpu_is : (at : ℕ) (v : VcpuData) → IsResting v → vcpu_of at (vcpu_bytes v) ≡ Ok v
vcpu_is at v rests =
    let numbers = flat_map be64 v.regs in
    let behind = be64 v.pc ++ (be64 v.steps ++ (state_byte v.state ∷ [])) in
    let count : length numbers ≡ 248 = registers_length v rests in
    let seam : length numbers + 16 ≡ 264 = omega (arith, count) in
    let byte : get_or (numbers ++ behind) 264 0 ≡ state_byte v.state = ap (λ (k : ℕ). get_or (numbers ++ behind) k 0) (sym seam) ∙ get_or-append-add numbers behind 16 0 in
    vcpu_by at (vcpu_bytes v) v
    (ap (λ (n : ℕ). numbers_of n (numbers ++ behind)) (sym rests.vcpu.count) ∙ numbers_back v.regs behind rests.vcpu.regs)
    (be64_at-behind numbers behind 248 0 count ∙ be64_at-first v.pc (be64 v.steps ++ (state_byte v.state ∷ [])) rests.vcpu.pc)
    (be64_at-behind numbers behind 248 8 count ∙ be64_at-first v.steps (state_byte v.state ∷ []) rests.vcpu.steps)
    rests.steps
    (ap (state_of (at + 264)) byte ∙ state_back (at + 264) v.state)
    rests.none_pending

pub timer_is : (at clock cmp : ℕ) → clock ≤ MOST_AT_REST → cmp < 2 ^ 64 → timer_of at (be64 clock ++ be64 cmp) ≡ Ok (record { clock = clock; cmp = cmp })
unfolding timer_of
timer_is at clock cmp early fits =
    let first : be64_at (be64 clock ++ be64 cmp) 0 ≡ clock = be64_at-first clock (be64 cmp) (omega (arith, early)) in
    let second : be64_at (be64 clock ++ be64 cmp) 8 ≡ cmp = from_be_bytes-to_be_bytes_8 cmp fits in
    cond-false _ _ _ (le-ltb _ _ (subst (λ (n : ℕ). n ≤ MOST_AT_REST) (sym first) early))
    ∙ (λ i. Ok (record { clock = first i; cmp = second i }))

-- the head of a serial section
abbrev head_text : SerialVersion → SerialHead → List ℕ
head_text version h = be64 h.lost ++ head_lengths version h

head_length : (version : SerialVersion) (h : SerialHead) → length (head_text version h) ≡ head_bytes version
head_length One h = refl
head_length Two h = refl

head_is : (version : SerialVersion) (at : ℕ) (h : SerialHead) → h.lost < 2 ^ 64 → h.bytes ≤ MAX_SERIAL_BYTES → h.input ≤ MAX_INPUT → SaysAll version h → head_of version at (head_text version h) ≡ Ok h
unfolding head_of
head_is One at h lost kept waits says =
    let first : be64_at (head_text One h) 0 ≡ h.lost = be64_at-first h.lost (be32 h.bytes) lost in
    let second : be32_at (head_text One h) 8 ≡ h.bytes = from_be_bytes-to_be_bytes_4 h.bytes (omega (arith, kept)) in
    cond-false _ _ _ (le-ltb _ _ (subst (λ (n : ℕ). n ≤ MAX_SERIAL_BYTES) (sym second) kept))
    ∙ (λ i. Ok (record { lost = first i; bytes = second i; input = sym says i }))
head_is Two at h lost kept waits says =
    let first : be64_at (head_text Two h) 0 ≡ h.lost = be64_at-first h.lost (be32 h.bytes ++ be32 h.input) lost in
    let second : be32_at (head_text Two h) 8 ≡ h.bytes = from_be_bytes-to_be_bytes_4 h.bytes (omega (arith, kept)) in
    let third : be32_at (head_text Two h) 12 ≡ h.input = from_be_bytes-to_be_bytes_4 h.input (omega (arith, waits)) in
    cond-false _ _ _ (le-ltb _ _ (subst (λ (n : ℕ). n ≤ MAX_SERIAL_BYTES) (sym second) kept))
    ∙ cond-false _ _ _ (le-ltb _ _ (subst (λ (n : ℕ). n ≤ MAX_INPUT) (sym third) waits))
    ∙ (λ i. Ok (record { lost = first i; bytes = second i; input = third i }))

says_all : (version : SerialVersion) (s : SerialData) → TellsAll version s → SaysAll version (record { lost = s.lost; bytes = length s.bytes; input = length s.input })
says_all One s tells = ap length tells
says_all Two s tells = tt

-- a serial section behind its header
pub serial_is : (file : List ℕ) (at : ℕ) (version : SerialVersion) (vcpus : ℕ) (s : SerialData) → IsSerial s → TellsAll version s → Has file at (serial_rest version vcpus s)
    → (end : ℕ) → end ≡ at + length (serial_rest version vcpus s) → serial_in file at version vcpus ≡ Ok (s, end)
unfolding serial_in
serial_is file at version vcpus s is tells has end last =
    let h : SerialHead = record { lost = s.lost; bytes = length s.bytes; input = length s.input } in
    let foot = footer_text (3 + vcpus) in
    let joined = serial_joined version vcpus h s.bytes s.input (says_all version s tells) refl refl in
    let one = has_parts file at (head_text version h) (s.bytes ++ (s.input ++ foot)) (has_same file at _ _ (sym joined) has) in
    let p1 = at + length (head_text version h) in
    let two = has_parts file p1 s.bytes (s.input ++ foot) one.1 in
    let p2 = p1 + length s.bytes in
    let three = has_parts file p2 s.input foot two.1 in
    let p3 = p2 + length s.input in
    let len = length (head_text version h) in
    let front : bytes_in file at len ≡ Ok (head_text version h, p1) = bytes_is file at len (head_text version h) (piece_by file at len (head_text version h) refl one.0) in
    let head : head_in file at version ≡ Ok (h, p1) = head_found file at len at version (head_length version h) refl (head_text version h) p1 front h (head_is version at h is.lost is.bytes is.input (says_all version s tells)) in
    let bytes : bytes_in file p1 (length s.bytes) ≡ Ok (s.bytes, p2) = bytes_is file p1 (length s.bytes) s.bytes (piece_by file p1 (length s.bytes) s.bytes refl two.0) in
    let input : bytes_in file p2 (length s.input) ≡ Ok (s.input, p3) = bytes_is file p2 (length s.input) s.input (piece_by file p2 (length s.input) s.input refl three.0) in
    let footer : footer_in file p3 (3 + vcpus) ≡ Ok (p3 + 5) = footer_is file p3 (3 + vcpus) three.1 in
    let count : p3 + 5 ≡ end = omega (arith, last, ap length joined, length-append (head_text version h) (s.bytes ++ (s.input ++ foot)), length-append s.bytes (s.input ++ foot), length-append s.input foot) in
    rw (head, bytes, input, footer, count)
