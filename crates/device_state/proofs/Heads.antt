-- What a serial section says, and which bytes say it.
use Rattle.std.proofs.Common.{◌≡◌, ℕ, suc, ◌+◌, ◌^◌, ◌<◌, ◌≤◌, List, [], ◌∷◌, ◌++◌, Result, Ok, Err, length, take, drop, get_or, refl, sym, ap, ◌∙◌, subst, arith, inl, inr, append_assoc, length-append}
use Rattle.std.proofs.lemmas.Bool.{cond-true, cond-false}
use Rattle.std.proofs.lemmas.Bool.Decides.{leb_tells}
use Rattle.std.proofs.lemmas.List.{get_or-drop, get_or-take, length-drop, take_all}
use Rattle.ram_block.specs.declared.limits.TheConstants.{MAX_INPUT}
use Rattle.mig_stream.specs.Pieces.{Has}
use Rattle.mig_stream.specs.Text.{be32, be64, be32_at, be64_at, footer_text}
use Rattle.serial_timer.specs.Serial.{SerialData, IsSerial}
use Rattle.serial_timer.specs.declared.serial.TheConstants.{MAX_SERIAL_BYTES}
use Rattle.device_state.specs.DeviceText.{SerialVersion, One, Two, TellsAll, serial_lengths, serial_bytes}
use Rattle.device_state.specs.Reader.{AreBytes}
use Rattle.device_state.specs.Reading.{SerialHead, bytes_in, footer_in, head_bytes, head_in, head_of, serial_in}
use Rattle.device_state.specs.declared.fault.DeviceFault.TheVariants.{SerialLength, InputLength}
use Rattle.device_state.specs.declared.fault.DeviceReadFault.{DeviceReadFault}
use Rattle.device_state.specs.declared.fault.DeviceReadFault.TheVariants.{Device}
use Rattle.device_state.proofs.Bodies.{Bytes, past_end, be32_of-at, be64_of-at, be64_at-below}
use Rattle.device_state.proofs.Found.{bytes_of, footer_of}
use Rattle.device_state.proofs.Parts.{found_first, has_both, has_piece, has_same, piece_count}
use Rattle.device_state.proofs.Values.{ok_same, rest_parts}

-- the bytes of a piece, where those of the file are bytes
pub bytes_there : (file : List ℕ) (at len end : ℕ) (piece : List ℕ) → take len (drop at file) ≡ piece → at + len ≤ end → AreBytes file at end → Bytes piece
bytes_there file at len end piece is within each i = subst (λ (l : List ℕ). get_or l i 0 < 256) is (elim (leb_tells len i) [
  | inl past ↦ subst (λ (b : ℕ). b < 256) (sym (past_end len (drop at file) i past.1)) (omega arith)
  | inr lt ↦ subst (λ (b : ℕ). b < 256) (sym (get_or-take len (drop at file) i 0 lt.1 ∙ get_or-drop at file i 0)) (each (at + i) (omega arith) (omega (arith, within, lt.1)))
])

abbrev pub head_lengths : SerialVersion → SerialHead → List ℕ
head_lengths One h = be32 h.bytes
head_lengths Two h = be32 h.bytes ++ be32 h.input

abbrev pub SaysAll : SerialVersion → SerialHead → Type 0
SaysAll One h = h.input ≡ 0
SaysAll Two h = Unit {0}

pub record IsHead (version : SerialVersion) (front : List ℕ) (h : SerialHead) : Type 0 where
  pub lost : h.lost < 2 ^ 64
  pub kept : h.bytes ≤ MAX_SERIAL_BYTES
  pub waits : h.input ≤ MAX_INPUT
  pub says_all : SaysAll version h
  pub text : front ≡ be64 h.lost ++ head_lengths version h

pub head_told : (version : SerialVersion) (at : ℕ) (front : List ℕ) (h : SerialHead) → length front ≡ head_bytes version → Bytes front → head_of version at front ≡ Ok h → IsHead version front h
unfolding head_of
head_told One at front h count each is = elim (leb_tells (suc MAX_SERIAL_BYTES) (be32_at front 8)) [
  | inl more ↦
      let refused : ◌≡◌ {A = Result SerialHead DeviceReadFault} (Err (Device (at + 8) (SerialLength (be32_at front 8)))) (Ok h) = sym (cond-true _ _ _ more.0) ∙ is in
      absurd (cc)
  | inr within ↦
      let found : ◌≡◌ {A = Result SerialHead DeviceReadFault} (Ok (record { lost = be64_at front 0; bytes = be32_at front 8; input = 0 })) (Ok h) = sym (cond-false _ _ _ within.0) ∙ is in
      subst (IsHead One front) (ok_same _ _ found) (record {
        lost = be64_at-below front 0 each;
        kept = omega (arith, within.1);
        waits = omega arith;
        says_all = refl;
        text =
            rest_parts 0 8 front
            ∙ ap (λ (l : List ℕ). take 8 front ++ l) (sym (take_all 4 (drop 8 front) (omega (arith, count, length-drop 8 front))))
            ∙ ap (λ (l : List ℕ). l ++ take 4 (drop 8 front)) (sym (be64_of-at front 0 (omega (arith, count)) each))
            ∙ ap (λ (l : List ℕ). be64 (be64_at front 0) ++ l) (sym (be32_of-at front 8 (omega (arith, count)) each));
      })
]
head_told Two at front h count each is = elim (leb_tells (suc MAX_SERIAL_BYTES) (be32_at front 8)) [
  | inl more ↦
      let refused : ◌≡◌ {A = Result SerialHead DeviceReadFault} (Err (Device (at + 8) (SerialLength (be32_at front 8)))) (Ok h) = sym (cond-true _ _ _ more.0) ∙ is in
      absurd (cc)
  | inr within ↦ elim (leb_tells (suc MAX_INPUT) (be32_at front 12)) [
    | inl longer ↦
        let refused : ◌≡◌ {A = Result SerialHead DeviceReadFault} (Err (Device (at + 12) (InputLength (be32_at front 12)))) (Ok h) = sym (cond-true _ _ _ longer.0) ∙ sym (cond-false _ _ _ within.0) ∙ is in
        absurd (cc)
    | inr short ↦
        let found : ◌≡◌ {A = Result SerialHead DeviceReadFault} (Ok (record { lost = be64_at front 0; bytes = be32_at front 8; input = be32_at front 12 })) (Ok h) = sym (cond-false _ _ _ short.0) ∙ sym (cond-false _ _ _ within.0) ∙ is in
        let last : drop 8 front ≡ be32 (be32_at front 8) ++ be32 (be32_at front 12) =
        rest_parts 8 4 front
        ∙ ap (λ (l : List ℕ). take 4 (drop 8 front) ++ l) (sym (take_all 4 (drop 12 front) (omega (arith, count, length-drop 12 front))))
        ∙ ap (λ (l : List ℕ). l ++ take 4 (drop 12 front)) (sym (be32_of-at front 8 (omega (arith, count)) each))
        ∙ ap (λ (l : List ℕ). be32 (be32_at front 8) ++ l) (sym (be32_of-at front 12 (omega (arith, count)) each)) in
        subst (IsHead Two front) (ok_same _ _ found) (record {
          lost = be64_at-below front 0 each;
          kept = omega (arith, within.1);
          waits = omega (arith, short.1);
          says_all = tt;
          text = rest_parts 0 8 front ∙ ap (λ (l : List ℕ). l ++ drop 8 front) (sym (be64_of-at front 0 (omega (arith, count)) each)) ∙ ap (λ (l : List ℕ). be64 (be64_at front 0) ++ l) last;
        })
  ]
]

-- a serial section behind its header
abbrev pub serial_rest : SerialVersion → ℕ → SerialData → List ℕ
serial_rest version vcpus s = be64 s.lost ++ (serial_lengths version s ++ (serial_bytes version s ++ footer_text (3 + vcpus)))

empty : (l : List ℕ) → length l ≡ 0 → l ≡ []
empty [] is = refl
empty (x ∷ l) is = absurd (omega (arith, is))

pub tells_all : (version : SerialVersion) (h : SerialHead) (bytes input : List ℕ) (lost : ℕ) → SaysAll version h → length input ≡ h.input → TellsAll version (record { bytes = bytes; lost = lost; input = input })
tells_all One h bytes input lost says count = empty input (count ∙ says)
tells_all Two h bytes input lost says count = tt

pub serial_joined : (version : SerialVersion) (vcpus : ℕ) (h : SerialHead) (bytes input : List ℕ) → SaysAll version h → length bytes ≡ h.bytes → length input ≡ h.input
    → (be64 h.lost ++ head_lengths version h) ++ (bytes ++ (input ++ footer_text (3 + vcpus))) ≡ serial_rest version vcpus (record { bytes = bytes; lost = h.lost; input = input })
serial_joined One vcpus h bytes input says kept waits =
    ap (λ (n : ℕ). (be64 h.lost ++ be32 n) ++ (bytes ++ (input ++ footer_text (3 + vcpus)))) (sym kept)
    ∙ ap (λ (l : List ℕ). (be64 h.lost ++ be32 (length bytes)) ++ (bytes ++ (l ++ footer_text (3 + vcpus)))) (empty input (waits ∙ says))
serial_joined Two vcpus h bytes input says kept waits =
    ap (λ (n : ℕ). (be64 h.lost ++ (be32 n ++ be32 h.input)) ++ (bytes ++ (input ++ footer_text (3 + vcpus)))) (sym kept)
    ∙ ap (λ (n : ℕ). (be64 h.lost ++ (be32 (length bytes) ++ be32 n)) ++ (bytes ++ (input ++ footer_text (3 + vcpus)))) (sym waits)
    ∙ ap (λ (l : List ℕ). (be64 h.lost ++ (be32 (length bytes) ++ be32 (length input))) ++ l) (sym (append_assoc bytes input (footer_text (3 + vcpus))))

serial_length : (at : ℕ) (front bytes input foot : List ℕ) (n between first : ℕ) → length foot ≡ n → first + length bytes ≡ between → at + length front ≡ first
    → between + length input + n ≡ at + length (front ++ (bytes ++ (input ++ foot)))
serial_length at front bytes input foot n between first a b c =
    omega (arith, a, b, c, length-append front (bytes ++ (input ++ foot)), length-append bytes (input ++ foot), length-append input foot)

-- a serial section that was read
pub record IsSerialRest (file : List ℕ) (at : ℕ) (version : SerialVersion) (vcpus : ℕ) (s : SerialData) (end : ℕ) : Type 0 where
  pub limits : IsSerial s
  pub tells_all : TellsAll version s
  pub stands : Has file at (serial_rest version vcpus s)
  pub behind : end ≡ at + length (serial_rest version vcpus s)

pub serial_told : (file : List ℕ) (at : ℕ) (version : SerialVersion) (vcpus : ℕ) (s : SerialData) (end : ℕ) → serial_in file at version vcpus ≡ Ok (s, end) → AreBytes file at end → IsSerialRest file at version vcpus s end
unfolding serial_in head_in
serial_told file at version vcpus s end is each =
    let head = found_first (head_in file at version) _ (s, end) is in
    let front = found_first (bytes_in file at (head_bytes version)) _ head.0 head.1 in
    let said = found_first (head_of version at front.0.0) _ head.0 front.2 in
    let h : SerialHead = head.0.0 in
    let bytes = found_first (bytes_in file head.0.1 h.bytes) _ (s, end) head.2 in
    let input = found_first (bytes_in file bytes.0.1 h.input) _ (s, end) bytes.2 in
    let foot = found_first (footer_in file input.0.1 (3 + vcpus)) _ (s, end) input.2 in
    let pair : ◌≡◌ {A = SerialHead × ℕ} (said.0, front.0.1) head.0 = ok_same _ _ said.2 in
    let one = bytes_of file at (head_bytes version) front.0.1 front.0.0 front.1 in
    let two = bytes_of file head.0.1 h.bytes bytes.0.1 bytes.0.0 bytes.1 in
    let three = bytes_of file bytes.0.1 h.input input.0.1 input.0.0 input.1 in
    let four = footer_of file input.0.1 foot.0 (3 + vcpus) foot.1 in
    let whole : ◌≡◌ {A = SerialData × ℕ} (record { bytes = bytes.0.0; lost = h.lost; input = input.0.0 }, foot.0) (s, end) = ok_same _ _ foot.2 in
    let first : head.0.1 ≡ at + head_bytes version = sym (ap (λ (p : SerialHead × ℕ). p.1) pair) ∙ one.1 in
    let last : foot.0 ≡ end = ap (λ (p : SerialData × ℕ). p.1) whole in
    let kept : length bytes.0.0 ≡ h.bytes = piece_count file head.0.1 h.bytes bytes.0.0 two.0 in
    let waits : length input.0.0 ≡ h.input = piece_count file bytes.0.1 h.input input.0.0 three.0 in
    let within : at + head_bytes version ≤ end = omega (arith, first, last, two.1, three.1, four.1) in
    let told : head_of version at front.0.0 ≡ Ok h = said.1 ∙ ap (λ (p : SerialHead × ℕ). Ok p.0) pair in
    let is_head = head_told version at front.0.0 h (piece_count file at (head_bytes version) front.0.0 one.0) (bytes_there file at (head_bytes version) end front.0.0 one.0.same within each) told in
    let read : SerialData = record { bytes = bytes.0.0; lost = h.lost; input = input.0.0 } in
    let text : front.0.0 ++ (bytes.0.0 ++ (input.0.0 ++ footer_text (3 + vcpus))) ≡ serial_rest version vcpus read =
    ap (λ (l : List ℕ). l ++ (bytes.0.0 ++ (input.0.0 ++ footer_text (3 + vcpus)))) is_head.text ∙ serial_joined version vcpus h bytes.0.0 input.0.0 is_head.says_all kept waits in
    let front_count : at + length front.0.0 ≡ head.0.1 = ap (λ (n : ℕ). at + n) (piece_count file at (head_bytes version) front.0.0 one.0) ∙ sym first in
    let bytes_count : head.0.1 + length bytes.0.0 ≡ bytes.0.1 = ap (λ (n : ℕ). head.0.1 + n) kept ∙ sym two.1 in
    let input_count : bytes.0.1 + length input.0.0 ≡ input.0.1 = ap (λ (n : ℕ). bytes.0.1 + n) waits ∙ sym three.1 in
    let foot_has : Has file (bytes.0.1 + length input.0.0) (footer_text (3 + vcpus)) = subst (λ (p : ℕ). Has file p (footer_text (3 + vcpus))) (sym input_count) (has_piece file input.0.1 5 (footer_text (3 + vcpus)) four.0) in
    let input_has : Has file (head.0.1 + length bytes.0.0) (input.0.0 ++ footer_text (3 + vcpus)) = subst (λ (p : ℕ). Has file p (input.0.0 ++ footer_text (3 + vcpus))) (sym bytes_count) (has_both file bytes.0.1 input.0.0 (footer_text (3 + vcpus)) (has_piece file bytes.0.1 h.input input.0.0 three.0) foot_has) in
    let bytes_has : Has file (at + length front.0.0) (bytes.0.0 ++ (input.0.0 ++ footer_text (3 + vcpus))) = subst (λ (p : ℕ). Has file p (bytes.0.0 ++ (input.0.0 ++ footer_text (3 + vcpus)))) (sym front_count) (has_both file head.0.1 bytes.0.0 (input.0.0 ++ footer_text (3 + vcpus)) (has_piece file head.0.1 h.bytes bytes.0.0 two.0) input_has) in
    let stands = has_both file at front.0.0 (bytes.0.0 ++ (input.0.0 ++ footer_text (3 + vcpus))) (has_piece file at (head_bytes version) front.0.0 one.0) bytes_has in
    let same : read ≡ s = ap (λ (p : SerialData × ℕ). p.0) whole in
    let length_text = ap length text in
    subst (λ (t : SerialData). IsSerialRest file at version vcpus t end) same (record {
      limits = record { bytes = omega (arith, kept, is_head.kept); lost = is_head.lost; input = omega (arith, waits, is_head.waits) };
      tells_all = tells_all version h bytes.0.0 input.0.0 h.lost is_head.says_all waits;
      stands = has_same file at (front.0.0 ++ (bytes.0.0 ++ (input.0.0 ++ footer_text (3 + vcpus)))) (serial_rest version vcpus read) text stands;
      behind = sym last ∙ four.1 ∙ ap (λ (n : ℕ). n + 5) (sym input_count) ∙ serial_length at front.0.0 bytes.0.0 input.0.0 (footer_text (3 + vcpus)) 5 bytes.0.1 head.0.1 refl bytes_count front_count ∙ ap (λ (n : ℕ). at + n) length_text;
    })
