-- What a body says, and which body says it: of a vCPU, of the timer, and of the head of a serial section.
use Rattle.std.proofs.Common.{◌≡◌, ℕ, suc, ◌+◌, ◌^◌, ◌<◌, ◌≤◌, List, [], ◌∷◌, ◌++◌, Result, Ok, Err, None, length, take, drop, get_or, refl, sym, ap, ◌∙◌, subst, arith, inl, inr, slice_index, ltb-true, eqb-true}
use Rattle.std.specs.Prelude.{Bool, true, false, ◌&&◌, nat_lt, nat_eq, if◌then◌else◌}
use Rattle.std.specs.List.{flat_map}
use Rattle.std.proofs.Math.Seq.{drop-cons}
use Rattle.std.proofs.lemmas.Bool.{cond-true, cond-false}
use Rattle.std.proofs.lemmas.Bool.Decides.{eqb_tells, leb_tells}
use Rattle.std.proofs.lemmas.List.{drop-drop, drop_all, take-append-drop, take_all, length-drop}
use Rattle.ram_block.specs.declared.limits.TheConstants.{MOST_AT_REST}
use Rattle.mig_stream.specs.Text.{be64, be64_at}
use Rattle.rv64i_step.specs.Vcpu.{VcpuData}
use Rattle.rv64i_step.specs.declared.state.State.{State}
use Rattle.device_state.specs.DeviceText.{SerialVersion, One, Two, IsResting, state_byte, version_number}
use Rattle.device_state.specs.Reading.{TimerBody, kind_of, numbers_of, state_of, timer_of, vcpu_of, version_of}
use Rattle.device_state.specs.declared.fault.DeviceFault.TheVariants.{Steps, Clock}
use Rattle.device_state.specs.declared.fault.DeviceReadFault.{DeviceReadFault}
use Rattle.device_state.specs.declared.fault.DeviceReadFault.TheVariants.{Device, Section}
use Rattle.device_state.specs.declared.format.TheConstants.{PC_AT, STATE_AT, STEPS_AT}
use Rattle.device_state.specs.declared.kind.DeviceKind.{DeviceKind}
use Rattle.device_state.specs.declared.kind.DeviceKind.TheVariants.{Cpu, Serial}
use Rattle.device_state.proofs.Bodies.{Bytes, be64_of-at, be64_at-below, numbers_count, numbers_fit, numbers_text, state_text}
use Rattle.device_state.proofs.Parts.{found_first}

-- the rest of a list from a place on: so many, and the rest from there on
pub rest_parts : (n m : ℕ) (l : List ℕ) → drop n l ≡ take m (drop n l) ++ drop (n + m) l
rest_parts n m l = sym (take-append-drop m (drop n l)) ∙ ap (λ (t : List ℕ). take m (drop n l) ++ t) (drop-drop m n l)

ok_or : {A : Type 0} → A → Result A DeviceReadFault → A
ok_or other (Ok a) = a
ok_or other (Err fault) = other

pub ok_same : {A : Type 0} (a b : A) → ◌≡◌ {A = Result A DeviceReadFault} (Ok a) (Ok b) → a ≡ b
unfolding ok_or
ok_same {A} a b same =
    let value : Result A DeviceReadFault → A = λ r. ok_or a r in
    ap value same

-- the bytes of a vCPU
abbrev pub vcpu_bytes : VcpuData → List ℕ
vcpu_bytes v = flat_map be64 v.regs ++ (be64 v.pc ++ (be64 v.steps ++ (state_byte v.state ∷ [])))

vcpu_read : (at : ℕ) (body : List ℕ) (v : VcpuData) → vcpu_of at body ≡ Ok v → (be64_at body STEPS_AT ≤ MOST_AT_REST)
    × ((state : State) × (state_of (at + STATE_AT) (slice_index body STATE_AT) ≡ Ok state)
    × (v ≡ record { regs = numbers_of 31 body; pc = be64_at body PC_AT; steps = be64_at body STEPS_AT; state = state; pending = None }))
unfolding vcpu_of
vcpu_read at body v is = elim (leb_tells (suc MOST_AT_REST) (be64_at body STEPS_AT)) [
  | inl more ↦
      let refused : ◌≡◌ {A = Result VcpuData DeviceReadFault} (Err (Device (at + STEPS_AT) (Steps (be64_at body STEPS_AT)))) (Ok v) = sym (cond-true _ _ _ more.0) ∙ is in
      absurd (cc)
  | inr within ↦
      let state = found_first (state_of (at + STATE_AT) (slice_index body STATE_AT)) _ v (sym (cond-false _ _ _ within.0) ∙ is) in
      let same : ◌≡◌ {A = Result VcpuData DeviceReadFault} (Ok (record { regs = numbers_of 31 body; pc = be64_at body PC_AT; steps = be64_at body STEPS_AT; state = state.0; pending = None })) (Ok v) = state.2 in
      (omega (arith, within.1), (state.0, state.1, sym (ok_same _ _ same)))
]

vcpu_body : (body : List ℕ) (state : State) → length body ≡ 265 → Bytes body → state_byte state ≡ slice_index body 264
    → body ≡ vcpu_bytes (record { regs = numbers_of 31 body; pc = be64_at body 248; steps = be64_at body 256; state = state; pending = None })
vcpu_body body state count each is =
    let end : drop 264 body ≡ state_byte state ∷ [] =
    drop-cons body 264 0 (omega (arith, count)) ∙ ap (λ (l : List ℕ). get_or body 264 0 ∷ l) (drop_all 265 body (omega (arith, count))) ∙ ap (λ (b : ℕ). b ∷ []) (sym is) in
    let steps : drop 256 body ≡ be64 (be64_at body 256) ++ (state_byte state ∷ []) =
    rest_parts 256 8 body ∙ ap (λ (l : List ℕ). l ++ drop 264 body) (sym (be64_of-at body 256 (omega (arith, count)) each)) ∙ ap (λ (l : List ℕ). be64 (be64_at body 256) ++ l) end in
    let pc : drop 248 body ≡ be64 (be64_at body 248) ++ (be64 (be64_at body 256) ++ (state_byte state ∷ [])) =
    rest_parts 248 8 body ∙ ap (λ (l : List ℕ). l ++ drop 256 body) (sym (be64_of-at body 248 (omega (arith, count)) each)) ∙ ap (λ (l : List ℕ). be64 (be64_at body 248) ++ l) steps in
    sym (take-append-drop 248 body)
    ∙ ap (λ (l : List ℕ). l ++ drop 248 body) (sym (numbers_text 31 body (omega (arith, count)) each))
    ∙ ap (λ (l : List ℕ). flat_map be64 (numbers_of 31 body) ++ l) pc

pub vcpu_told : (at : ℕ) (body : List ℕ) (v : VcpuData) → length body ≡ 265 → Bytes body → vcpu_of at body ≡ Ok v → IsResting v × (body ≡ vcpu_bytes v)
vcpu_told at body v count each is =
    let read = vcpu_read at body v is in
    let state = read.1.0 in
    let told : VcpuData = record { regs = numbers_of 31 body; pc = be64_at body 248; steps = be64_at body 256; state = state; pending = None } in
    let rests : IsResting told = record {
      vcpu = record { count = numbers_count 31 body; regs = numbers_fit 31 body each; pc = be64_at-below body 248 each; steps = be64_at-below body 256 each; valid = tt; pending = tt; runs = tt };
      none_pending = refl;
      steps = read.0;
    } in
    (subst IsResting (sym read.1.2) rests, vcpu_body body state count each (state_text (at + 264) (slice_index body 264) state read.1.1) ∙ ap vcpu_bytes (sym read.1.2))

-- the timer
pub timer_told : (at : ℕ) (body : List ℕ) (t : TimerBody) → length body ≡ 16 → Bytes body → timer_of at body ≡ Ok t → (t.clock ≤ MOST_AT_REST) × (t.cmp < 2 ^ 64) × (body ≡ be64 t.clock ++ be64 t.cmp)
unfolding timer_of
timer_told at body t count each is = elim (leb_tells (suc MOST_AT_REST) (be64_at body 0)) [
  | inl more ↦
      let refused : ◌≡◌ {A = Result TimerBody DeviceReadFault} (Err (Device at (Clock (be64_at body 0)))) (Ok t) = sym (cond-true _ _ _ more.0) ∙ is in
      absurd (cc)
  | inr within ↦
      let found : ◌≡◌ {A = Result TimerBody DeviceReadFault} (Ok (record { clock = be64_at body 0; cmp = be64_at body 8 })) (Ok t) = sym (cond-false _ _ _ within.0) ∙ is in
      let same = ok_same _ _ found in
      let bytes : body ≡ be64 (be64_at body 0) ++ be64 (be64_at body 8) =
      rest_parts 0 8 body
      ∙ ap (λ (l : List ℕ). take 8 body ++ l) (sym (take_all 8 (drop 8 body) (omega (arith, count, length-drop 8 body))))
      ∙ ap (λ (l : List ℕ). l ++ take 8 (drop 8 body)) (sym (be64_of-at body 0 (omega (arith, count)) each))
      ∙ ap (λ (l : List ℕ). be64 (be64_at body 0) ++ l) (sym (be64_of-at body 8 (omega (arith, count)) each)) in
      (subst (λ (b : TimerBody). b.clock ≤ MOST_AT_REST) same (omega (arith, within.1)), subst (λ (b : TimerBody). b.cmp < 2 ^ 64) same (be64_at-below body 8 each), subst (λ (b : TimerBody). body ≡ be64 b.clock ++ be64 b.cmp) same bytes)
]

-- which section begins: what the length of a name says
abbrev pub IsKind : ℕ → ℕ → DeviceKind → Type 0
IsKind c byte Cpu = (c < 8) × (byte ≡ 3)
IsKind c byte Serial = (0 < c) × (byte ≡ 6)

kind_by : (c at byte : ℕ) (kind : DeviceKind) (fewer cpu some serial : Bool) → nat_lt c 8 ≡ fewer → nat_eq byte 3 ≡ cpu → nat_lt 0 c ≡ some → nat_eq byte 6 ≡ serial
    → (if fewer && cpu then Ok Cpu else if some && serial then Ok Serial else Err (Section at byte)) ≡ Ok kind → IsKind c byte kind
kind_by c at byte kind true true some serial a b x y is = subst (IsKind c byte) (ok_same Cpu kind is) (ltb-true c 8 a, eqb-true byte 3 b)
kind_by c at byte kind true false true true a b x y is = subst (IsKind c byte) (ok_same Serial kind is) (ltb-true 0 c x, eqb-true byte 6 y)
kind_by c at byte kind false cpu true true a b x y is = subst (IsKind c byte) (ok_same Serial kind is) (ltb-true 0 c x, eqb-true byte 6 y)
kind_by c at byte kind true false true false a b x y is = absurd (cc)
kind_by c at byte kind true false false serial a b x y is = absurd (cc)
kind_by c at byte kind false cpu true false a b x y is = absurd (cc)
kind_by c at byte kind false cpu false serial a b x y is = absurd (cc)

pub kind_told : (c at byte : ℕ) (kind : DeviceKind) → kind_of c at byte ≡ Ok kind → IsKind c byte kind
unfolding kind_of
kind_told c at byte kind is = kind_by c at byte kind (nat_lt c 8) (nat_eq byte 3) (nat_lt 0 c) (nat_eq byte 6) refl refl refl refl is

-- a version
pub version_told : (at byte : ℕ) (version : SerialVersion) → version_of at byte ≡ Ok version → byte ≡ version_number version
unfolding version_of
version_told at byte version is = elim (eqb_tells byte 1) [
  | inl first ↦
      let found : ◌≡◌ {A = Result SerialVersion DeviceReadFault} (Ok One) (Ok version) = sym (cond-true _ _ _ first.0) ∙ is in
      first.1 ∙ ap version_number (ok_same _ _ found)
  | inr other ↦ elim (eqb_tells byte 2) [
    | inl second ↦
        let found : ◌≡◌ {A = Result SerialVersion DeviceReadFault} (Ok Two) (Ok version) = sym (cond-true _ _ _ second.0) ∙ sym (cond-false _ _ _ other.0) ∙ is in
        second.1 ∙ ap version_number (ok_same _ _ found)
    | inr neither ↦
        let refused : ◌≡◌ {A = Result SerialVersion DeviceReadFault} (Err (Section at byte)) (Ok version) = sym (cond-false _ _ _ neither.0) ∙ sym (cond-false _ _ _ other.0) ∙ is in
        absurd (cc)
  ]
]
