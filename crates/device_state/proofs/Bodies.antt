-- What the bytes of a body say, and the bytes of what they say.
use Rattle.std.proofs.Common.{◌≡◌, ℕ, zero, suc, ◌+◌, ◌*◌, ◌^◌, ◌<◌, ◌≤◌, List, [], ◌∷◌, ◌++◌, Result, Ok, Option, Some, None, length, take, drop, get_or, refl, sym, ap, ◌∙◌, subst, arith, inl, inr}
use Rattle.std.specs.Prelude.{All, ◌==◌, if◌then◌else◌}
use Rattle.std.specs.List.{flat_map}
use Rattle.std.specs.Int.{w64, from_be_bytes}
use Rattle.std.proofs.Math.Seq.{take-add}
use Rattle.std.proofs.lemmas.Bool.{cond-true, cond-false}
use Rattle.std.proofs.lemmas.Bool.Decides.{eqb_tells, leb_tells}
use Rattle.std.proofs.lemmas.List.{get_or-drop, get_or-take, length-take, length-drop}
use Rattle.std.proofs.lemmas.List.Elements.{All-head, All-tail, All-cons, All-nil}
use Rattle.std.proofs.lemmas.Nat.{be_bytes_4, be_bytes_8, from_be_bytes-to_be_bytes_4, from_be_bytes-to_be_bytes_8}
use Rattle.ram_block.specs.Cause.{cause_of, code_of}
use Rattle.ram_block.specs.declared.cause.Cause.{Cause}
use Rattle.ram_block.specs.declared.cause.Cause.TheVariants.{FetchMisaligned, FetchOutside, Illegal, JumpMisaligned, LoadMisaligned, LoadOutside, StoreMisaligned, StoreOutside, Ecall, Ebreak}
use Rattle.mig_stream.specs.Text.{be32, be64, be32_at, be64_at}
use Rattle.rv64i_step.specs.declared.state.State.{State}
use Rattle.rv64i_step.specs.declared.state.State.TheVariants.{Running, Halted}
use Rattle.device_state.specs.DeviceText.{state_byte}
use Rattle.device_state.specs.Reading.{halted_by, numbers_of, state_of}
use Rattle.device_state.specs.declared.fault.DeviceReadFault.{DeviceReadFault}

-- numbers that are bytes
abbrev pub Bytes : List ℕ → Type 0
Bytes l = (i : ℕ) → get_or l i 0 < 256

pub bytes-take : (n : ℕ) (l : List ℕ) → n ≤ length l → Bytes l → (i : ℕ) → i < n → get_or (take n l) i 0 < 256
bytes-take n l le each i lt = subst (λ (b : ℕ). b < 256) (sym (get_or-take n l i 0 lt)) (each i)

pub bytes-drop : (n : ℕ) (l : List ℕ) → Bytes l → Bytes (drop n l)
bytes-drop n l each i = subst (λ (b : ℕ). b < 256) (sym (get_or-drop n l i 0)) (each (n + i))

pub past_end : (n : ℕ) (l : List ℕ) (i : ℕ) → n ≤ i → get_or (take n l) i 0 ≡ 0
past_end zero l i le = refl
past_end (suc n) [] i le = refl
past_end (suc n) (x ∷ l) zero le = absurd (omega (arith, le))
past_end (suc n) (x ∷ l) (suc i) le = past_end n l i (omega (arith, le))

pub bytes-front : (n : ℕ) (l : List ℕ) → Bytes l → Bytes (take n l)
bytes-front n l each i = elim (leb_tells n i) [
  | inl past ↦ subst (λ (b : ℕ). b < 256) (sym (past_end n l i past.1)) (omega arith)
  | inr within ↦ subst (λ (b : ℕ). b < 256) (sym (get_or-take n l i 0 within.1)) (each i)
]

-- a number of eight bytes, and of four
below64 : (l : List ℕ) → Bytes l → from_be_bytes w64 l < 2 ^ 64
below64 l each = omega (arith, each 0, each 1, each 2, each 3, each 4, each 5, each 6, each 7)

pub be64_at-below : (l : List ℕ) (at : ℕ) → Bytes l → be64_at l at < 2 ^ 64
be64_at-below l at each = below64 (take 8 (drop at l)) (bytes-front 8 (drop at l) (bytes-drop at l each))

pub be64_of-at : (l : List ℕ) (at : ℕ) → at + 8 ≤ length l → Bytes l → be64 (be64_at l at) ≡ take 8 (drop at l)
be64_of-at l at le each =
    be_bytes_8 (take 8 (drop at l)) (be64_at l at) (omega (arith, le, length-take 8 (drop at l), length-drop at l)) (bytes-front 8 (drop at l) (bytes-drop at l each)) refl

pub be32_of-at : (l : List ℕ) (at : ℕ) → at + 4 ≤ length l → Bytes l → be32 (be32_at l at) ≡ take 4 (drop at l)
be32_of-at l at le each =
    be_bytes_4 (take 4 (drop at l)) (be32_at l at) (omega (arith, le, length-take 4 (drop at l), length-drop at l)) (bytes-front 4 (drop at l) (bytes-drop at l each)) refl

-- the number that comes first
pub be64_at-first : (n : ℕ) (rest : List ℕ) → n < 2 ^ 64 → be64_at (be64 n ++ rest) 0 ≡ n
be64_at-first n rest fits = from_be_bytes-to_be_bytes_8 n fits

pub be32_at-first : (n : ℕ) (rest : List ℕ) → n < 2 ^ 32 → be32_at (be32 n ++ rest) 0 ≡ n
be32_at-first n rest fits = from_be_bytes-to_be_bytes_4 n fits

-- numbers one behind another
pub numbers_back : (regs rest : List ℕ) → All (λ r. r < 2 ^ 64) regs → numbers_of (length regs) (flat_map be64 regs ++ rest) ≡ regs
unfolding numbers_of
numbers_back [] rest fits = refl
numbers_back (r ∷ regs) rest fits =
    let first : be64_at (flat_map be64 (r ∷ regs) ++ rest) 0 ≡ r = be64_at-first r (flat_map be64 regs ++ rest) (All-head (λ (n : ℕ). n < 2 ^ 64) r regs fits) in
    ap (λ (n : ℕ). n ∷ numbers_of (length regs) (flat_map be64 regs ++ rest)) first
    ∙ ap (λ (l : List ℕ). r ∷ l) (numbers_back regs rest (All-tail (λ (n : ℕ). n < 2 ^ 64) r regs fits))

pub numbers_text : (n : ℕ) (l : List ℕ) → 8 * n ≤ length l → Bytes l → flat_map be64 (numbers_of n l) ≡ take (8 * n) l
unfolding numbers_of
numbers_text zero l le each = refl
numbers_text (suc n) l le each =
    let eight : 8 + 8 * n ≡ 8 * suc n = omega arith in
    ap (λ (b : List ℕ). b ++ flat_map be64 (numbers_of n (drop 8 l))) (be64_of-at l 0 (omega (arith, le)) each)
    ∙ ap (λ (b : List ℕ). take 8 l ++ b) (numbers_text n (drop 8 l) (omega (arith, le, length-drop 8 l)) (bytes-drop 8 l each))
    ∙ sym (take-add 8 (8 * n) l)
    ∙ ap (λ (k : ℕ). take k l) eight

pub numbers_fit : (n : ℕ) (l : List ℕ) → Bytes l → All (λ r. r < 2 ^ 64) (numbers_of n l)
unfolding numbers_of
numbers_fit zero l each = All-nil (λ (r : ℕ). r < 2 ^ 64)
numbers_fit (suc n) l each = All-cons (λ (r : ℕ). r < 2 ^ 64) (be64_at l 0) (numbers_of n (drop 8 l)) (be64_at-below l 0 each) (numbers_fit n (drop 8 l) (bytes-drop 8 l each))

pub numbers_count : (n : ℕ) (l : List ℕ) → length (numbers_of n l) ≡ n
unfolding numbers_of
numbers_count zero l = refl
numbers_count (suc n) l = ap suc (numbers_count n (drop 8 l))

-- a state and its byte
pub state_back : (at : ℕ) (state : State) → state_of at (state_byte state) ≡ Ok state
unfolding state_of cause_of
state_back at Running = refl
state_back at (Halted FetchMisaligned) = refl
state_back at (Halted FetchOutside) = refl
state_back at (Halted Illegal) = refl
state_back at (Halted JumpMisaligned) = refl
state_back at (Halted LoadMisaligned) = refl
state_back at (Halted LoadOutside) = refl
state_back at (Halted StoreMisaligned) = refl
state_back at (Halted StoreOutside) = refl
state_back at (Halted Ecall) = refl
state_back at (Halted Ebreak) = refl

one_code : (code k : ℕ) (here cause : Cause) (rest : Option Cause) → code_of here ≡ k → (rest ≡ Some cause → code_of cause ≡ code) → (if code == k then Some here else rest) ≡ Some cause → code_of cause ≡ code
one_code code k here cause rest is else_it found = elim (eqb_tells code k) [
  | inl same ↦
      let both : Some here ≡ Some cause = sym (cond-true _ _ _ same.0) ∙ found in
      let equal : here ≡ cause = cc in
      ap code_of (sym equal) ∙ is ∙ sym same.1
  | inr other ↦ else_it (sym (cond-false _ _ _ other.0) ∙ found)
]

pub code_back : (code : ℕ) (cause : Cause) → cause_of code ≡ Some cause → code_of cause ≡ code
unfolding cause_of
code_back code cause =
    one_code code 1 FetchMisaligned cause _ refl (one_code code 2 FetchOutside cause _ refl (one_code code 3 Illegal cause _ refl (one_code code 4 JumpMisaligned cause _ refl
    (one_code code 5 LoadMisaligned cause _ refl (one_code code 6 LoadOutside cause _ refl (one_code code 7 StoreMisaligned cause _ refl (one_code code 8 StoreOutside cause _ refl
    (one_code code 9 Ecall cause _ refl (one_code code 10 Ebreak cause _ refl (λ none. absurd (cc)))))))))))

halted_back : (at byte : ℕ) (state : State) (cause : Option Cause) → cause_of byte ≡ cause → halted_by at byte cause ≡ Ok state → state_byte state ≡ byte
halted_back at byte state (Some cause) is found =
    let same : Halted cause ≡ state = cc in
    ap state_byte (sym same) ∙ code_back byte cause is
halted_back at byte state None is found = absurd (cc)

pub state_text : (at byte : ℕ) (state : State) → state_of at byte ≡ Ok state → state_byte state ≡ byte
unfolding state_of
state_text at byte state found = elim (eqb_tells byte 0) [
  | inl zero_byte ↦
      let both : ◌≡◌ {A = Result State DeviceReadFault} (Ok Running) (Ok state) = sym (cond-true _ _ _ zero_byte.0) ∙ found in
      let same : Running ≡ state = cc in
      ap state_byte (sym same) ∙ sym zero_byte.1
  | inr other ↦ halted_back at byte state (cause_of byte) refl (sym (cond-false _ _ _ other.0) ∙ found)
]
