-- Numbers of eight bytes one after another.
use Rattle.std.proofs.Common.{◌≡◌, ℕ, zero, suc, ◌+◌, ◌*◌, ◌<◌, ◌≤◌, List, [], ◌∷◌, ◌++◌, length, take, drop, set, refl, sym, ap, ◌∙◌, subst, arith, slice_index, Err}
use Rattle.std.proofs.Math.Seq.{take-suc-set}
use Rattle.std.proofs.lemmas.Bool.{le-ltb, cond-false}
use Rattle.std.proofs.lemmas.List.{drop-drop, take_all}
use Rattle.std.specs.Int.{w64, from_be_bytes}
use Rattle.mig_stream.specs.Text.{be64_at}
use Rattle.ram_block.specs.declared.limits.TheConstants.{MOST_AT_REST}
use Rattle.device_state.specs.Reading.{numbers_of, state_of, vcpu_of}
use Rattle.device_state.specs.declared.fault.DeviceReadFault.{DeviceReadFault}
use Rattle.device_state.specs.declared.format.TheConstants.{STATE_AT, STEPS_AT}
use Rattle.device_state.proofs.Chains.{on_err}

be64_at-drop : (bytes : List ℕ) (i : ℕ) → be64_at (drop 8 bytes) (8 * i) ≡ be64_at bytes (8 * suc i)
be64_at-drop bytes i =
    let place : 8 + 8 * i ≡ 8 * suc i = omega arith in
    ap (λ (l : List ℕ). from_be_bytes w64 (take 8 l)) (drop-drop (8 * i) 8 bytes ∙ ap (λ (k : ℕ). drop k bytes) place)

-- one number more
numbers_more : (n : ℕ) (bytes : List ℕ) → numbers_of (suc n) bytes ≡ numbers_of n bytes ++ (be64_at bytes (8 * n) ∷ [])
unfolding numbers_of
numbers_more zero bytes = refl
numbers_more (suc n) bytes =
    ap (λ (l : List ℕ). be64_at bytes 0 ∷ l) (numbers_more n (drop 8 bytes))
    ∙ ap (λ (v : ℕ). be64_at bytes 0 ∷ (numbers_of n (drop 8 bytes) ++ (v ∷ []))) (be64_at-drop bytes n)

pub numbers_none : (bytes : List ℕ) → [] ≡ numbers_of 0 bytes
unfolding numbers_of
numbers_none bytes = refl

pub registers_more : (regs bytes : List ℕ) (i v : ℕ) → i < length regs → v ≡ be64_at bytes (8 * i) → take i regs ≡ numbers_of i bytes → take (i + 1) (set regs i v) ≡ numbers_of (i + 1) bytes
registers_more regs bytes i v within is so_far =
    let one : i + 1 ≡ suc i = omega arith in
    ap (λ (k : ℕ). take k (set regs i v)) one
    ∙ take-suc-set regs i v within
    ∙ ap (λ (l : List ℕ). l ++ (v ∷ [])) so_far
    ∙ ap (λ (w : ℕ). numbers_of i bytes ++ (w ∷ [])) is
    ∙ sym (numbers_more i bytes)
    ∙ ap (λ (k : ℕ). numbers_of k bytes) (sym one)

pub registers_all : (regs bytes : List ℕ) (i : ℕ) → length regs ≡ 31 → i ≡ 31 → take i regs ≡ numbers_of i bytes → regs ≡ numbers_of 31 bytes
registers_all regs bytes i count end so_far = sym (take_all i regs (omega (arith, count, end))) ∙ so_far ∙ ap (λ (k : ℕ). numbers_of k bytes) end

-- a vCPU with a state that none has
pub state_fails : (at : ℕ) (body : List ℕ) (fault : DeviceReadFault) (steps : ℕ) → steps ≡ be64_at body STEPS_AT → steps ≤ MOST_AT_REST → state_of (at + STATE_AT) (slice_index body STATE_AT) ≡ Err fault → vcpu_of at body ≡ Err fault
unfolding vcpu_of
state_fails at body fault steps is le refused = cond-false _ _ _ (le-ltb _ _ (subst (λ (n : ℕ). n ≤ MOST_AT_REST) is le)) ∙ on_err _ _ fault refused
