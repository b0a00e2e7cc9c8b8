-- The cause of each end of a job, step by step; and that it ended as is called for follows from its cause.
use Rattle.std.proofs.Common.{◌≡◌, ◌⊎◌, inl, inr, ℕ, ◌<◌, List, [], ◌∷◌, length, Option, Some, None, true, option_map, refl, sym, ap, subst, arith}
use Rattle.std.proofs.lemmas.Bool.{lt-ltb}
use Rattle.std.specs.Prelude.{IfSome, nat_lt}
use Rattle.image_file.specs.declared.image_fault.ImageFault.{ImageFault}
use Rattle.image_file.specs.declared.image_fault.ImageFault.TheVariants as image_faults
use Rattle.image_file.specs.declared.image_refusal.ImageRefusal.{ImageRefusal}
use Rattle.medium.specs.Count.{HasRisen}
use Rattle.medium.specs.States.{FileState, SourceState}
use Rattle.vm_cli.specs.Answer.{fault_of_image, fault_of_write}
use Rattle.vm_cli.specs.Jobs.Common.{IsFilledWith, not_empty_in, read_image_step, write_output_step}
use Rattle.vm_cli.specs.Steps.{AllPass, EndsAsCalledFor, Faults, HasCause, HasFailed, IsExcused, IsOfCall, IsOfStep, Object, Passes, Step, called_for, verdict_or}
use Rattle.vm_cli.specs.Write.{IsUnwritten}
use Rattle.vm_cli.specs.declared.answer.Fault.{Fault}
use Rattle.vm_cli.specs.declared.answer.Fault.TheVariants as faults
use Rattle.vm_cli.specs.declared.write_fault.WriteFault.{WriteFault}
use Rattle.vm_cli.specs.declared.write_fault.WriteFault.TheVariants as write_faults

-- ---- What is told

-- a fact of what bytes call for, where they are told
pub where_told : {X : Type 0} (f : List ℕ → X) (told : Option (List ℕ)) (P : X → Type 0) → ((bytes : List ℕ) → told ≡ Some bytes → P (f bytes)) → IfSome (option_map f told) P
where_told f (Some bytes) P each = each bytes refl
where_told f None P each = tt

-- a fact of anything holds of what is there
pub always : {X : Type 0} (o : Option X) (P : X → Type 0) → ((x : X) → P x) → IfSome o P
always (Some x) P each = each x
always None P each = tt

-- ---- The cause of an end, at a step and behind it

-- a step that passes leaves the cause to those behind it
pub passed : (old new : Faults) (step : Step) (steps : List Step) (end : Option Fault) → Passes step → HasCause old new steps end → HasCause old new (step ∷ steps) end
passed old new step steps None passes cause = (passes, cause)
passed old new step steps (Some fault) passes (inl memory) = inl memory
passed old new step steps (Some fault) passes (inr cause) = inr (inr (inr (passes, cause)))

-- the cause of an end by its fault
pub ended_cause : (old new : Faults) (steps : List Step) (end : Option Fault) (fault : Fault) → end ≡ Some fault → HasCause old new steps (Some fault) → HasCause old new steps end
ended_cause old new steps end fault is cause = subst (HasCause old new steps) (sym is) cause

-- an image that was not read
pub unread : (old new : Faults) (image : SourceState) (refusal : List ℕ → Option Fault) (steps : List Step) (e : ImageFault)
    → ((bytes : List ℕ) (r : ImageRefusal) → image.left ≡ Some bytes → e ≡ image_faults.Refused r → refusal bytes ≡ Some (faults.ImageRefused r))
    → (e ≡ image_faults.ReadFault → HasRisen old.image new.image) → HasCause old new (read_image_step refusal image ∷ steps) (Some (fault_of_image e))
unread old new image refusal steps (image_faults.Refused r) answer rose =
    inr (inr (inl (refl, where_told refusal image.left (λ v. v ≡ Some (faults.ImageRefused r)) (λ bytes is. answer bytes r is refl))))
unread old new image refusal steps image_faults.ReadFault answer rose = inr (inl (refl, rose refl))
unread old new image refusal steps image_faults.NoMemory answer rose = inl refl

-- the length of a file that has bytes calls for a refusal
full : (bytes : List ℕ) (len : ℕ) → 0 < len → len ≡ length bytes → not_empty_in bytes ≡ Some (faults.NotEmpty len)
full [] len some is = absurd (omega (arith, some, is))
full (b ∷ bytes) len some is = ap (λ (n : ℕ). Some (faults.NotEmpty n)) (sym is)

some_is_true : (n : ℕ) → 0 < n → nat_lt 0 n ≡ true
some_is_true n some = lt-ltb 0 n some

pub told_fact : (P : List ℕ → Type 0) (told : Option (List ℕ)) (bytes : List ℕ) → IfSome told P → told ≡ Some bytes → P bytes
told_fact P told bytes holds is = subst (λ (o : Option (List ℕ)). IfSome o P) is holds

-- an output that was not written
pub unwritten : (old new : Faults) (before after : FileState) (steps : List Step) (e : WriteFault) → before.faults ≡ old.output → after.faults ≡ new.output
    → IsUnwritten before after e → HasCause old new (write_output_step before ∷ steps) (Some (fault_of_write e))
unwritten old new before after steps write_faults.FileFault was is rose =
    inr (inl (refl, subst (λ (n : ℕ). HasRisen n new.output) was (subst (λ (n : ℕ). HasRisen before.faults n) is rose)))
unwritten old new before after steps (write_faults.NotEmpty len) was is cause =
    inr (inr (inl (some_is_true len cause.0, where_told not_empty_in before.told (λ v. v ≡ Some (faults.NotEmpty len)) (λ bytes told. full bytes len cause.0 (told_fact (λ b. len ≡ length b) before.told bytes cause.1 told)))))
unwritten old new before after steps write_faults.NoMemory was is cause = inl refl

-- an output that was written was empty
pub written_passes : (bytes : List ℕ) (old new : FileState) → IsFilledWith bytes old new → Passes (write_output_step old)
written_passes bytes old new filled =
    where_told not_empty_in old.told (λ v. v ≡ None)
    (λ before told. ap not_empty_in (told_fact (λ b. (b ≡ []) × (new.told ≡ Some bytes)) old.told before filled told).0)

-- ---- What goes on holding

of_call_later : (old mid new : Faults) (calls : Option Object) (fault : Fault) → ((object : Object) → HasFailed old mid object → HasFailed old new object)
    → IsOfCall old mid calls fault → IsOfCall old new calls fault
of_call_later old mid new None fault later of_call = of_call
of_call_later old mid new (Some object) fault later of_call = (of_call.0, later object of_call.1)

of_step_later : (old mid new : Faults) (steps : List Step) (fault : Fault) → ((object : Object) → HasFailed old mid object → HasFailed old new object)
    → IsOfStep old mid steps fault → IsOfStep old new steps fault
of_step_later old mid new [] fault later of_step = of_step
of_step_later old mid new (step ∷ steps) fault later (inl of_call) = inl (of_call_later old mid new step.calls fault later of_call)
of_step_later old mid new (step ∷ steps) fault later (inr (inl refusal)) = inr (inl refusal)
of_step_later old mid new (step ∷ steps) fault later (inr (inr behind)) = inr (inr (behind.0, of_step_later old mid new steps fault later behind.1))

-- a cause is one at any later moment
pub cause_later : (old mid new : Faults) (steps : List Step) (end : Option Fault) → ((object : Object) → HasFailed old mid object → HasFailed old new object)
    → HasCause old mid steps end → HasCause old new steps end
cause_later old mid new steps None later cause = cause
cause_later old mid new steps (Some fault) later (inl memory) = inl memory
cause_later old mid new steps (Some fault) later (inr of_step) = inr (of_step_later old mid new steps fault later of_step)

-- ---- The end that is called for

-- behind a step that passes, it is that of the other steps
behind : (verdict later : Option (Option Fault)) (P : Option Fault → Type 0) → IfSome verdict (λ refusal. refusal ≡ None) → IfSome later P → IfSome (verdict_or verdict later) P
behind None later P passes holds = tt
behind (Some None) later P passes holds = holds
behind (Some (Some refusal)) later P passes holds = absurd (cc passes)

-- at a step that refuses, it is its refusal
at_refusal : (verdict later : Option (Option Fault)) (fault : Fault) (P : Option Fault → Type 0) → IfSome verdict (λ refusal. refusal ≡ Some fault) → P (Some fault) → IfSome (verdict_or verdict later) P
at_refusal None later fault P refused holds = tt
at_refusal (Some None) later fault P refused holds = absurd (cc refused)
at_refusal (Some (Some refusal)) later fault P refused holds = subst P (sym refused) holds

of_passed : (old new : Faults) (steps : List Step) → AllPass steps → IfSome (called_for steps) (λ wanted. (None ≡ wanted) ⊎ IsExcused old new None)
of_passed old new [] passes = inl refl
of_passed old new (step ∷ steps) passes = behind step.verdict (called_for steps) (λ wanted. (None ≡ wanted) ⊎ IsExcused old new None) passes.0 (of_passed old new steps passes.1)

call_excuses : (old new : Faults) (calls : Option Object) (fault : Fault) → IsOfCall old new calls fault → IsExcused old new (Some fault)
call_excuses old new None fault of_call = absurd of_call
call_excuses old new (Some object) fault of_call = inr (object, ap Some of_call.0, of_call.1)

of_step : (old new : Faults) (steps : List Step) (fault : Fault) → IsOfStep old new steps fault → IfSome (called_for steps) (λ wanted. (Some fault ≡ wanted) ⊎ IsExcused old new (Some fault))
of_step old new [] fault is = absurd is
of_step old new (step ∷ steps) fault (inl of_call) =
    always (called_for (step ∷ steps)) (λ wanted. (Some fault ≡ wanted) ⊎ IsExcused old new (Some fault)) (λ wanted. inr (call_excuses old new step.calls fault of_call))
of_step old new (step ∷ steps) fault (inr (inl refusal)) =
    at_refusal step.verdict (called_for steps) fault (λ wanted. (Some fault ≡ wanted) ⊎ IsExcused old new (Some fault)) refusal.1 (inl refl)
of_step old new (step ∷ steps) fault (inr (inr later)) =
    behind step.verdict (called_for steps) (λ wanted. (Some fault ≡ wanted) ⊎ IsExcused old new (Some fault)) later.0 (of_step old new steps fault later.1)

pub ends_as_called_for : (old new : Faults) (steps : List Step) (end : Option Fault) → HasCause old new steps end → EndsAsCalledFor old new steps end
ends_as_called_for old new steps None cause = of_passed old new steps cause
ends_as_called_for old new steps (Some fault) (inl memory) =
    always (called_for steps) (λ wanted. (Some fault ≡ wanted) ⊎ IsExcused old new (Some fault)) (λ wanted. inr (inl (ap Some memory)))
ends_as_called_for old new steps (Some fault) (inr is) = of_step old new steps fault is
