-- Whether a machine came too late for a layer, the cause of each end of a job that writes one, and what it did.
use Rattle.std.proofs.Common.{◌≡◌, ◌⊎◌, inl, inr, ℕ, ◌^◌, ◌≤◌, Bool, true, false, List, ◌∷◌, length, Decides, Option, Some, None, Ok, option_map, refl, sym, ap, subst, ◌∙◌, arith}
use Rattle.std.specs.Prelude.{IfSome, is_none, nat_le, if◌then◌else◌}
use Rattle.std.specs.List.{list_all}
use Rattle.std.proofs.lemmas.Bool.{le-leb, leb-true}
use Rattle.std.proofs.lemmas.Bool.Decides.{Decides-and, Decides-by_and, Decides-like, same_from_decides}
use Rattle.bg_saver.proofs.DeviceText.{device_text_short}
use Rattle.flat_machine.specs.Machine.{IsMachine, MachineData, Rest}
use Rattle.flat_machine.specs.Run.{rounds, rounds_run, run}
use Rattle.flat_machine.proofs.RoundPhases.{rounds_ran}
use Rattle.loader.specs.Loaded.{loaded}
use Rattle.medium.specs.Count.{counted}
use Rattle.medium.specs.States.{FileState}
use Rattle.rv64i_step.specs.Vcpu.{VcpuData}
use Rattle.snap_layer.specs.Layer.{Joined, layer_of}
use Rattle.snap_layer.specs.declared.refusal.LayerRefusal.TheVariants.{Late}
use Rattle.snap_layer.proofs.Counts.{changed_most, length-layer_of}
use Rattle.vm_cli.specs.Jobs.Common.{IsDurable, IsFilledWith}
use Rattle.vm_cli.specs.Answer.{fault_of_write}
use Rattle.vm_cli.specs.Jobs.Layer.{EndsLate, IsBehindPhase, RunsCopy, WritesLayer, is_at_rest, is_quiet, late_fault, late_in, run_layer_step}
use Rattle.vm_cli.specs.Jobs.Load.{load_step}
use Rattle.vm_cli.specs.Steps.{Faults, HasCause, Step}
use Rattle.vm_cli.specs.Write.{IsUnwritten}
use Rattle.vm_cli.specs.declared.answer.Fault.{Fault}
use Rattle.vm_cli.specs.declared.answer.Fault.TheVariants as faults
use Rattle.vm_cli.specs.declared.write_fault.WriteFault.{WriteFault}
use Rattle.vm_cli.specs.declared.write_fault.WriteFault.TheVariants as write_faults
use Rattle.vm_cli.proofs.Causes.{passed, told_fact, where_told}
use Rattle.vm_cli.proofs.Loads.{loaded_passes}

-- ---- A machine at rest

none_decides : {X : Type 0} (o : Option X) → Decides (is_none o) (o ≡ None)
none_decides None = (λ is. refl, λ is. refl)
none_decides (Some x) = (λ is. absurd (cc is), λ is. absurd (cc is))

le_decides : (a b : ℕ) → Decides (nat_le a b) (a ≤ b)
le_decides a b = (leb-true a b, le-leb a b)

abbrev IsQuiet : VcpuData → Type 0
IsQuiet v = (v.pending ≡ None) × (v.steps ≤ 2 ^ 62)

quiet_decides : (v : VcpuData) → Decides (is_quiet v) (IsQuiet v)
quiet_decides v = Decides-and (is_none v.pending) (nat_le v.steps (2 ^ 62)) (none_decides v.pending) (le_decides v.steps (2 ^ 62))

rest_decides : (m : MachineData) → Decides (is_at_rest m) (Rest m)
rest_decides m =
    Decides-like (is_at_rest m)
    (λ parts. record { none_pending = λ k d lt. (parts.1 k d lt).0; steps = λ k d lt. (parts.1 k d lt).1; clock = parts.0 })
    (λ rest. (rest.clock, λ k d lt. (rest.none_pending k d lt, rest.steps k d lt)))
    (Decides-and (nat_le m.clock (2 ^ 62)) (list_all is_quiet m.vcpus) (le_decides m.clock (2 ^ 62)) (Decides-by_and is_quiet IsQuiet (list_all is_quiet) quiet_decides refl (λ v vs. refl) m.vcpus))

late_told : (m : MachineData) (rests : Bool) → Decides rests (Rest m) → late_fault m ≡ (if rests then None else Some (faults.LayerRefused (Late m.clock)))
late_told m rests decides = ap (λ b. if b then None else Some (faults.LayerRefused (Late m.clock))) (same_from_decides (is_at_rest m) rests (rest_decides m) decides)

-- what the rounds of a phase leave is what its order leaves
rounds_leave : (n : ℕ) (base after : MachineData) (order : List ℕ) → Rest base → order ≡ rounds base n → run base order ≡ Some after → (rounds_run base n).machine ≡ after
rounds_leave n base after order rest by_rounds ran =
    let one : Some (rounds_run base n).machine ≡ Some after = sym (rounds_ran base n rest) ∙ ap (run base) (sym by_rounds) ∙ ran in
    cc one

-- whether the phase ended in time, as it is tested
pub phase_late : (n : ℕ) (base after : MachineData) (order : List ℕ) (rests : Bool) → Rest base → order ≡ rounds base n → run base order ≡ Some after → Decides rests (Rest after)
    → late_fault (rounds_run base n).machine ≡ (if rests then None else Some (faults.LayerRefused (Late after.clock)))
phase_late n base after order rests rest by_rounds ran decides = ap late_fault (rounds_leave n base after order rest by_rounds ran) ∙ late_told after rests decides

-- a phase that ended too late
pub ends_late : (n : ℕ) (base copy after : MachineData) (order : List ℕ) (rests : Bool) (clock : ℕ) → Rest base → copy ≡ base → order ≡ rounds copy n → run copy order ≡ Some after
    → Decides rests (Rest after) → rests ≡ false → clock ≡ after.clock → EndsLate n base order (faults.LayerRefused (Late clock))
ends_late n base copy after order true clock rest same by_rounds ran decides late value = cc late
ends_late n base copy after order false clock rest same by_rounds ran decides late value =
    let ordered : order ≡ rounds base n = by_rounds ∙ ap (λ (m : MachineData). rounds m n) same in
    let went : run base order ≡ Some after = ap (λ (m : MachineData). run m order) (sym same) ∙ ran in
    record {
      after = after;
      by_rounds = ordered;
      ran = went;
      late = ap (λ t. faults.LayerRefused (Late t)) value;
      past = late_told after false decides ∙ ap (λ t. Some (faults.LayerRefused (Late t))) (sym value);
      called_for = phase_late n base after order false rest ordered went decides ∙ ap (λ t. Some (faults.LayerRefused (Late t))) (sym value);
    }

-- and one that ended in time
pub ends_in_time : (n : ℕ) (base copy after : MachineData) (order : List ℕ) (rests : Bool) → Rest base → copy ≡ base → order ≡ rounds copy n → run copy order ≡ Some after → Decides rests (Rest after)
    → rests ≡ true → after.shape ≡ copy.shape → IsMachine after → RunsCopy n base order after
ends_in_time n base copy after order false rest same by_rounds ran decides in_time shape limits = cc in_time
ends_in_time n base copy after order true rest same by_rounds ran decides in_time shape limits =
    let ordered : order ≡ rounds base n = by_rounds ∙ ap (λ (m : MachineData). rounds m n) same in
    let went : run base order ≡ Some after = ap (λ (m : MachineData). run m order) (sym same) ∙ ran in
    record {
      by_rounds = ordered;
      ran = went;
      shape = shape ∙ ap (λ (m : MachineData). m.shape) same;
      limits = limits;
      rest = decides.0 refl;
      in_time = phase_late n base after order true rest ordered went decides;
    }

-- ---- The cause of an end at the phase, and behind it

-- how a copy that ran no phase, or came too late, ends
abbrev pub IsCopyEnd : Type 0 → ℕ → MachineData → List ℕ → Fault → Type 0
IsCopyEnd same n base order fault = ((fault ≡ faults.NoMemory) × same) ⊎ EndsLate n base order fault

verdict_at : (n : ℕ) (input : FileState) (base : MachineData) (end : Option Fault) → IfSome input.told (λ file. loaded file ≡ Ok base) → late_fault (rounds_run base n).machine ≡ end
    → IfSome (option_map (λ file. late_in n (loaded file)) input.told) (λ refusal. refusal ≡ end)
verdict_at n input base end loads is =
    where_told (λ file. late_in n (loaded file)) input.told (λ v. v ≡ end) (λ file told. ap (late_in n) (told_fact (λ bytes. loaded bytes ≡ Ok base) input.told file loads told) ∙ is)

copy_refusal : (old new : Faults) (n : ℕ) (input : FileState) (steps : List Step) (base : MachineData) (clock : ℕ) (fault : Fault) → IfSome input.told (λ file. loaded file ≡ Ok base)
    → fault ≡ faults.LayerRefused (Late clock) → late_fault (rounds_run base n).machine ≡ Some fault → HasCause old new (run_layer_step n input ∷ steps) (Some fault)
copy_refusal old new n input steps base clock fault loads is called =
    subst (λ f. late_fault (rounds_run base n).machine ≡ Some f → HasCause old new (run_layer_step n input ∷ steps) (Some f)) (sym is)
    (λ wanted. inr (inr (inl (refl, verdict_at n input base (Some (faults.LayerRefused (Late clock))) loads wanted)))) called

pub copy_cause : (old new : Faults) (n : ℕ) (input : FileState) (steps : List Step) (same : Type 0) (base : MachineData) (order : List ℕ) (fault : Fault) → IfSome input.told (λ file. loaded file ≡ Ok base)
    → IsCopyEnd same n base order fault → HasCause old new (load_step input ∷ run_layer_step n input ∷ steps) (Some fault)
copy_cause old new n input steps same base order fault loads (inl memory) = inl memory.0
copy_cause old new n input steps same base order fault loads (inr late) =
    passed old new (load_step input) (run_layer_step n input ∷ steps) (Some fault) (loaded_passes input base loads) (copy_refusal old new n input steps base late.after.clock fault loads late.late late.called_for)

-- what follows a phase that ended in time has its own cause
pub behind_phase : (old new : Faults) (n : ℕ) (input : FileState) (steps : List Step) (base : MachineData) (end : Option Fault) → IfSome input.told (λ file. loaded file ≡ Ok base)
    → late_fault (rounds_run base n).machine ≡ None → HasCause old new steps end → HasCause old new (load_step input ∷ run_layer_step n input ∷ steps) end
behind_phase old new n input steps base end loads in_time cause =
    passed old new (load_step input) (run_layer_step n input ∷ steps) end (loaded_passes input base loads)
    (passed old new (run_layer_step n input) steps end (verdict_at n input base None loads in_time) cause)

-- a copy that came too late comes behind the phase
pub late_behind : (n : ℕ) (base : MachineData) (order : List ℕ) (old new : FileState) (end : Option Fault) (fault : Fault) → end ≡ Some fault → (late : EndsLate n base order fault)
    → IsBehindPhase late.after old new end
late_behind n base order old new end fault is late =
    subst (IsBehindPhase late.after old new) (sym (is ∙ ap Some late.late)) (late.past ∙ ap Some late.late)

-- an output that wasn't written comes behind the phase
pub unwritten_behind : (after : MachineData) (old new : FileState) (end : Option Fault) (e : WriteFault) → end ≡ Some (fault_of_write e) → IsUnwritten old new e → IsBehindPhase after old new end
unwritten_behind after old new end e is unwritten = subst (IsBehindPhase after old new) (sym is) (by_fault e unwritten)
  where
    by_fault : (e : WriteFault) → IsUnwritten old new e → IsBehindPhase after old new (Some (fault_of_write e))
    by_fault write_faults.FileFault rose = rose
    by_fault (write_faults.NotEmpty len) cause = tt
    by_fault write_faults.NoMemory cause = tt

-- ---- The layer

-- it has a front
pub layer_front : (base m : MachineData) (layer bytes : List ℕ) → IsMachine m → layer ≡ layer_of base m → bytes ≡ layer → 36 ≤ length bytes
layer_front base m layer bytes is same value = omega (arith, ap length value, ap length same, length-layer_of base m is)

-- it is short enough to be written at once
pub layer_short : (base m : MachineData) (layer : List ℕ) → IsMachine m → layer ≡ layer_of base m → length layer ≤ 2 ^ 30
layer_short base m layer is same = omega (arith, ap length same, length-layer_of base m is, changed_most base m is, device_text_short m is)

pub wrote_layer : (base m : MachineData) (layer : List ℕ) (old new : FileState) → layer ≡ layer_of base m → IsFilledWith layer old new → new.syncs ≡ counted old.syncs → IsDurable new → Joined base layer m
    → WritesLayer base m old new
wrote_layer base m layer old new same filled synced durable joins = record {
  written = subst (λ l. IsFilledWith l old new) same filled;
  synced = synced;
  durable = durable;
  joins = subst (λ l. Joined base l m) same joins;
}
