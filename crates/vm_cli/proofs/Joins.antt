-- The cause of each end of a job that joins base and layer, and what it did.
use Rattle.std.proofs.Common.{◌≡◌, inl, inr, ℕ, List, [], ◌∷◌, Option, Some, None, Result, Ok, Err, option_map, refl, sym, ap, subst, ◌∙◌}
use Rattle.std.specs.Prelude.{IfErr, IfSome, IsErr, IsErrAnd, length, nat_lt, ◌+◌, ◌≢◌, true}
use Rattle.std.proofs.lemmas.Bool.{cases_Bool, cond-false, cond-true}
use Rattle.file_plan.specs.Layout.{file_of}
use Rattle.flat_machine.specs.Machine.{IsMachine, MachineData, Rest}
use Rattle.image_file.specs.Image.{raw_of}
use Rattle.image_file.specs.declared.raw.TheConstants.{MOST_IMAGE}
use Rattle.image_file.specs.declared.image_refusal.ImageRefusal.TheVariants.{TooLong}
use Rattle.loader.specs.Loaded.{loaded}
use Rattle.medium.specs.States.{FileState, Leaves, SourceState}
use Rattle.snap_layer.specs.Layer.{Joined, layer_of}
use Rattle.snap_layer.specs.Reading.{Answers, joined_in, refusal, refusal_in}
use Rattle.snap_layer.specs.declared.refusal.LayerFault.{LayerFault}
use Rattle.snap_layer.specs.declared.refusal.LayerFault.TheVariants as layers
use Rattle.snap_layer.specs.declared.refusal.LayerRefusal.{LayerRefusal}
use Rattle.snap_layer.specs.declared.refusal.LayerRefusal.TheVariants.{Late}
use Rattle.snap_layer.proofs.Joins.{joined_back, read_back}
use Rattle.vm_cli.specs.Answer.{fault_of_layer}
use Rattle.vm_cli.specs.Jobs.Common.{IsFilledWith, length_fault, write_output_step}
use Rattle.vm_cli.specs.Jobs.Join.{IsBeforeJoin, IsFullSave, IsOfParts, IsUnsaved, JoinsTo, StopsJoin, is_layer_refusal, join_step, join_verdict, layer_fault, read_layer_step}
use Rattle.vm_cli.specs.Jobs.Save.{KeepsImages, WritesInstant}
use Rattle.vm_cli.specs.Steps.{Faults, HasCause, Passes, Step}
use Rattle.vm_cli.specs.Work.{IsNotEmpty, IsUsage, IsWorkDone}
use Rattle.vm_cli.specs.declared.answer.Fault.{Fault}
use Rattle.vm_cli.specs.declared.answer.Fault.TheVariants as faults
use Rattle.vm_cli.specs.declared.write_fault.WriteFault.TheVariants as write_faults
use Rattle.vm_cli.proofs.Causes.{unwritten, where_told}
use Rattle.vm_cli.proofs.Saves.{one_file}

-- ---- Base and layer

-- what base and layer call for, where both are told
join_told : (left told : Option (List ℕ)) (layer : List ℕ) (base : MachineData) (end : Option Fault) → IfSome left (λ bytes. layer ≡ bytes) → IfSome told (λ file. loaded file ≡ Ok base)
    → layer_fault layer (Ok base) ≡ end → IfSome (join_verdict left told) (λ refusal. refusal ≡ end)
join_told (Some bytes) (Some file) layer base end same loads is = ap (layer_fault bytes) loads ∙ ap (λ l. layer_fault l (Ok base)) (sym same) ∙ is
join_told (Some bytes) None layer base end same loads is = tt
join_told None told layer base end same loads is = tt

-- a refusal of a layer is one of the step
is_refused : (why : LayerRefusal) → ((clock : ℕ) → why ≢ Late clock) → is_layer_refusal (faults.LayerRefused why) ≡ true
is_refused (Late clock) other = absurd (other clock refl)
is_refused _ other = refl

-- base and layer that join to none
pub unjoined : (old new : Faults) (image : SourceState) (input : FileState) (steps : List Step) (base : MachineData) (layer : List ℕ) (e : LayerFault) → IfSome image.left (λ bytes. layer ≡ bytes)
    → IfSome input.told (λ file. loaded file ≡ Ok base) → ((clock : ℕ) → refusal base layer ≢ Some (Late clock)) → Answers {A = MachineData} (joined_in base layer) (Err e)
    → HasCause old new (join_step image input ∷ steps) (Some (fault_of_layer e))
unjoined old new image input steps base layer (layers.Refused why) same loads never answer =
    inr (inr (inl (
      is_refused why (λ clock is. never clock (ap refusal_in answer ∙ ap Some is)),
      join_told image.left input.told layer base (Some (faults.LayerRefused why)) same loads (ap (λ found. option_map (λ r. faults.LayerRefused r) (refusal_in found)) answer),
    )))
unjoined old new image input steps base layer layers.NoMemory same loads never answer = inl refl

-- which is a fault of the layer
pub unjoined_part : (old new : FileState) (base : MachineData) (layer : List ℕ) (e : LayerFault) → ((clock : ℕ) → refusal base layer ≢ Some (Late clock))
    → Answers {A = MachineData} (joined_in base layer) (Err e) → IsOfParts old new (fault_of_layer e)
unjoined_part old new base layer (layers.Refused why) never answer = is_part why (λ clock is. never clock (ap refusal_in answer ∙ ap Some is))
  where
    is_part : (why : LayerRefusal) → ((clock : ℕ) → why ≢ Late clock) → IsOfParts old new (faults.LayerRefused why)
    is_part (Late clock) other = other clock refl
    is_part _ other = tt
unjoined_part old new base layer layers.NoMemory never answer = tt

-- and that join to a machine
pub joined_passes : (image : SourceState) (input : FileState) (base m : MachineData) (layer : List ℕ) → IfSome image.left (λ bytes. layer ≡ bytes) → IfSome input.told (λ file. loaded file ≡ Ok base)
    → joined_in base layer ≡ Ok m → Passes (join_step image input)
joined_passes image input base m layer same loads answer =
    join_told image.left input.told layer base None same loads (ap (λ found. option_map (λ r. faults.LayerRefused r) (refusal_in found)) answer)

-- the layer that was read whole is all that was left
pub read_whole : (left : Option (List ℕ)) (limit : ℕ) (layer : List ℕ) → ((bytes : List ℕ) → left ≡ Some bytes → raw_of bytes limit ≡ Ok layer) → IfSome left (λ bytes. layer ≡ bytes)
read_whole None limit layer answer = tt
read_whole (Some bytes) limit layer answer = elim (cases_Bool (nat_lt limit (length bytes))) [
  | inl long ↦ let no : Err (TooLong (limit + 1)) ≡ Ok layer = sym (cond-true _ _ _ long) ∙ answer bytes refl in absurd (cc no)
  | inr fits ↦ let same : Ok bytes ≡ Ok layer = sym (cond-false _ _ _ fits) ∙ answer bytes refl in cc same
]

-- which is the end of its step
pub read_passes : (image : SourceState) (layer : List ℕ) → ((bytes : List ℕ) → image.left ≡ Some bytes → raw_of bytes MOST_IMAGE ≡ Ok layer) → Passes (read_layer_step image)
read_passes image layer answer = where_told (λ bytes. length_fault (raw_of bytes MOST_IMAGE)) image.left (λ v. v ≡ None) (λ bytes told. ap length_fault (answer bytes told))

-- what holds of the one fault of a result
pub of_fault : {T : Type 0} (result : Result T Fault) (fault : Fault) (P : Fault → Type 0) → IsErr result × IsErrAnd result (λ f. f ≡ fault) → P fault → IfErr result P
of_fault (Ok done) fault P failed holds = tt
of_fault (Err f) fault P failed holds = subst P (sym failed.1) holds

-- ---- The faults of layer and base

pub parts_before : (old new : FileState) (end : Option Fault) (fault : Fault) → end ≡ Some fault → IsOfParts old new fault → IsBeforeJoin old new end
parts_before old new end fault is of = subst (IsBeforeJoin old new) (sym is) (by_fault fault of)
  where
    by_fault : (f : Fault) → IsOfParts old new f → IsBeforeJoin old new (Some f)
    by_fault (faults.ImageRefused refusal) of = of
    by_fault faults.ImageFault of = of
    by_fault (faults.FileRefused refusal) of = of
    by_fault (faults.LayerRefused (Late clock)) of = of
    by_fault (faults.LayerRefused _) of = tt
    by_fault faults.FileFault of = of
    by_fault faults.NoMemory of = of
    by_fault _ of = absurd of

pub parts_undone : (old new : FileState) (end : Option Fault) (fault : Fault) (P : Type 0) → end ≡ Some fault → IsOfParts old new fault → IsWorkDone end → P
parts_undone old new end fault P is of done = by_fault fault of (subst IsWorkDone is done)
  where
    by_fault : (f : Fault) → IsOfParts old new f → IsWorkDone (Some f) → P
    by_fault faults.ConsoleFault of done = absurd of
    by_fault _ of done = absurd done

pub parts_words : (old new : FileState) (end : Option Fault) (fault : Fault) → end ≡ Some fault → IsOfParts old new fault → IsUsage end → ⊥
parts_words old new end fault is of usage = by_fault fault of (subst IsUsage is usage)
  where
    by_fault : (f : Fault) → IsOfParts old new f → IsUsage (Some f) → ⊥
    by_fault (faults.Usage index kind) of usage = of
    by_fault _ of usage = usage

pub parts_some : (old new : FileState) (end : Option Fault) (fault : Fault) (P : Type 0) → end ≡ Some fault → IsOfParts old new fault → IsNotEmpty end → P
parts_some old new end fault P is of full = by_fault fault of (subst IsNotEmpty is full)
  where
    by_fault : (f : Fault) → IsOfParts old new f → IsNotEmpty (Some f) → P
    by_fault (faults.NotEmpty len) of full = absurd of
    by_fault _ of full = absurd full

-- ---- The save of the machine to which they join

-- base and layer of a machine at rest join to it
pub one_machine : (base i m : MachineData) (layer : List ℕ) → IsMachine base → IsMachine i → Rest i → i.shape ≡ base.shape → layer ≡ layer_of base i → Joined base layer m → i ≡ m
one_machine base i m layer is other rest shape same joined =
    let one : Ok i ≡ Ok m = sym (joined_back base i is other rest shape) ∙ ap (joined_in base) (sym same) ∙ read_back base layer m is joined in
    cc one

-- so its save is the one that is written
pub full_save : (image image_now : SourceState) (input : FileState) (m : MachineData) (joins : JoinsTo image image_now input m) (old new : FileState) → WritesInstant m old new → IsFullSave joins old new
full_save image image_now input m joins old new file = λ i is rest shape same.
    subst (λ n. IsFilledWith (file_of n) old new) (sym (one_machine joins.base i m joins.layer joins.loaded.limits is rest shape same joins.joined)) file.written

-- and tells the same bytes as one of that machine
pub joined_file : (base m i : MachineData) (old new other_old other_new : FileState) → IsMachine base → IsMachine i → Rest i → i.shape ≡ base.shape → Joined base (layer_of base i) m
    → WritesInstant m old new → WritesInstant i other_old other_new → old.told ≡ Some [] → other_old.told ≡ Some [] → new.told ≡ other_new.told
joined_file base m i old new other_old other_new is other rest shape joined file other_file empty other_empty =
    let same : i ≡ m = one_machine base i m (layer_of base i) is other rest shape refl joined in
    one_file i old new other_old other_new (subst (λ n. WritesInstant n old new) (sym same) file) other_file empty other_empty

-- the cause of a save that didn't end well
pub unsaved_cause : (old new : Faults) (m : MachineData) (same : Type 0) (before after : FileState) (steps : List Step) (fault : Fault) → before.faults ≡ old.output → after.faults ≡ new.output
    → IsUnsaved m same before after fault → HasCause old new (write_output_step before ∷ steps) (Some fault)
unsaved_cause old new m same before after steps faults.FileFault was is (inl fails) = unwritten old new before after steps write_faults.FileFault was is fails.rose
unsaved_cause old new m same before after steps (faults.NotEmpty len) was is (inl full) = unwritten old new before after steps (write_faults.NotEmpty len) was is (full.some, full.answer, full.leaves)
unsaved_cause old new m same before after steps faults.NoMemory was is (inl memory) = inl refl
unsaved_cause old new m same before after steps _ was is (inl none) = absurd none
unsaved_cause old new m same before after steps fault was is (inr fails) =
    let failed : fault ≡ faults.FileFault = cc fails.fault in
    subst (λ f. HasCause old new (write_output_step before ∷ steps) (Some f)) (sym failed) (unwritten old new before after steps write_faults.FileFault was is fails.rose)

-- what stands where it wasn't saved
pub ends_joined : (image image_now : SourceState) (input input_now : FileState) (same : Type 0) (old new : FileState) (m : MachineData) (fault : Fault) (end : Option Fault) → end ≡ Some fault
    → JoinsTo image image_now input m → IsUnsaved m same old new fault → KeepsImages m old new → StopsJoin image image_now input input_now same old new end
ends_joined image image_now input input_now same old new m fault end is joins unsaved crash =
    subst (StopsJoin image image_now input input_now same old new) (sym is) (inr (record { machine = m; joined = joins; output = unsaved; crash = crash }))

pub unsaved_undone : (m : MachineData) (same : Type 0) (old new : FileState) (end : Option Fault) (fault : Fault) (P : Type 0) → end ≡ Some fault → IsUnsaved m same old new fault → IsWorkDone end → P
unsaved_undone m same old new end fault P is unsaved done = by_fault fault unsaved (subst IsWorkDone is done)
  where
    by_fault : (f : Fault) → IsUnsaved m same old new f → IsWorkDone (Some f) → P
    by_fault faults.ConsoleFault (inl none) done = absurd none
    by_fault faults.ConsoleFault (inr fails) done = absurd (cc fails.fault)
    by_fault _ unsaved done = absurd done

pub unsaved_words : (m : MachineData) (same : Type 0) (old new : FileState) (end : Option Fault) (fault : Fault) → end ≡ Some fault → IsUnsaved m same old new fault → IsUsage end → ⊥
unsaved_words m same old new end fault is unsaved usage = by_fault fault unsaved (subst IsUsage is usage)
  where
    by_fault : (f : Fault) → IsUnsaved m same old new f → IsUsage (Some f) → ⊥
    by_fault (faults.Usage index kind) (inl none) usage = none
    by_fault (faults.Usage index kind) (inr fails) usage = cc fails.fault
    by_fault _ unsaved usage = usage

pub unsaved_full : (m : MachineData) (same : Type 0) (old new : FileState) (end : Option Fault) (fault : Fault) → end ≡ Some fault → IsUnsaved m same old new fault → IsNotEmpty end → Leaves old new
unsaved_full m same old new end fault is unsaved full = by_fault fault unsaved (subst IsNotEmpty is full)
  where
    by_fault : (f : Fault) → IsUnsaved m same old new f → IsNotEmpty (Some f) → Leaves old new
    by_fault (faults.NotEmpty len) (inl some) full = some.leaves
    by_fault (faults.NotEmpty len) (inr fails) full = absurd (cc fails.fault)
    by_fault _ unsaved full = absurd full
