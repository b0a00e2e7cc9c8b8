-- The job of `join`: a layer is read from the image, the machine of the input is loaded as its base, and the machine to
-- which they join is saved in the output, with no phase beside it (this project's own, docs/COMMAND_LINE.md).
use Rattle.std.specs.Prelude.{◌≡◌, ◌⊎◌, ◌≤◌, ℕ, Bool, true, false, List, [], ◌∷◌, Option, Some, None, option_map, Result, Ok, Err, IfSome}
use Rattle.file_plan.specs.Layout.{file_of}
use Rattle.flat_machine.specs.Machine.{IsMachine, MachineData, Rest}
use Rattle.image_file.specs.Image.{raw_of}
use Rattle.image_file.specs.declared.raw.TheConstants.{MOST_IMAGE}
use Rattle.loader.specs.Loaded.{loaded}
use Rattle.loader.specs.declared.refusal.Refusal.{Refusal}
use Rattle.medium.specs.Count.{HasRisen, counted}
use Rattle.medium.specs.States.{FileState, SourceState}
use Rattle.snap_layer.specs.Layer.{Joined, layer_of}
use Rattle.snap_layer.specs.Reading.{refusal}
use Rattle.snap_layer.specs.declared.refusal.LayerRefusal.TheVariants.{Late}
use Rattle.vm_cli.specs.Jobs.Common.{IsFilledWith, IsReadWhole, Printing, length_fault, print_step, read_image_step, write_output_step}
use Rattle.vm_cli.specs.Jobs.Load.{IsLoadedOf, load_step}
use Rattle.vm_cli.specs.Jobs.Save.{KeepsImages, LeavesAtInstant, WritesInstant}
use Rattle.vm_cli.specs.Outside.{End, Outside}
use Rattle.vm_cli.specs.Steps.{Step}
use Rattle.vm_cli.specs.declared.answer.Fault.{Fault}
use Rattle.vm_cli.specs.declared.answer.Fault.TheVariants as faults
use Rattle.vm_report.specs.Report.{ok_line}

-- ---- Steps

-- the layer is read, to its end or to its limit, and refused where it is longer
abbrev pub read_layer_step : SourceState → Step
read_layer_step image = read_image_step (λ bytes. length_fault (raw_of bytes MOST_IMAGE)) image

-- no layer is refused as too late: that comes where one is made
abbrev pub is_layer_refusal : Fault → Bool
is_layer_refusal (faults.LayerRefused (Late clock)) = false
is_layer_refusal (faults.LayerRefused refusal) = true
is_layer_refusal _ = false

-- the fault of a layer that joins with the machine of this file to none
abbrev pub layer_fault : List ℕ → Result MachineData Refusal → Option Fault
layer_fault layer (Ok base) = option_map (λ why. faults.LayerRefused why) (refusal base layer)
layer_fault layer (Err why) = None

-- the same, where both layer and input are told
abbrev pub join_verdict : Option (List ℕ) → Option (List ℕ) → Option (Option Fault)
join_verdict (Some layer) (Some file) = Some (layer_fault layer (loaded file))
join_verdict layer file = None

-- base and layer are joined, unless a piece of the layer is wrong
abbrev pub join_step : SourceState → FileState → Step
join_step image input = record { calls = None; may_refuse = is_layer_refusal; verdict = join_verdict image.left input.told }

abbrev pub join_steps : SourceState → FileState → FileState → List Step
join_steps image input output = read_layer_step image ∷ load_step input ∷ join_step image input ∷ write_output_step output ∷ print_step ∷ []

-- ---- What it did, where its work came to its end

-- The layer was read to its end, the base was loaded, and they join to this machine.
pub record JoinsTo (image image_now : SourceState) (input : FileState) (m : MachineData) : Type 0 where
  pub base : MachineData
  pub loaded : IsLoadedOf input base
  pub layer : List ℕ
  pub read : IsReadWhole image image_now
  pub taken : IfSome image.left (λ bytes. layer ≡ bytes)
  pub joined : Joined base layer m

-- The output holds what a full save of machine i writes, where the layer is the one of i over the base.
abbrev pub IsFullSave : {image image_now : SourceState} → {input : FileState} → {m : MachineData} → JoinsTo image image_now input m → FileState → FileState → Type 0
IsFullSave joins old new =
    (i : MachineData) → IsMachine i → Rest i → i.shape ≡ joins.base.shape → joins.layer ≡ layer_of joins.base i → IsFilledWith (file_of i) old new

pub record Joins (prints : Printing) (old new : Outside) (end : End) : Type 0 where
  pub machine : MachineData
  pub joined : JoinsTo old.image new.image old.input machine
  pub file : WritesInstant machine old.output new.output
  pub crash : KeepsImages machine old.output new.output
  pub full : IsFullSave joined old.output new.output
  pub printed : prints end.fault (ok_line machine.shape) old.console new.console

-- ---- What it did, where it ended before it printed anything

-- the faults that may come before base and layer are joined: one of the words, of the layer, of the input, or want of memory
abbrev pub IsBeforeJoin : FileState → FileState → Option Fault → Type 0
IsBeforeJoin old new (Some (faults.Usage index kind)) = Unit {0}
IsBeforeJoin old new (Some (faults.ImageRefused refusal)) = Unit {0}
IsBeforeJoin old new (Some faults.ImageFault) = Unit {0}
IsBeforeJoin old new (Some (faults.FileRefused refusal)) = Unit {0}
IsBeforeJoin old new (Some (faults.LayerRefused (Late clock))) = ⊥
IsBeforeJoin old new (Some (faults.LayerRefused refusal)) = Unit {0}
IsBeforeJoin old new (Some faults.FileFault) = HasRisen old.faults new.faults
IsBeforeJoin old new (Some faults.NoMemory) = Unit {0}
IsBeforeJoin old new _ = ⊥

-- a call on the output failed behind its first sync
pub record FailsBehindBegin (old new : FileState) (ended : Option Fault) : Type 0 where
  pub fault : ended ≡ Some faults.FileFault
  pub rose : HasRisen old.faults new.faults
  pub synced : counted old.syncs ≤ new.syncs

-- they were joined, and the machine wasn't saved, or not whole
pub record EndsJoined (image image_now : SourceState) (input : FileState) (same_output : Type 0) (old new : FileState) (fault : Option Fault) : Type 0 where
  pub machine : MachineData
  pub joined : JoinsTo image image_now input machine
  pub output : LeavesAtInstant machine same_output old new fault ⊎ FailsBehindBegin old new fault
  pub crash : KeepsImages machine old new

-- it ended before that, with no call on the output, or there
abbrev pub StopsJoin : (image image_now : SourceState) → (input input_now : FileState) → (same_output : Type 0) → (output output_now : FileState) → Option Fault → Type 0
StopsJoin image image_now input input_now same_output output output_now fault =
    (IsBeforeJoin input input_now fault × same_output) ⊎ EndsJoined image image_now input same_output output output_now fault

-- ---- The parts of the work, one by one

-- the faults of the layer and of its base
abbrev pub IsOfParts : FileState → FileState → Fault → Type 0
IsOfParts old new (faults.ImageRefused refusal) = Unit {0}
IsOfParts old new faults.ImageFault = Unit {0}
IsOfParts old new (faults.FileRefused refusal) = Unit {0}
IsOfParts old new (faults.LayerRefused (Late clock)) = ⊥
IsOfParts old new (faults.LayerRefused refusal) = Unit {0}
IsOfParts old new faults.FileFault = HasRisen old.faults new.faults
IsOfParts old new faults.NoMemory = Unit {0}
IsOfParts old new _ = ⊥

-- what the output holds where the machine wasn't saved, or not whole
abbrev pub IsUnsaved : MachineData → (same_output : Type 0) → FileState → FileState → Fault → Type 0
IsUnsaved m same_output old new fault = LeavesAtInstant m same_output old new (Some fault) ⊎ FailsBehindBegin old new (Some fault)
