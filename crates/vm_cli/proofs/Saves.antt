-- What a save leaves of the output, and how it ends a job.
use Rattle.std.proofs.Common.{◌≡◌, ◌⊎◌, inl, inr, ℕ, ◌<◌, ◌≤◌, true, false, List, [], length, Option, Some, None, Result, Ok, Err, refl, sym, ◌∙◌, ap, subst, arith}
use Rattle.std.specs.Prelude.{IfErr, IfOk, IfSome, IsSome}
use Rattle.bg_saver.specs.Begin.{Begins, IsFirstByte, LeavesBegin}
use Rattle.bg_saver.specs.Saver.{SaverData}
use Rattle.bg_saver.specs.Save.{IsWhole}
use Rattle.bg_saver.specs.Writes.{IsRefusedOr, LeavesSince}
use Rattle.bg_saver.specs.declared.save_end.SaveEnd.{SaveEnd}
use Rattle.bg_saver.specs.declared.save_end.SaveEnd.TheVariants.{Complete, Failed}
use Rattle.bg_saver.specs.declared.save_fault.SaveFault.{SaveFault}
use Rattle.bg_saver.specs.declared.save_fault.SaveFault.TheVariants as save_faults
use Rattle.bg_saver.specs.declared.save_job.PhaseOut.{PhaseOut}
use Rattle.file_plan.specs.Layout.{file_of}
use Rattle.flat_machine.specs.Machine.{MachineData}
use Rattle.loader.specs.Loaded.{loaded}
use Rattle.medium.specs.Count.{counted}
use Rattle.medium.specs.Crash.{Only}
use Rattle.medium.specs.Members.{file_state}
use Rattle.medium.specs.States.{FileState, Leaves}
use Rattle.medium.specs.declared.readable.Readable as readable
use Rattle.sliced_run.specs.Phase.{AddsOnly, IsPhaseOf, LeavesFile}
use Rattle.vm_words.specs.declared.turns.TurnOf.{TurnOf}
use Rattle.vm_cli.specs.Answer.{fault_of_save}
use Rattle.vm_cli.specs.Images.{IsOfInstant}
use Rattle.vm_cli.specs.Jobs.Save.{HasBegun, KeepsImages, LeavesAtInstant, LeavesSaved, WritesInstant}
use Rattle.vm_cli.specs.Write.{KeepsFull}
use Rattle.vm_cli.specs.declared.answer.Fault.{Fault}
use Rattle.vm_cli.specs.declared.answer.Fault.TheVariants as faults
use Rattle.vm_cli.proofs.Causes.{always}

-- ---- What is told

-- a file that was empty had no bytes to keep
empty_full : (old new : FileState) → IfSome old.told (λ bytes. bytes ≡ []) → KeepsFull old new
empty_full old new empty = by_told old.told empty
  where
    by_told : (told : Option (List ℕ)) → IfSome told (λ bytes. bytes ≡ []) → IfSome told (λ bytes. 0 < length bytes → Leaves old new)
    by_told None none = tt
    by_told (Some bytes) none = λ some. absurd (omega (arith, some, ap length none))

-- ---- The images

-- the begin alone
pub crash_begun : (i : MachineData) (old new : FileState) → (Only [] old.may_leave → LeavesSince old new IsFirstByte) → KeepsImages i old new
crash_begun i old new begun empty = let since = begun empty.only in record { later = since.later; safe = λ image left. inr (inr (since.each image left).1) }

swapped : (i : MachineData) (image : List ℕ) → IsRefusedOr i image → IsOfInstant (Some i) image
swapped i image (inl refused) = inr refused
swapped i image (inr lay) = inl lay

told_is : (told : Option (List ℕ)) (P : Type 0) → IfSome told (λ _. P) → IsSome told → P
told_is None P holds some = absurd (let no : false ≡ true = some in cc)
told_is (Some bytes) P holds some = holds

-- and the phase behind it
pub crash_phase : (i : MachineData) (old mid new : FileState) → (Only [] old.may_leave → LeavesSince old mid IsFirstByte) → IfSome old.told (λ _. IsSome mid.told)
    → IfSome mid.told (λ _. AddsOnly i mid new) → KeepsImages i old new
crash_phase i old mid new begun goes phase empty =
    let since = begun empty.only in
    let some : IsSome mid.told = subst (λ (o : Option (List ℕ)). IfSome o (λ _. IsSome mid.told)) empty.told goes in
    let adds : AddsOnly i mid new = told_is mid.told _ phase some in
    record {
      later = omega (arith, since.later, adds.later);
      safe = λ image left. elim (adds.nothing_else old.moment image since.later left) [
        | inl before ↦ inr (inr (since.each image before).1)
        | inr now ↦ inr (swapped i image now)
      ];
    }

-- ---- The output

-- of a save that didn't begin
pub unsaved : (i : MachineData) (same : Type 0) (old new : FileState) (e : SaveFault) → LeavesBegin i same old new (Err e) → LeavesAtInstant i same old new (Some (fault_of_save e))
unsaved i same old new save_faults.FileFault leaves = leaves
unsaved i same old new (save_faults.NotEmpty len) leaves = leaves
unsaved i same old new save_faults.NoMemory leaves = inl leaves

pub unsaved_full : (i : MachineData) (same : Type 0) (old new : FileState) (e : SaveFault) → LeavesBegin i same old new (Err e) → (same → KeepsFull old new) → KeepsFull old new
unsaved_full i same old new save_faults.FileFault leaves stays = leaves.full
unsaved_full i same old new (save_faults.NotEmpty len) leaves stays = always old.told (λ bytes. 0 < length bytes → Leaves old new) (λ bytes some. leaves.leaves)
unsaved_full i same old new save_faults.NoMemory leaves stays = stays leaves

pub begun_full : (i : MachineData) (old mid new : FileState) (d : SaverData) → Begins i old mid d → KeepsFull old new
begun_full i old mid new d begins = empty_full old new begins.empty

whole_file : (i : MachineData) (old mid new : FileState) (d : SaverData) → Begins i old mid d → IfSome old.told (λ _. IsSome mid.told) → IsWhole i mid.told new
    → IfSome old.told (λ before. (before ≡ []) × (new.told ≡ Some (file_of i))) × IfSome old.told (λ _. Only (file_of i) new.may_leave)
whole_file i old mid new d begins goes whole = by_told old.told mid.told begins.empty goes whole
  where
    by_told : (told now : Option (List ℕ)) → IfSome told (λ bytes. bytes ≡ []) → IfSome told (λ _. IsSome now)
        → IfSome now (λ _. (new.told ≡ Some (file_of i)) × Only (file_of i) new.may_leave)
        → IfSome told (λ before. (before ≡ []) × (new.told ≡ Some (file_of i))) × IfSome told (λ _. Only (file_of i) new.may_leave)
    by_told None now empty goes whole = (tt, tt)
    by_told (Some bytes) None empty goes whole = absurd (let no : false ≡ true = goes in cc)
    by_told (Some bytes) (Some others) empty goes whole = ((empty, whole.0), whole.1)

-- of a save that began and ended so
pub saved_file : (i : MachineData) (old mid new : FileState) (d : SaverData) (saved : Option SaveEnd) → Begins i old mid d → IfSome old.told (λ _. IsSome mid.told) → LeavesFile i saved mid new
    → ((saved ≡ None) → ⊥) → loaded (file_of i) ≡ Ok i → LeavesSaved i saved old new
saved_file i old mid new d None begins goes leaves ended loads = absurd (ended refl)
saved_file i old mid new d (Some Complete) begins goes leaves ended loads =
    let whole = whole_file i old mid new d begins goes (leaves.whole refl) in
    record { written = whole.0; durable = whole.1; synced = leaves.syncs ∙ ap (λ n. counted (counted n)) begins.syncs; never_falls = omega (arith, begins.never_falls, leaves.never_falls); loads_back = loads }
saved_file i old mid new d (Some Failed) begins goes leaves ended loads = (omega (arith, begins.never_falls, leaves.failed refl), synced leaves.syncs)
  where
    synced : (new.syncs ≡ mid.syncs) ⊎ (new.syncs ≡ counted mid.syncs) → counted old.syncs ≤ new.syncs
    synced (inl none) = omega (arith, none, begins.syncs)
    synced (inr once) = omega (arith, once, begins.syncs)

-- ---- A save that began, by the answer of its phase

-- one on one thread has an end
pub has_end : (i : MachineData) (n : ℕ) (turns : List TurnOf) (answer : Result PhaseOut Fault) → IfOk answer (IsPhaseOf i n turns) → IfOk answer (λ out. (out.saved ≡ None) → ⊥)
has_end i n turns (Ok out) phase = phase.ended
has_end i n turns (Err fault) phase = tt

pub saved_by : {M : Type 0} (g : readable.Ghosts M) (i at : MachineData) (old mid new : M) (d : SaverData) (answer : Result PhaseOut Fault) → HasBegun i (file_state g old) (file_state g mid) at d
    → IfOk answer (λ out. (out.saved ≡ None) → ⊥) → IfOk answer (λ out. LeavesFile at out.saved (file_state g mid) (file_state g new)) → loaded (file_of i) ≡ Ok i
    → IfOk answer (λ out. LeavesSaved i out.saved (file_state g old) (file_state g new))
saved_by g i at old mid new d (Ok out) begun ended leaves loads =
    saved_file i (file_state g old) (file_state g mid) (file_state g new) d out.saved begun.begins begun.told
    (subst (λ m. LeavesFile m out.saved (file_state g mid) (file_state g new)) begun.same leaves) ended loads
saved_by g i at old mid new d (Err fault) begun ended leaves loads = tt

pub unsaved_by : {M : Type 0} (g : readable.Ghosts M) (i at : MachineData) (same_file : Type 0) (old mid new : M) (d : SaverData) (answer : Result PhaseOut Fault)
    → HasBegun i (file_state g old) (file_state g mid) at d → IfErr answer (λ fault. (fault ≡ faults.NoMemory) × (new ≡ mid))
    → IfErr answer (λ fault. LeavesAtInstant i same_file (file_state g old) (file_state g new) (Some fault))
unsaved_by g i at same_file old mid new d (Ok out) begun refused = tt
unsaved_by g i at same_file old mid new d (Err fault) begun refused =
    subst (λ f. LeavesAtInstant i same_file (file_state g old) (file_state g new) (Some f)) (sym refused.0)
    (inr (d, subst (λ m. Begins i (file_state g old) (file_state g m) d) (sym refused.1) begun.begins))

pub crash_by : {M : Type 0} (g : readable.Ghosts M) (i at : MachineData) (old mid new : M) (d : SaverData) (answer : Result PhaseOut Fault) → HasBegun i (file_state g old) (file_state g mid) at d
    → IfOk answer (λ out. LeavesFile at out.saved (file_state g mid) (file_state g new)) → IfErr answer (λ fault. (fault ≡ faults.NoMemory) × (new ≡ mid))
    → KeepsImages i (file_state g old) (file_state g new)
crash_by g i at old mid new d (Ok out) begun leaves refused =
    crash_phase i (file_state g old) (file_state g mid) (file_state g new) begun.images begun.told (subst (λ m. LeavesFile m out.saved (file_state g mid) (file_state g new)) begun.same leaves).crash
crash_by g i at old mid new d (Err fault) begun leaves refused =
    subst (λ m. KeepsImages i (file_state g old) (file_state g m)) (sym refused.1) (crash_begun i (file_state g old) (file_state g mid) begun.images)

-- ---- Two saves of one instant

file_told : (i : MachineData) (old new : FileState) → WritesInstant i old new → old.told ≡ Some [] → new.told ≡ Some (file_of i)
file_told i old new file empty = (subst (λ (o : Option (List ℕ)). IfSome o (λ before. (before ≡ []) × (new.told ≡ Some (file_of i)))) empty file.written).1

pub one_file : (i : MachineData) (old new other_old other_new : FileState) → WritesInstant i old new → WritesInstant i other_old other_new → old.told ≡ Some [] → other_old.told ≡ Some []
    → new.told ≡ other_new.told
one_file i old new other_old other_new file other empty other_empty = file_told i old new file empty ∙ sym (file_told i other_old other_new other other_empty)
