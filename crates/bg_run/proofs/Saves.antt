-- The saver's worker, turn by turn.
use Rattle.std.proofs.Common.{◌≡◌, ℕ, ◌<◌, ◌≤◌, not, List, [], Some, None, refl, ◌∙◌, ap, subst}
use Rattle.std.specs.Prelude.{IfSome, IsSome}
use Rattle.std.proofs.lemmas.Option.{none-some}
use Rattle.medium.specs.Count.{HasRisen}
use Rattle.medium.specs.Members.{file_state}
use Rattle.medium.specs.declared.readable.Readable as readable
use Rattle.ram_block.specs.PageLinks.{is_listed}
use Rattle.flat_machine.specs.Machine.{MachineData}
use Rattle.page_cell.specs.Plant.{PlantState}
use Rattle.page_bus.specs.Passes.{BusData, SaverPassData}
use Rattle.page_bus.specs.Plant.{EndData, end_state, rest_of}
use Rattle.bg_saver.specs.Saver.{SaverData}
use Rattle.bg_saver.specs.Save.{IsOfSave, IsWhole}
use Rattle.bg_saver.specs.Turn.{MayBeLeft}
use Rattle.bg_saver.specs.Writes.{LeavesSince}
use Rattle.bg_saver.specs.declared.save_end.SaveEnd.TheVariants as ends
use Rattle.bg_saver.specs.declared.turn.Turn.{Turn}
use Rattle.bg_saver.specs.declared.turn.Turn.TheVariants as turns
use Rattle.sliced_run.specs.Phase.{LeavesFile}
use Rattle.bg_run.specs.Workers.{IsReleased, KeepsSaving}
use Rattle.bg_run.proofs.Files.{leaves_then}
use Rattle.bg_run.proofs.Turns.{IsTurned, end_by}

-- the rest of the end tells the bus and the pass's key
pub keeps_by_rest : (bus now : BusData) (old new : SaverPassData) (saver : SaverData) → rest_of now new ≡ rest_of bus old → IsOfSave saver (end_state now new) → KeepsSaving bus old now new saver
keeps_by_rest bus now old new saver same save = record {
  same_bus = ap (λ (r : EndData). r.bus) same;
  key = ap (λ (r : EndData). r.key) same;
  save = save;
}

-- a call behind others
pub keeps_then : (a b c : BusData) (x y z : SaverPassData) (before saver : SaverData) → KeepsSaving a x b y before → rest_of c z ≡ rest_of b y → IsOfSave saver (end_state c z) →
    KeepsSaving a x c z saver
keeps_then a b c x y z before saver one same save = record {
  same_bus = ap (λ (r : EndData). r.bus) same ∙ one.same_bus;
  key = ap (λ (r : EndData). r.key) same ∙ one.key;
  save = save;
}

-- where no page is left while the save goes on, every page is writable
pub none_left : (bus : BusData) (d : SaverPassData) (saver : SaverData) → IsOfSave saver (end_state bus d) → saver.end ≡ None → saver.left ≡ [] → IsReleased d
none_left bus d saver save runs none p below =
    save.writable runs p (subst (λ n. p < n) save.total below)
    ∙ ap (λ (l : List ℕ). Some (not (is_listed l p))) none

-- ---- The file

-- the answers that end a save
completes : (answer : Turn) → end_by answer ≡ Some ends.Complete → answer ≡ turns.Complete
completes (turns.Saved p) is = absurd (none-some ends.Complete is)
completes (turns.Skipped p) is = absurd (none-some ends.Complete is)
completes turns.Again is = absurd (none-some ends.Complete is)
completes turns.Complete is = refl
completes turns.Failed is = absurd (cc is)

fails : (answer : Turn) → end_by answer ≡ Some ends.Failed → answer ≡ turns.Failed
fails (turns.Saved p) is = absurd (none-some ends.Failed is)
fails (turns.Skipped p) is = absurd (none-some ends.Failed is)
fails turns.Again is = absurd (none-some ends.Failed is)
fails turns.Complete is = absurd (cc is)
fails turns.Failed is = refl

-- what a turn behind others leaves of the file, by its answer
pub file_after : {R M : Type 0} (g : readable.Ghosts M) (i : MachineData) (d v : SaverData) (same_plant : Type 0) (plant now : PlantState R) (first file file_now : M) (answer : Turn) →
    LeavesFile i None (file_state g first) (file_state g file) → IfSome (g.told first) (λ _. IsSome (g.told file)) → IsTurned g d same_plant plant now file file_now answer v →
    g.faults file ≤ g.faults file_now → (answer ≡ turns.Complete → IsWhole i (g.told file) (file_state g file_now)) → (answer ≡ turns.Failed → HasRisen (g.faults file) (g.faults file_now)) →
    IfSome (g.told file) (λ _. LeavesSince (file_state g file) (file_state g file_now) (MayBeLeft d.left i)) → LeavesFile i (end_by answer) (file_state g first) (file_state g file_now)
file_after g i d v same_plant plant now first file file_now answer so_far telling turned falls whole failed crash =
    leaves_then i (end_by answer) d.left (file_state g first) (file_state g file) (file_state g file_now) so_far telling falls
    (λ is. whole (completes answer is)) (λ is. failed (fails answer is)) turned.syncs crash
