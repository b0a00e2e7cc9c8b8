-- The cause of each end of a job that loads its input.
use Rattle.std.proofs.Common.{◌≡◌, inl, inr, List, ◌∷◌, Some, None, Ok, Err, option_map, refl, ap}
use Rattle.std.specs.Prelude.{IfSome}
use Rattle.flat_machine.specs.Machine.{MachineData}
use Rattle.loader.specs.Loaded.{loaded, refusal_in}
use Rattle.loader.specs.Piece.{Refuses}
use Rattle.loader.specs.declared.refusal.LoadFault.{LoadFault}
use Rattle.loader.specs.declared.refusal.LoadFault.TheVariants as load_faults
use Rattle.medium.specs.Count.{HasRisen}
use Rattle.medium.specs.States.{FileState}
use Rattle.vm_cli.specs.Answer.{fault_of_load}
use Rattle.vm_cli.specs.Jobs.Load.{file_fault, load_step}
use Rattle.vm_cli.specs.Steps.{Faults, HasCause, Passes, Step}
use Rattle.vm_cli.specs.declared.answer.Fault.TheVariants as faults
use Rattle.vm_cli.proofs.Causes.{told_fact, where_told}

-- a file that was not loaded
pub unloaded : (old new : Faults) (input : FileState) (steps : List Step) (e : LoadFault) → IfSome input.told (λ file. Refuses (loaded file) e)
    → (e ≡ load_faults.ReadFault → HasRisen old.input new.input) → HasCause old new (load_step input ∷ steps) (Some (fault_of_load e))
unloaded old new input steps (load_faults.Refused r) answer rose =
    inr (inr (inl (
      refl,
      where_told file_fault input.told (λ v. v ≡ Some (faults.FileRefused r))
          (λ file is. ap (λ found. option_map (λ why. faults.FileRefused why) (refusal_in found)) (told_fact (λ bytes. loaded bytes ≡ Err r) input.told file answer is)),
    )))
unloaded old new input steps load_faults.ReadFault answer rose = inr (inl (refl, rose refl))
unloaded old new input steps load_faults.NoMemory answer rose = inl refl

-- a file that was loaded
pub loaded_passes : (input : FileState) (m : MachineData) → IfSome input.told (λ file. loaded file ≡ Ok m) → Passes (load_step input)
loaded_passes input m answer =
    where_told file_fault input.told (λ v. v ≡ None)
    (λ file is. ap (λ found. option_map (λ why. faults.FileRefused why) (refusal_in found)) (told_fact (λ bytes. loaded bytes ≡ Ok m) input.told file answer is))
