-- The file that a save writes tells its machine.
use Rattle.std.proofs.Common.{◌≡◌, List, ℕ, sym, subst}
use Rattle.flat_machine.specs.Machine.{IsMachine, MachineData, Rest}
use Rattle.file_plan.specs.Layout.{Lay, file_of}
use Rattle.file_plan.proofs.AnyFile.{file_of_lays}
use Rattle.file_plan.proofs.OneMachine.{one_machine}

pub one_file : (m n : MachineData) → IsMachine m → Rest m → IsMachine n → Rest n → file_of m ≡ file_of n → m ≡ n
one_file m n is rest other other_rest same =
    one_machine (file_of m) m n (file_of_lays m is rest) (subst (λ (f : List ℕ). Lay f n) (sym same) (file_of_lays n other other_rest))
