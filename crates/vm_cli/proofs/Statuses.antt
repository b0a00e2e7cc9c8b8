-- A fault's status is never that of a job that ended well.
use Rattle.std.proofs.Common.{◌≡◌, arith}
use Rattle.vm_cli.specs.Answer.{fault_status}
use Rattle.vm_cli.specs.declared.answer.Fault.{Fault}
use Rattle.vm_cli.specs.declared.answer.Fault.TheVariants.{Usage, ImageRefused, FileFault, ImageFault, NoMemory, NotEmpty, ConsoleFault, AsmRefused, FileRefused, PeekRefused, LayerRefused, OrderRefused}

pub no_success : (fault : Fault) → fault_status fault ≡ 0 → ⊥
no_success (Usage index kind) is = omega arith
no_success (ImageRefused refusal) is = omega arith
no_success FileFault is = omega arith
no_success ImageFault is = omega arith
no_success NoMemory is = omega arith
no_success (NotEmpty len) is = omega arith
no_success ConsoleFault is = omega arith
no_success (AsmRefused line kind) is = omega arith
no_success (FileRefused refusal) is = omega arith
no_success (PeekRefused refusal) is = omega arith
no_success (LayerRefused refusal) is = omega arith
no_success (OrderRefused refusal) is = omega arith
