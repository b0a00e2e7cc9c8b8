-- What the first call on an output and the writes behind it leave, whatever their answer is (this project's own).
use Rattle.std.specs.Prelude.{◌≡◌, ◌<◌, length, Option, Some, None, IfSome}
use Rattle.medium.specs.Count.{HasRisen}
use Rattle.medium.specs.States.{FileState, Leaves}
use Rattle.vm_cli.specs.declared.answer.Fault.{Fault}
use Rattle.vm_cli.specs.declared.answer.Fault.TheVariants.{ConsoleFault}
use Rattle.vm_cli.specs.declared.write_fault.WriteFault.{WriteFault}
use Rattle.vm_cli.specs.declared.write_fault.WriteFault.TheVariants.{FileFault, NotEmpty, NoMemory}

-- why an output wasn't written: a call failed; or it had bytes, and then it was only looked at
abbrev pub IsUnwritten : FileState → FileState → WriteFault → Type 0
IsUnwritten old new FileFault = HasRisen old.faults new.faults
IsUnwritten old new (NotEmpty len) = (0 < len) × IfSome old.told (λ bytes. len ≡ length bytes) × Leaves old new
IsUnwritten old new NoMemory = Unit {0}

-- an output that had bytes keeps them, its syncs and its images
abbrev pub KeepsFull : FileState → FileState → Type 0
KeepsFull old new = IfSome old.told (λ bytes. 0 < length bytes → Leaves old new)

-- the job ended before its first call on the console
abbrev pub IsBeforeConsole : Option Fault → Type 0
IsBeforeConsole None = ⊥
IsBeforeConsole (Some ConsoleFault) = ⊥
IsBeforeConsole _ = Unit {0}
