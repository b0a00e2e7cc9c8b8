-- Why a vCPU is halted (this project's own causes and codes, docs/MACHINE.md).
use Rattle.std.specs.Prelude.{ℕ, ◌==◌, Option, Some, None, if◌then◌else◌}
use Rattle.ram_block.specs.declared.cause.Cause.{Cause}
use Rattle.ram_block.specs.declared.cause.Cause.TheVariants.{FetchMisaligned, FetchOutside, Illegal, JumpMisaligned, LoadMisaligned, LoadOutside, StoreMisaligned, StoreOutside, Ecall, Ebreak}

-- the code that stands for a cause in a file
abbrev pub code_of : Cause → ℕ
code_of FetchMisaligned = 1
code_of FetchOutside = 2
code_of Illegal = 3
code_of JumpMisaligned = 4
code_of LoadMisaligned = 5
code_of LoadOutside = 6
code_of StoreMisaligned = 7
code_of StoreOutside = 8
code_of Ecall = 9
code_of Ebreak = 10

-- the cause that a code stands for, if it stands for one
unfoldable pub cause_of : ℕ → Option Cause
cause_of code =
    if code == 1 then Some FetchMisaligned
    else if code == 2 then Some FetchOutside
    else if code == 3 then Some Illegal
    else if code == 4 then Some JumpMisaligned
    else if code == 5 then Some LoadMisaligned
    else if code == 6 then Some LoadOutside
    else if code == 7 then Some StoreMisaligned
    else if code == 8 then Some StoreOutside
    else if code == 9 then Some Ecall
    else if code == 10 then Some Ebreak
    else None
