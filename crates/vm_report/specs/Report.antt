-- The report of a machine, line by line (this project's own, docs/COMMAND_LINE.md, Report).
use Rattle.std.specs.Prelude.{ℕ, ◌*◌, ◌==◌, List, [], ◌++◌, length, take, drop, slice_get, codes, Option, if◌then◌else◌}
use Rattle.std.specs.Fmt.{decimal}
use Rattle.std.specs.Int.{div_ceil}
use Rattle.std.specs.List.{flat_map, range_with_len}
use Rattle.std.specs.Option.{option_map_or}
use Rattle.ram_block.specs.Shape.{ShapeData, total_pages_of}
use Rattle.ram_block.specs.declared.cause.Cause.{Cause}
use Rattle.ram_block.specs.declared.cause.Cause.TheVariants.{FetchMisaligned, FetchOutside, Illegal, JumpMisaligned, LoadMisaligned, LoadOutside, StoreMisaligned, StoreOutside, Ecall, Ebreak}
use Rattle.rv64i_step.specs.Vcpu.{VcpuData, reg_of}
use Rattle.rv64i_step.specs.declared.state.State.{State}
use Rattle.rv64i_step.specs.declared.state.State.TheVariants.{Running, Halted}
use Rattle.serial_timer.specs.Serial.{SerialData}
use Rattle.flat_machine.specs.Machine.{MachineData}
use Rattle.flat_machine.specs.Sum.{ram_sum}
use Rattle.bg_saver.specs.declared.save_end.SaveEnd.{SaveEnd}
use Rattle.bg_saver.specs.declared.save_end.SaveEnd.TheVariants.{Complete, Failed}
use Rattle.vm_report.specs.declared.save_line.SaveLine.{SaveLine}
use Rattle.vm_report.specs.Hex.{hex_digits}
use Rattle.vm_report.specs.Ram.{nonzero_pages}

-- ---- A save

abbrev pub end_text : SaveEnd → List ℕ
end_text Complete = codes "complete"
end_text Failed = codes "failed"

-- how a save ended, how often a vCPU was stopped, and how many pages were copied for one and in their turn
unfoldable pub save_line : SaveLine → List ℕ
save_line s =
    codes "save " ++ end_text s.end
    ++ codes " blocked " ++ decimal s.blocked
    ++ codes " faults " ++ decimal s.counts.faults
    ++ codes " sweep " ++ decimal s.counts.sweep ++ codes "\n"

-- ---- The vCPUs

abbrev pub cause_text : Cause → List ℕ
cause_text FetchMisaligned = codes "fetch-misaligned"
cause_text FetchOutside = codes "fetch-outside"
cause_text Illegal = codes "illegal"
cause_text JumpMisaligned = codes "jump-misaligned"
cause_text LoadMisaligned = codes "load-misaligned"
cause_text LoadOutside = codes "load-outside"
cause_text StoreMisaligned = codes "store-misaligned"
cause_text StoreOutside = codes "store-outside"
cause_text Ecall = codes "ecall"
cause_text Ebreak = codes "ebreak"

abbrev pub state_text : State → List ℕ
state_text Running = codes "running"
state_text (Halted cause) = cause_text cause

-- vCPU k without its registers
unfoldable pub cpu_line : ℕ → VcpuData → List ℕ
cpu_line k v =
    codes "cpu " ++ decimal k ++ codes " " ++ state_text v.state
    ++ codes " pc " ++ hex_digits 16 v.pc
    ++ codes " steps " ++ decimal v.steps ++ codes "\n"

-- a register with its value: a line where the value isn't 0
unfoldable pub register_line : ℕ → ℕ → List ℕ
register_line i value = if value == 0 then [] else codes "x" ++ decimal i ++ codes " " ++ hex_digits 16 value ++ codes "\n"

-- the registers x1 to x31
unfoldable pub register_lines : VcpuData → List ℕ
register_lines v = flat_map (λ i. register_line i (reg_of v i)) (range_with_len 1 31)

-- vCPU k of a machine that has it
abbrev pub vcpu_lines : MachineData → ℕ → List ℕ
vcpu_lines m k = option_map_or (λ v. cpu_line k v ++ register_lines v) (slice_get m.vcpus k) []

-- all vCPUs in order
abbrev pub all_vcpu_lines : MachineData → List ℕ
all_vcpu_lines m = flat_map (vcpu_lines m) (range_with_len 0 m.shape.vcpus)

-- ---- The serial device

-- how many bytes the device holds, and how many it lost
unfoldable pub serial_line : SerialData → List ℕ
serial_line s = codes "serial " ++ decimal (length s.bytes) ++ codes " lost " ++ decimal s.lost ++ codes "\n"

-- row i of the bytes that the device holds, 32 of them; the last row may be shorter
abbrev pub row_of : List ℕ → ℕ → List ℕ
row_of bytes i = take 32 (drop (32 * i) bytes)

-- two digits for each byte of a row
unfoldable pub row_line : List ℕ → List ℕ
row_line row = flat_map (hex_digits 2) row ++ codes "\n"

-- as many rows as hold all the bytes
abbrev pub row_lines : List ℕ → List ℕ
row_lines bytes = flat_map (λ i. row_line (row_of bytes i)) (range_with_len 0 (div_ceil (length bytes) 32))

-- the device with its bytes
abbrev pub serial_lines : SerialData → List ℕ
serial_lines s = serial_line s ++ row_lines s.bytes

-- ---- The whole report

unfoldable pub clock_line : ℕ → List ℕ
clock_line clock = codes "clock " ++ decimal clock ++ codes "\n"

unfoldable pub timer_line : ℕ → List ℕ
timer_line cmp = codes "timer " ++ hex_digits 16 cmp ++ codes "\n"

-- how many pages there are, how many of them aren't all zeros, and the sum of RAM
unfoldable pub ram_text : ℕ → ℕ → ℕ → List ℕ
ram_text pages nonzero sum =
    codes "ram pages " ++ decimal pages
    ++ codes " nonzero " ++ decimal nonzero
    ++ codes " sum " ++ hex_digits 16 sum ++ codes "\n"

abbrev pub ram_line : MachineData → List ℕ
ram_line m = ram_text (total_pages_of m.shape) (nonzero_pages m) (ram_sum m)

-- the line of a save, where there was one, and the line of the clock
unfoldable pub first_lines : Option SaveLine → ℕ → List ℕ
first_lines save clock = option_map_or save_line save [] ++ clock_line clock

-- the report of a machine, behind the line of its save where there was one
unfoldable pub report : Option SaveLine → MachineData → List ℕ
report save m =
    first_lines save m.clock
    ++ all_vcpu_lines m
    ++ serial_lines m.serial
    ++ (timer_line m.cmp ++ ram_line m)

-- ---- A checked file

-- the shape of the machine of a file that was checked
unfoldable pub ok_line : ShapeData → List ℕ
ok_line s = codes "ok vcpus " ++ decimal s.vcpus ++ codes " blocks " ++ decimal s.blocks ++ codes " pages " ++ decimal s.pages ++ codes "\n"
