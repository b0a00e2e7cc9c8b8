-- A vCPU's part of an event: what it asks for, and what it becomes (this project's own events, docs/MACHINE.md).
use Rattle.std.specs.Prelude.{◌≡◌, ◌≢◌, ℕ, Option, Some, None, IsSome, IfSome, Result, Ok, Err}
use Rattle.ram_block.specs.AddressMap.{located}
use Rattle.ram_block.specs.Shape.{ShapeData}
use Rattle.ram_block.specs.declared.cause.Cause.{Cause}
use Rattle.ram_block.specs.declared.cause.Cause.TheVariants as causes
use Rattle.ram_block.specs.declared.place.Place.{Place}
use Rattle.ram_block.specs.declared.place.Place.TheVariants.{Ram}
use Rattle.ram_block.specs.declared.place.Way.TheVariants as ways
use Rattle.ram_block.specs.declared.place.Width.TheVariants.{Four}
use Rattle.rv64i_decode.specs.Decode.{instr_of}
use Rattle.rv64i_decode.specs.declared.instr.Instr.{Instr}
use Rattle.rv64i_decode.specs.declared.instr.Instr.TheVariants as instrs
use Rattle.rv64i_step.specs.Access.{AccessesMemory, load_width, store_width, amo_width, low_bytes, extended, loaded}
use Rattle.rv64i_step.specs.Execute.{executed}
use Rattle.rv64i_step.specs.Request.{CanServe}
use Rattle.rv64i_step.specs.Vcpu.{VcpuData, reg_of, next_pc, finished, writes, halted}
use Rattle.rv64i_step.specs.declared.access.Access.{Access}
use Rattle.rv64i_step.specs.declared.request.Request.{Request}
use Rattle.rv64i_step.specs.declared.request.Request.TheVariants.{Nothing, NoFetch, Fetch, Load, Store, Amo}
use Rattle.rv64i_step.specs.declared.state.State.{State}
use Rattle.rv64i_step.specs.declared.state.State.TheVariants.{Running, Halted}

-- the fetch at a place, or why there is none; no device has a fetch
abbrev pub fetch_at : Result Place Cause → Request
fetch_at (Ok (Ram page off)) = Fetch page off
fetch_at (Ok place) = NoFetch causes.FetchOutside
fetch_at (Err cause) = NoFetch cause

-- the access of a pending instruction; what is stored, or given to an AMO, are the low bytes of rs2
abbrev pub access_of : VcpuData → Place → Instr → Request
access_of v place (instrs.Load op rd rs1 off) = Load place (load_width op)
access_of v place (instrs.Store op rs1 rs2 off) = Store place (store_width op) (low_bytes (store_width op) (reg_of v rs2))
access_of v place (instrs.Amo op wide rd rs1 rs2 order) = Amo place (amo_width wide) op (low_bytes (amo_width wide) (reg_of v rs2))
access_of v place _ = Nothing

-- the request of a vCPU that runs
abbrev pub running_request : ShapeData → VcpuData → Option Access → Request
running_request shape v None = fetch_at (located shape v.pc Four ways.Fetch)
running_request shape v (Some access) = access_of v access.place access.instr

-- a vCPU that is halted has none
abbrev pub request_in : State → Request → Request
request_in Running request = request
request_in (Halted cause) request = Nothing

-- what the vCPU needs for its next event; nothing exactly where it is halted
unfoldable pub request_of : ShapeData → VcpuData → Request
request_of shape v = request_in v.state (running_request shape v v.pending)

-- a machine of this shape can serve the access that is pending, where there is one
abbrev pub IsServable : ShapeData → VcpuData → Type 0
IsServable shape v =
    IfSome v.pending (λ access. AccessesMemory access.instr × CanServe shape (access_of v access.place access.instr))

-- how far the vCPU is that makes the request: it fetches next, or has still to make an access, or is halted
abbrev pub IsStage : VcpuData → Request → Type 0
IsStage v Nothing = v.state ≢ Running
IsStage v (NoFetch cause) = (v.state ≡ Running) × (v.pending ≡ None)
IsStage v (Fetch page off) = (v.state ≡ Running) × (v.pending ≡ None)
IsStage v (Load place width) = (v.state ≡ Running) × IsSome v.pending
IsStage v (Store place width value) = (v.state ≡ Running) × IsSome v.pending
IsStage v (Amo place width op value) = (v.state ≡ Running) × IsSome v.pending

-- the vCPU after a fetch that has no place
abbrev pub unfetched : VcpuData → Request → VcpuData
unfetched v (NoFetch cause) = halted v cause
unfetched v _ = v

-- the vCPU after the fetch of a word that is this instruction, or none
abbrev pub decoded : ShapeData → VcpuData → Option Instr → VcpuData
decoded shape v None = halted v causes.Illegal
decoded shape v (Some instr) = executed shape v instr

-- the vCPU's part of the fetch event, of the word fetched or none
unfoldable pub fetched_vcpu : ShapeData → VcpuData → Option ℕ → VcpuData
fetched_vcpu shape v None = unfetched v (request_of shape v)
fetched_vcpu shape v (Some word) = decoded shape v (instr_of word)

-- the vCPU when the access of an instruction is made, of the value that the cell gave
abbrev pub made : VcpuData → ℕ → Instr → VcpuData
made v value (instrs.Load op rd rs1 off) = writes v rd (loaded op value)
made v value (instrs.Store op rs1 rs2 off) = finished v (next_pc v)
made v value (instrs.Amo op wide rd rs1 rs2 order) = writes v rd (extended (amo_width wide) value)
made v value _ = v

-- the same, with the access that is pending
abbrev pub access_made : VcpuData → ℕ → Option Access → VcpuData
access_made v value None = v
access_made v value (Some access) = made (record v { pending = None }) value access.instr

-- the vCPU's part of the access event, of the value that the cell gave
unfoldable pub accessed_vcpu : VcpuData → ℕ → VcpuData
accessed_vcpu v value = access_made v value v.pending
