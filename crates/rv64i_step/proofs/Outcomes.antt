-- What comes of each event: of a fetch one of three outcomes, and of an access that the instruction is finished.
use Rattle.std.proofs.Common.{◌≡◌, ℕ, ◌+◌, ◌%◌, Bool, true, false, Option, Some, None, Result, Ok, Err, refl, sym, ◌∙◌, ap, subst}
use Rattle.std.specs.Prelude.{if◌then◌else◌, ◌==◌}
use Rattle.ram_block.specs.Shape.{ShapeData}
use Rattle.ram_block.specs.declared.cause.Cause.{Cause}
use Rattle.ram_block.specs.declared.cause.Cause.TheVariants as causes
use Rattle.ram_block.specs.declared.place.Place.{Place}
use Rattle.ram_block.specs.AddressMap.{located}
use Rattle.ram_block.specs.declared.place.Way.TheVariants as ways
use Rattle.rv64i_decode.specs.Decode.{instr_of}
use Rattle.rv64i_decode.specs.declared.instr.Instr.{Instr}
use Rattle.rv64i_decode.specs.declared.instr.Instr.TheVariants.{Lui, Auipc, Jal, Jalr, Branch, Load, Store, Imm, Shift, ImmW, ShiftW, Op, OpW, Fence, Ecall, Ebreak, Amo}
use Rattle.rv64i_step.specs.Access.{AccessesMemory, load_width, store_width, amo_width, loaded, extended}
use Rattle.rv64i_step.specs.Arithmetic.{bits64, sum64, is_taken}
use Rattle.rv64i_step.specs.Event.{request_of, decoded, unfetched, fetched_vcpu, made, access_made, accessed_vcpu}
use Rattle.rv64i_step.specs.Execute.{executed, jumps, aimed, address_of, even}
use Rattle.rv64i_step.specs.Outcome.{HaltsWith, Finishes, FetchOutcome, Halting, Awaiting, Finishing}
use Rattle.rv64i_step.specs.Laws.{FetchesEnd}
use Rattle.rv64i_step.specs.Vcpu.{VcpuData, with_reg, next_pc, finished, halted, reg_of}
use Rattle.rv64i_step.specs.declared.access.Access.{Access}
use Rattle.rv64i_step.specs.declared.request.Request.{Request}
use Rattle.rv64i_step.specs.declared.request.Request.TheVariants.{NoFetch}

-- an instruction that goes on from pc is finished
pub finishes : (v : VcpuData) (pc : ℕ) → v.pending ≡ None → Finishes v (finished v pc)
finishes v pc none = record { pending = none; state = refl; steps = refl }

-- so is one that may have written a register
finishes_either : (b : Bool) (v : VcpuData) (w : VcpuData) (pc : ℕ) → v.pending ≡ None → w.pending ≡ v.pending → w.state ≡ v.state → w.steps ≡ v.steps →
    Finishes v (finished (if b then v else w) pc)
finishes_either true v w pc none pending state steps = finishes v pc none
finishes_either false v w pc none pending state steps =
    record { pending = pending ∙ none; state = state; steps = ap (λ n. n + 1) steps }

-- with a register written
pub finishes_with : (v : VcpuData) (rd value pc : ℕ) → v.pending ≡ None → Finishes v (finished (with_reg v rd value) pc)
finishes_with v rd value pc none = finishes_either (rd == 0) v _ pc none refl refl refl

-- a halt keeps what it found
pub halts : (v : VcpuData) (cause : Cause) → v.pending ≡ None → HaltsWith v (halted v cause) cause
halts v cause none = record { state = refl; pending = none; regs = refl; pc = refl; steps = refl }

-- a jump halts or is finished
jump_either : (b : Bool) (v linked : VcpuData) (target : ℕ) → v.pending ≡ None → Finishes v (finished linked target) →
    FetchOutcome v (if b then finished linked target else halted v causes.JumpMisaligned)
jump_either true v linked target none finish = Finishing finish
jump_either false v linked target none finish = Halting causes.JumpMisaligned (halts v causes.JumpMisaligned none)

jump_outcome : (v linked : VcpuData) (target : ℕ) → v.pending ≡ None → Finishes v (finished linked target) →
    FetchOutcome v (jumps v linked target)
jump_outcome v linked target none finish = jump_either (target % 4 == 0) v linked target none finish

-- a branch goes on or jumps
branch_outcome : (b : Bool) (v : VcpuData) (target : ℕ) → v.pending ≡ None →
    FetchOutcome v (if b then jumps v v target else finished v (next_pc v))
branch_outcome true v target none = jump_outcome v v target none (finishes v target none)
branch_outcome false v target none = Finishing (finishes v (next_pc v) none)

-- an access becomes pending, or its address halts
aim_outcome : (v : VcpuData) (instr : Instr) (place : Result Place Cause) → AccessesMemory instr → v.pending ≡ None →
    FetchOutcome v (aimed v instr place)
aim_outcome v instr (Ok place) kind none =
    Awaiting (record { instr = instr; place = place }) (record { kind = kind; pending = refl; state = refl; regs = refl; pc = refl; steps = refl })
aim_outcome v instr (Err cause) kind none = Halting cause (halts v cause none)

-- of each instruction
pub executed_outcome : (shape : ShapeData) (v : VcpuData) (instr : Instr) → v.pending ≡ None → FetchOutcome v (executed shape v instr)
unfolding executed
executed_outcome shape v (Lui rd imm) none = Finishing (finishes_with v rd _ (next_pc v) none)
executed_outcome shape v (Auipc rd imm) none = Finishing (finishes_with v rd _ (next_pc v) none)
executed_outcome shape v (Imm op rd rs1 imm) none = Finishing (finishes_with v rd _ (next_pc v) none)
executed_outcome shape v (Shift op rd rs1 amount) none = Finishing (finishes_with v rd _ (next_pc v) none)
executed_outcome shape v (ImmW rd rs1 imm) none = Finishing (finishes_with v rd _ (next_pc v) none)
executed_outcome shape v (ShiftW op rd rs1 amount) none = Finishing (finishes_with v rd _ (next_pc v) none)
executed_outcome shape v (Op op rd rs1 rs2) none = Finishing (finishes_with v rd _ (next_pc v) none)
executed_outcome shape v (OpW op rd rs1 rs2) none = Finishing (finishes_with v rd _ (next_pc v) none)
executed_outcome shape v (Jal rd off) none =
    let target = sum64 v.pc (bits64 off) in
    jump_outcome v (with_reg v rd (next_pc v)) target none (finishes_with v rd (next_pc v) target none)
executed_outcome shape v (Jalr rd rs1 off) none =
    let target = even (address_of v rs1 off) in
    jump_outcome v (with_reg v rd (next_pc v)) target none (finishes_with v rd (next_pc v) target none)
executed_outcome shape v (Branch op rs1 rs2 off) none =
    branch_outcome (is_taken op (reg_of v rs1) (reg_of v rs2)) v (sum64 v.pc (bits64 off)) none
executed_outcome shape v (Load op rd rs1 off) none =
    aim_outcome v (Load op rd rs1 off) (located shape (address_of v rs1 off) (load_width op) ways.Load) tt none
executed_outcome shape v (Store op rs1 rs2 off) none =
    aim_outcome v (Store op rs1 rs2 off) (located shape (address_of v rs1 off) (store_width op) ways.Store) tt none
executed_outcome shape v (Amo op wide rd rs1 rs2 order) none =
    aim_outcome v (Amo op wide rd rs1 rs2 order) (located shape (reg_of v rs1) (amo_width wide) ways.Amo) tt none
executed_outcome shape v (Fence rd rs1 bits) none = Finishing (finishes v (next_pc v) none)
executed_outcome shape v Ecall none = Halting causes.Ecall (halts v causes.Ecall none)
executed_outcome shape v Ebreak none = Halting causes.Ebreak (halts v causes.Ebreak none)

decoded_outcome : (shape : ShapeData) (v : VcpuData) (instr : Option Instr) → v.pending ≡ None → FetchOutcome v (decoded shape v instr)
decoded_outcome shape v None none = Halting causes.Illegal (halts v causes.Illegal none)
decoded_outcome shape v (Some instr) none = executed_outcome shape v instr none

-- of the fetch of a word
pub fetch_outcome : (shape : ShapeData) (v : VcpuData) (word : ℕ) → v.pending ≡ None →
    FetchOutcome v (fetched_vcpu shape v (Some word))
unfolding fetched_vcpu
fetch_outcome shape v word none = decoded_outcome shape v (instr_of word) none

-- of a fetch that has no place: it halts
pub no_fetch_outcome : (shape : ShapeData) (v : VcpuData) (cause : Cause) → v.pending ≡ None → request_of shape v ≡ NoFetch cause →
    HaltsWith v (fetched_vcpu shape v None) cause
unfolding fetched_vcpu
no_fetch_outcome shape v cause none request =
    subst (λ (r : Request). HaltsWith v (unfetched v r) cause) (sym request) (halts v cause none)

-- the instruction with its access made
made_outcome : (v : VcpuData) (value : ℕ) (instr : Instr) → AccessesMemory instr →
    Finishes v (made (record v { pending = None }) value instr)
made_outcome v value (Load op rd rs1 off) kind =
    let w = record v { pending = None } in
    let f = finishes_with w rd (loaded op value) (next_pc w) refl in
    record { pending = f.pending; state = f.state; steps = f.steps }
made_outcome v value (Store op rs1 rs2 off) kind = record { pending = refl; state = refl; steps = refl }
made_outcome v value (Amo op wide rd rs1 rs2 order) kind =
    let w = record v { pending = None } in
    let f = finishes_with w rd (extended (amo_width wide) value) (next_pc w) refl in
    record { pending = f.pending; state = f.state; steps = f.steps }
made_outcome v value _ kind = absurd kind

-- of an access: the instruction is finished
pub access_outcome : (v : VcpuData) (value : ℕ) (access : Access) → v.pending ≡ Some access → AccessesMemory access.instr →
    Finishes v (accessed_vcpu v value)
unfolding accessed_vcpu
access_outcome v value access pending kind =
    subst (λ (p : Option Access). Finishes v (access_made v value p)) (sym pending) (made_outcome v value access.instr kind)

-- what a fetch makes pending is an access of a load, a store or an AMO
pending_kind : (v after : VcpuData) (access : Access) → FetchOutcome v after → after.pending ≡ Some access → AccessesMemory access.instr
pending_kind v after access (Halting cause halting) pending =
    let e : None ≡ Some access = sym halting.pending ∙ pending in cc
pending_kind v after access (Awaiting made awaiting) pending =
    let e : made ≡ access = cc in subst (λ (a : Access). AccessesMemory a.instr) e awaiting.kind
pending_kind v after access (Finishing finishing) pending =
    let e : None ≡ Some access = sym finishing.pending ∙ pending in cc

pub fetch_pending_kind : (shape : ShapeData) (v : VcpuData) (word : ℕ) (access : Access) → v.pending ≡ None →
    (fetched_vcpu shape v (Some word)).pending ≡ Some access → AccessesMemory access.instr
fetch_pending_kind shape v word access none pending =
    pending_kind v (fetched_vcpu shape v (Some word)) access (fetch_outcome shape v word none) pending

pub fetches_end : FetchesEnd
fetches_end = record { word = fetch_outcome; none = no_fetch_outcome }
