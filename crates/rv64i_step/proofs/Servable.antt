-- What a vCPU asks for can be served, and so can what a fetch makes pending.
use Rattle.std.proofs.Common.{◌≡◌, ◌⊎◌, inl, inr, ℕ, ◌%◌, Bool, true, false, Option, Some, None, Result, Ok, Err, refl, sym, ◌∙◌, subst}
use Rattle.std.specs.Prelude.{if◌then◌else◌, ◌==◌}
use Rattle.std.specs.Option.{IfSome}
use Rattle.std.specs.Result.{IfOk}
use Rattle.ram_block.specs.AddressMap.{located, IsAccess}
use Rattle.ram_block.specs.Shape.{ShapeData}
use Rattle.ram_block.specs.declared.cause.Cause.{Cause}
use Rattle.ram_block.specs.declared.cause.Cause.TheVariants as causes
use Rattle.ram_block.specs.declared.place.Place.{Place}
use Rattle.ram_block.specs.declared.place.Place.TheVariants as places
use Rattle.ram_block.specs.declared.place.Way.{Way}
use Rattle.ram_block.specs.declared.place.Way.TheVariants as ways
use Rattle.ram_block.specs.declared.place.Width.{Width}
use Rattle.ram_block.specs.declared.place.Width.TheVariants.{Four, Eight}
use Rattle.ram_block.proofs.Addresses.{located_access}
use Rattle.rv64i_decode.specs.Decode.{instr_of}
use Rattle.rv64i_decode.specs.declared.instr.Instr.{Instr}
use Rattle.rv64i_decode.specs.declared.instr.Instr.TheVariants.{Lui, Auipc, Jal, Jalr, Branch, Load, Store, Imm, Shift, ImmW, ShiftW, Op, OpW, Fence, Ecall, Ebreak, Amo}
use Rattle.rv64i_step.specs.Access.{AccessesMemory, load_width, store_width, amo_width}
use Rattle.rv64i_step.specs.Arithmetic.{bits64, sum64, is_taken}
use Rattle.rv64i_step.specs.Event.{IsServable, access_of, fetch_at, request_in, request_of, running_request, decoded, unfetched, fetched_vcpu}
use Rattle.rv64i_step.specs.Execute.{executed, jumps, aimed, address_of, even}
use Rattle.rv64i_step.specs.Request.{CanServe}
use Rattle.rv64i_step.specs.Vcpu.{VcpuData, with_reg, next_pc, finished, halted, reg_of}
use Rattle.rv64i_step.specs.declared.access.Access.{Access}
use Rattle.rv64i_step.specs.declared.request.Request.{Request}
use Rattle.rv64i_step.specs.declared.request.Request.TheVariants.{NoFetch, Fetch}
use Rattle.rv64i_step.specs.declared.state.State.{State}
use Rattle.rv64i_step.specs.declared.state.State.TheVariants.{Running, Halted}

-- ---- Requests

-- a fetch
fetch_served : (shape : ShapeData) (at : Result Place Cause) → IfOk at (IsAccess shape Four ways.Fetch) → CanServe shape (fetch_at at)
fetch_served shape (Ok (places.Ram page off)) access = access
fetch_served shape (Ok (places.Serial reg)) access = tt
fetch_served shape (Ok (places.Timer reg)) access = tt
fetch_served shape (Err cause) access = tt

-- a vCPU that runs
running_served : (shape : ShapeData) (v : VcpuData) (p : Option Access) →
    IfSome p (λ access. AccessesMemory access.instr × CanServe shape (access_of v access.place access.instr)) → CanServe shape (running_request shape v p)
running_served shape v None is = fetch_served shape (located shape v.pc Four ways.Fetch) (located_access shape v.pc Four ways.Fetch)
running_served shape v (Some access) is = is.1

-- one that is halted asks for nothing
served_in : (shape : ShapeData) (s : State) (r : Request) → CanServe shape r → CanServe shape (request_in s r)
served_in shape Running r is = is
served_in shape (Halted cause) r is = tt

-- what a vCPU asks for, where its pending access can be served
pub request_served : (shape : ShapeData) (v : VcpuData) → IsServable shape v → CanServe shape (request_of shape v)
unfolding request_of
request_served shape v is = served_in shape v.state (running_request shape v v.pending) (running_served shape v v.pending is)

-- the request is a fetch, with a place or with none
abbrev pub IsFetch : Request → Type 0
IsFetch (NoFetch cause) = Unit {0}
IsFetch (Fetch page off) = Unit {0}
IsFetch request = ⊥

no_access_fetches : (v : VcpuData) (place : Place) (instr : Instr) → IsFetch (access_of v place instr) → ⊥
no_access_fetches v place (Load op rd rs1 off) is = is
no_access_fetches v place (Store op rs1 rs2 off) is = is
no_access_fetches v place (Amo op wide rd rs1 rs2 order) is = is
no_access_fetches v place _ is = is

fetches_in : (shape : ShapeData) (v : VcpuData) (s : State) (p : Option Access) → IsFetch (request_in s (running_request shape v p)) → p ≡ None
fetches_in shape v Running None is = refl
fetches_in shape v Running (Some access) is = absurd (no_access_fetches v access.place access.instr is)
fetches_in shape v (Halted cause) p is = absurd is

-- nothing is pending in a vCPU that asks for a fetch
pub fetch_pending : (shape : ShapeData) (v : VcpuData) → IsFetch (request_of shape v) → v.pending ≡ None
unfolding request_of
fetch_pending shape v is = fetches_in shape v v.state v.pending is

-- ---- What a fetch makes pending

-- an access with its registers depends on what is pending and on the registers alone
abbrev ServesPending : ShapeData → VcpuData → Option Access → Type 0
ServesPending shape v p = IfSome p (λ access. AccessesMemory access.instr × CanServe shape (access_of v access.place access.instr))

-- nothing pending
pub servable_none : (shape : ShapeData) (v : VcpuData) → v.pending ≡ None → IsServable shape v
servable_none shape v none = subst (ServesPending shape v) (sym none) tt

-- a register written
pending-with_reg : (b : Bool) (v w : VcpuData) → w.pending ≡ v.pending → (if b then v else w).pending ≡ v.pending
pending-with_reg true v w same = refl
pending-with_reg false v w same = same

-- an instruction that writes a register
written : (shape : ShapeData) (v : VcpuData) (rd value pc : ℕ) → v.pending ≡ None → IsServable shape (finished (with_reg v rd value) pc)
written shape v rd value pc is = servable_none shape (finished (with_reg v rd value) pc) (pending-with_reg (rd == 0) v _ refl ∙ is)

-- a jump
jumped_by : (b : Bool) (shape : ShapeData) (v linked : VcpuData) (target : ℕ) → v.pending ≡ None → linked.pending ≡ v.pending →
    IsServable shape (if b then finished linked target else halted v causes.JumpMisaligned)
jumped_by true shape v linked target is same = servable_none shape (finished linked target) (same ∙ is)
jumped_by false shape v linked target is same = servable_none shape (halted v causes.JumpMisaligned) is

-- the same, at its target
jumped : (shape : ShapeData) (v linked : VcpuData) (target : ℕ) → v.pending ≡ None → linked.pending ≡ v.pending → IsServable shape (jumps v linked target)
jumped shape v linked target is same = jumped_by (target % 4 == 0) shape v linked target is same

-- a branch
branched : (b : Bool) (shape : ShapeData) (v : VcpuData) (target : ℕ) → v.pending ≡ None →
    IsServable shape (if b then jumps v v target else finished v (next_pc v))
branched true shape v target is = jumped shape v v target is refl
branched false shape v target is = servable_none shape (finished v (next_pc v)) is

-- an access that has a place
aimed_at : (shape : ShapeData) (v : VcpuData) (instr : Instr) (width : Width) (way : Way) (at : Result Place Cause) → v.pending ≡ None →
    IfOk at (IsAccess shape width way) → AccessesMemory instr →
    ((w : VcpuData) (place : Place) → IsAccess shape width way place → CanServe shape (access_of w place instr)) → IsServable shape (aimed v instr at)
aimed_at shape v instr width way (Ok place) is access kind can = (kind, can (aimed v instr (Ok place)) place access)
aimed_at shape v instr width way (Err cause) is access kind can = servable_none shape (halted v cause) is

-- an AMO is of four bytes or eight
amo_width_is : (wide : Bool) → (amo_width wide ≡ Four) ⊎ (amo_width wide ≡ Eight)
amo_width_is true = inr refl
amo_width_is false = inl refl

-- each instruction
pub executed_servable : (shape : ShapeData) (v : VcpuData) (instr : Instr) → v.pending ≡ None → IsServable shape (executed shape v instr)
unfolding executed
executed_servable shape v (Lui rd imm) is = written shape v rd _ (next_pc v) is
executed_servable shape v (Auipc rd imm) is = written shape v rd _ (next_pc v) is
executed_servable shape v (Imm op rd rs1 imm) is = written shape v rd _ (next_pc v) is
executed_servable shape v (Shift op rd rs1 amount) is = written shape v rd _ (next_pc v) is
executed_servable shape v (ImmW rd rs1 imm) is = written shape v rd _ (next_pc v) is
executed_servable shape v (ShiftW op rd rs1 amount) is = written shape v rd _ (next_pc v) is
executed_servable shape v (Op op rd rs1 rs2) is = written shape v rd _ (next_pc v) is
executed_servable shape v (OpW op rd rs1 rs2) is = written shape v rd _ (next_pc v) is
executed_servable shape v (Jal rd off) is =
    jumped shape v (with_reg v rd (next_pc v)) (sum64 v.pc (bits64 off)) is (pending-with_reg (rd == 0) v _ refl)
executed_servable shape v (Jalr rd rs1 off) is =
    jumped shape v (with_reg v rd (next_pc v)) (even (address_of v rs1 off)) is (pending-with_reg (rd == 0) v _ refl)
executed_servable shape v (Branch op rs1 rs2 off) is = branched (is_taken op (reg_of v rs1) (reg_of v rs2)) shape v (sum64 v.pc (bits64 off)) is
executed_servable shape v (Load op rd rs1 off) is =
    let width = load_width op in
    aimed_at shape v (Load op rd rs1 off) width ways.Load (located shape (address_of v rs1 off) width ways.Load) is
    (located_access shape (address_of v rs1 off) width ways.Load) tt (λ w place access. access)
executed_servable shape v (Store op rs1 rs2 off) is =
    let width = store_width op in
    aimed_at shape v (Store op rs1 rs2 off) width ways.Store (located shape (address_of v rs1 off) width ways.Store) is
    (located_access shape (address_of v rs1 off) width ways.Store) tt (λ w place access. access)
executed_servable shape v (Amo op wide rd rs1 rs2 order) is =
    let width = amo_width wide in
    aimed_at shape v (Amo op wide rd rs1 rs2 order) width ways.Amo (located shape (reg_of v rs1) width ways.Amo) is
    (located_access shape (reg_of v rs1) width ways.Amo) tt (λ w place access. (access, amo_width_is wide))
executed_servable shape v (Fence rd rs1 bits) is = servable_none shape (finished v (next_pc v)) is
executed_servable shape v Ecall is = servable_none shape (halted v causes.Ecall) is
executed_servable shape v Ebreak is = servable_none shape (halted v causes.Ebreak) is

-- of a word that is an instruction or none
decoded_servable : (shape : ShapeData) (v : VcpuData) (instr : Option Instr) → v.pending ≡ None → IsServable shape (decoded shape v instr)
decoded_servable shape v None is = servable_none shape (halted v causes.Illegal) is
decoded_servable shape v (Some instr) is = executed_servable shape v instr is

-- of a word
pub fetched_servable : (shape : ShapeData) (v : VcpuData) (word : ℕ) → v.pending ≡ None → IsServable shape (fetched_vcpu shape v (Some word))
unfolding fetched_vcpu
fetched_servable shape v word is = decoded_servable shape v (instr_of word) is

-- a fetch that has no place
pub unfetched_servable : (shape : ShapeData) (v : VcpuData) (cause : Cause) → request_of shape v ≡ NoFetch cause → v.pending ≡ None →
    IsServable shape (fetched_vcpu shape v None)
unfolding fetched_vcpu
unfetched_servable shape v cause asks is =
    subst (λ (r : Request). IsServable shape (unfetched v r)) (sym asks) (servable_none shape (halted v cause) is)
