-- What instructions do to registers: at most their rd is written.
use Rattle.std.proofs.Common.{◌≡◌, ◌≢◌, ⊎_elim, ℕ, zero, suc, ◌-◌, ◌%◌, ◌<◌, length, Bool, true, false, Option, Some, None, Result, Ok, Err, ℤ, slice_index, slice_set, refl, sym, ◌∙◌, ap, subst, arith}
use Rattle.std.specs.Prelude.{if◌then◌else◌, ◌==◌}
use Rattle.std.proofs.lemmas.Bool.Decides.{eqb_tells}
use Rattle.std.proofs.lemmas.List.{get_or-set_same, get_or-set_other}
use Rattle.ram_block.specs.AddressMap.{located}
use Rattle.ram_block.specs.Shape.{ShapeData}
use Rattle.ram_block.specs.declared.cause.Cause.{Cause}
use Rattle.ram_block.specs.declared.cause.Cause.TheVariants as causes
use Rattle.ram_block.specs.declared.place.Place.{Place}
use Rattle.ram_block.specs.declared.place.Way.TheVariants as ways
use Rattle.rv64i_decode.specs.declared.instr.Instr.{Instr}
use Rattle.rv64i_decode.specs.declared.instr.Instr.TheVariants.{Lui, Auipc, Jal, Jalr, Branch, Load, Store, Imm, Shift, ImmW, ShiftW, Op, OpW, Fence, Ecall, Ebreak, Amo}
use Rattle.rv64i_decode.specs.declared.op.StoreOp.{StoreOp}
use Rattle.rv64i_step.specs.Access.{load_width, store_width, amo_width, loaded, extended}
use Rattle.rv64i_step.specs.Arithmetic.{bits64, sum64, is_taken}
use Rattle.rv64i_step.specs.Event.{made, access_made, accessed_vcpu}
use Rattle.rv64i_step.specs.Execute.{executed, jumps, aimed, address_of, even}
use Rattle.rv64i_step.specs.Laws.{JumpsLink, KeepsRegisters, RegistersKeep, WritesOne, rd_of}
use Rattle.rv64i_step.specs.Vcpu.{VcpuData, with_reg, next_pc, finished, halted, reg_of}
use Rattle.rv64i_step.specs.declared.access.Access.{Access}
use Rattle.rv64i_step.specs.declared.state.State.TheVariants.{Running}

-- a number above 0 isn't 0, as a test
not_zero : (i : ℕ) → 0 < i → (i == 0) ≡ false
not_zero i above = ⊎_elim (λ same. absurd (omega (arith, same.1))) (λ other. other.0) (eqb_tells i 0)

-- a register but x0 is one of the 31
reg_of_above : (v : VcpuData) (i : ℕ) → 0 < i → reg_of v i ≡ slice_index v.regs (i - 1)
reg_of_above v i above = ap (λ b. if b then 0 else slice_index v.regs (i - 1)) (not_zero i above)

-- and so is one that is written
regs_with_reg : (v : VcpuData) (rd value : ℕ) → 0 < rd → (with_reg v rd value).regs ≡ slice_set v.regs (rd - 1) value
regs_with_reg v rd value above =
    ap (λ b. (if b then v else record v { regs = slice_set v.regs (rd - 1) value }).regs) (not_zero rd above)

-- a vCPU with the same registers has the same in each
same_regs : (v w : VcpuData) (i : ℕ) → w.regs ≡ v.regs → reg_of w i ≡ reg_of v i
same_regs v w i e = ap (λ l. if i == 0 then 0 else slice_index l (i - 1)) e

-- a write to one register leaves the others
pub reg_of-with_reg_other : (v : VcpuData) (rd value i : ℕ) → i ≢ rd → reg_of (with_reg v rd value) i ≡ reg_of v i
reg_of-with_reg_other v zero value i other = refl
reg_of-with_reg_other v (suc rd) value zero other = refl
reg_of-with_reg_other v (suc rd) value (suc i) other =
    reg_of_above (with_reg v (suc rd) value) (suc i) (omega arith)
    ∙ ap (λ l. slice_index l (suc i - 1)) (regs_with_reg v (suc rd) value (omega arith))
    ∙ get_or-set_other v.regs (suc rd - 1) (suc i - 1) value 0 (λ e. other (omega (arith, e)))
    ∙ sym (reg_of_above v (suc i) (omega arith))

-- and it has the value that was written
pub reg_of-with_reg_same : (v : VcpuData) (rd value : ℕ) → length v.regs ≡ 31 → 0 < rd → rd < 32 → reg_of (with_reg v rd value) rd ≡ value
reg_of-with_reg_same v rd value count above below =
    reg_of_above (with_reg v rd value) rd above
    ∙ ap (λ l. slice_index l (rd - 1)) (regs_with_reg v rd value above)
    ∙ get_or-set_same v.regs (rd - 1) value 0 (omega arith)

pub registers_keep : RegistersKeep
registers_keep = record { zero = λ v. refl; others = reg_of-with_reg_other; written = reg_of-with_reg_same }

-- a jump that links writes at most its rd
jump_keeps : (b : Bool) (v : VcpuData) (rd linked target i : ℕ) → i ≢ rd →
    reg_of (if b then finished (with_reg v rd linked) target else halted v causes.JumpMisaligned) i ≡ reg_of v i
jump_keeps true v rd linked target i other = reg_of-with_reg_other v rd linked i other
jump_keeps false v rd linked target i other = refl

-- one that doesn't link writes nothing
plain_jump_keeps : (b : Bool) (v : VcpuData) (target i : ℕ) →
    reg_of (if b then finished v target else halted v causes.JumpMisaligned) i ≡ reg_of v i
plain_jump_keeps true v target i = refl
plain_jump_keeps false v target i = refl

branch_keeps : (b : Bool) (v : VcpuData) (target i : ℕ) →
    reg_of (if b then jumps v v target else finished v (next_pc v)) i ≡ reg_of v i
branch_keeps true v target i = plain_jump_keeps (target % 4 == 0) v target i
branch_keeps false v target i = refl

-- an access that becomes pending changes no register, nor does the halt in its place
pub aimed_keeps : (v : VcpuData) (instr : Instr) (place : Result Place Cause) → (aimed v instr place).regs ≡ v.regs
aimed_keeps v instr (Ok place) = refl
aimed_keeps v instr (Err cause) = refl

aimed_keeps_each : (v : VcpuData) (instr : Instr) (place : Result Place Cause) (i : ℕ) → reg_of (aimed v instr place) i ≡ reg_of v i
aimed_keeps_each v instr place i = same_regs v (aimed v instr place) i (aimed_keeps v instr place)

-- an instruction's fetch writes at most its rd
executed_keeps : (shape : ShapeData) (v : VcpuData) (instr : Instr) (i : ℕ) → i ≢ rd_of instr → reg_of (executed shape v instr) i ≡ reg_of v i
unfolding executed
executed_keeps shape v (Lui rd imm) i other = reg_of-with_reg_other v rd _ i other
executed_keeps shape v (Auipc rd imm) i other = reg_of-with_reg_other v rd _ i other
executed_keeps shape v (Imm op rd rs1 imm) i other = reg_of-with_reg_other v rd _ i other
executed_keeps shape v (Shift op rd rs1 amount) i other = reg_of-with_reg_other v rd _ i other
executed_keeps shape v (ImmW rd rs1 imm) i other = reg_of-with_reg_other v rd _ i other
executed_keeps shape v (ShiftW op rd rs1 amount) i other = reg_of-with_reg_other v rd _ i other
executed_keeps shape v (Op op rd rs1 rs2) i other = reg_of-with_reg_other v rd _ i other
executed_keeps shape v (OpW op rd rs1 rs2) i other = reg_of-with_reg_other v rd _ i other
executed_keeps shape v (Jal rd off) i other =
    let target = sum64 v.pc (bits64 off) in jump_keeps (target % 4 == 0) v rd (next_pc v) target i other
executed_keeps shape v (Jalr rd rs1 off) i other =
    let target = even (address_of v rs1 off) in jump_keeps (target % 4 == 0) v rd (next_pc v) target i other
executed_keeps shape v (Branch op rs1 rs2 off) i other =
    branch_keeps (is_taken op (reg_of v rs1) (reg_of v rs2)) v (sum64 v.pc (bits64 off)) i
executed_keeps shape v (Load op rd rs1 off) i other =
    aimed_keeps_each v (Load op rd rs1 off) (located shape (address_of v rs1 off) (load_width op) ways.Load) i
executed_keeps shape v (Store op rs1 rs2 off) i other =
    aimed_keeps_each v (Store op rs1 rs2 off) (located shape (address_of v rs1 off) (store_width op) ways.Store) i
executed_keeps shape v (Amo op wide rd rs1 rs2 order) i other =
    aimed_keeps_each v (Amo op wide rd rs1 rs2 order) (located shape (reg_of v rs1) (amo_width wide) ways.Amo) i
executed_keeps shape v (Fence rd rs1 bits) i other = refl
executed_keeps shape v Ecall i other = refl
executed_keeps shape v Ebreak i other = refl

-- and so does its access
made_keeps : (v : VcpuData) (value : ℕ) (instr : Instr) (i : ℕ) → i ≢ rd_of instr →
    reg_of (made (record v { pending = None }) value instr) i ≡ reg_of v i
made_keeps v value (Load op rd rs1 off) i other = reg_of-with_reg_other (record v { pending = None }) rd (loaded op value) i other
made_keeps v value (Amo op wide rd rs1 rs2 order) i other =
    reg_of-with_reg_other (record v { pending = None }) rd (extended (amo_width wide) value) i other
made_keeps v value _ i other = refl

accessed_keeps : (v : VcpuData) (value : ℕ) (access : Access) (i : ℕ) → v.pending ≡ Some access → i ≢ rd_of access.instr →
    reg_of (accessed_vcpu v value) i ≡ reg_of v i
unfolding accessed_vcpu
accessed_keeps v value access i pending other =
    subst (λ (p : Option Access). reg_of (access_made v value p) i ≡ reg_of v i) (sym pending) (made_keeps v value access.instr i other)

pub writes_one : WritesOne
writes_one = record { fetched = executed_keeps; accessed = accessed_keeps }

-- the access of a store
store_keeps : (v : VcpuData) (value : ℕ) (access : Access) (op : StoreOp) (rs1 rs2 : ℕ) (off : ℤ) → v.pending ≡ Some access →
    access.instr ≡ Store op rs1 rs2 off → (accessed_vcpu v value).regs ≡ v.regs
unfolding accessed_vcpu
store_keeps v value access op rs1 rs2 off pending is =
    subst (λ (p : Option Access). (access_made v value p).regs ≡ v.regs) (sym pending)
    (subst (λ (n : Instr). (made (record v { pending = None }) value n).regs ≡ v.regs) (sym is) refl)

pub keeps_registers : KeepsRegisters
unfolding executed
keeps_registers = record {
  store_fetched = λ shape v op rs1 rs2 off. aimed_keeps v (Store op rs1 rs2 off) (located shape (address_of v rs1 off) (store_width op) ways.Store);
  store_accessed = store_keeps;
  fence = λ shape v rd rs1 bits. refl;
  ecall = λ shape v. refl;
  ebreak = λ shape v. refl;
}

-- what a jump that didn't halt leaves in rd
links_either : (b : Bool) (v : VcpuData) (rd linked target : ℕ) → length v.regs ≡ 31 → 0 < rd → rd < 32 →
    (if b then finished (with_reg v rd linked) target else halted v causes.JumpMisaligned).state ≡ Running →
    reg_of (if b then finished (with_reg v rd linked) target else halted v causes.JumpMisaligned) rd ≡ linked
links_either true v rd linked target count above below runs = reg_of-with_reg_same v rd linked count above below
links_either false v rd linked target count above below runs = cc

pub jumps_link : JumpsLink
unfolding executed
jumps_link = record {
  jal = λ shape v rd off. let target = sum64 v.pc (bits64 off) in links_either (target % 4 == 0) v rd (next_pc v) target;
  jalr = λ shape v rd rs1 off. let target = even (address_of v rs1 off) in links_either (target % 4 == 0) v rd (next_pc v) target;
}
