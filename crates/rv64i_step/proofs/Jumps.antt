-- Where jumps and branches land.
use Rattle.std.proofs.Common.{◌≡◌, ℕ, ◌%◌, Bool, true, false, refl, sym, arith}
use Rattle.std.specs.Prelude.{if◌then◌else◌, ◌==◌}
use Rattle.std.proofs.lemmas.Bool.{false≢true}
use Rattle.ram_block.specs.declared.cause.Cause.TheVariants as causes
use Rattle.rv64i_step.specs.Arithmetic.{bits64, sum64, is_taken}
use Rattle.rv64i_step.specs.Execute.{executed, jumps, address_of, even}
use Rattle.rv64i_step.specs.Laws.{LandsAt, JumpsLand, BranchesOppose}
use Rattle.rv64i_step.specs.Vcpu.{VcpuData, with_reg, next_pc, finished, halted, reg_of}
use Rattle.rv64i_step.specs.declared.state.State.TheVariants.{Running}

-- by the test that a jump makes of its target
lands_either : (b : Bool) (v linked : VcpuData) (target : ℕ) → (b ≡ true → target % 4 ≡ 0) →
    (if b then finished linked target else halted v causes.JumpMisaligned).state ≡ Running →
    LandsAt (if b then finished linked target else halted v causes.JumpMisaligned) target
lands_either true v linked target aligned runs = record { pc = refl; aligned = aligned refl }
lands_either false v linked target aligned runs = absurd (cc)

-- a jump that didn't halt is at its target
lands : (v linked : VcpuData) (target : ℕ) → (jumps v linked target).state ≡ Running → LandsAt (jumps v linked target) target
lands v linked target runs = lands_either (target % 4 == 0) v linked target (λ e. grind arith) runs

-- a branch by its test
taken_lands : (b : Bool) (v : VcpuData) (target : ℕ) → b ≡ true →
    (if b then jumps v v target else finished v (next_pc v)).state ≡ Running →
    LandsAt (if b then jumps v v target else finished v (next_pc v)) target
taken_lands true v target taken runs = lands v v target runs
taken_lands false v target taken runs = absurd (false≢true taken)

untaken_goes_on : (b : Bool) (v : VcpuData) (target : ℕ) → b ≡ false →
    (if b then jumps v v target else finished v (next_pc v)) ≡ finished v (next_pc v)
untaken_goes_on true v target untaken = absurd (false≢true (sym untaken))
untaken_goes_on false v target untaken = refl

-- each jump and branch lands at its target
pub jumps_land : JumpsLand
unfolding executed
jumps_land = record {
  jal = λ shape v rd off runs. lands v (with_reg v rd (next_pc v)) (sum64 v.pc (bits64 off)) runs;
  jalr = λ shape v rd rs1 off runs. lands v (with_reg v rd (next_pc v)) (even (address_of v rs1 off)) runs;
  taken = λ shape v op rs1 rs2 off taken runs. taken_lands (is_taken op (reg_of v rs1) (reg_of v rs2)) v (sum64 v.pc (bits64 off)) taken runs;
  untaken = λ shape v op rs1 rs2 off untaken. untaken_goes_on (is_taken op (reg_of v rs1) (reg_of v rs2)) v (sum64 v.pc (bits64 off)) untaken;
}

-- opposite branches are opposite
pub branches_oppose : BranchesOppose
unfolding is_taken
branches_oppose = record { equal = λ a b. refl; signed = λ a b. refl; unsigned = λ a b. refl }
