-- What a phase on threads gives (this project's own, docs/ARCHITECTURE.md).
use Rattle.std.specs.Prelude.{◌≡◌, ℕ, ◌+◌, ◌≤◌, Bool, true, List, Option, Some, None, slice_get}
use Rattle.std.specs.List.{count_by}
use Rattle.ram_block.specs.Shape.{total_pages_of}
use Rattle.medium.specs.Members.{file_state}
use Rattle.medium.specs.declared.readable.Readable as readable
use Rattle.flat_machine.specs.Machine.{IsMachine, MachineData}
use Rattle.flat_machine.specs.Run.{Phase, run}
use Rattle.bus_rule.specs.Faults.{IsWritten}
use Rattle.page_bus.specs.Closing.{NoneWritten}
use Rattle.bg_saver.specs.Saver.{SaverData}
use Rattle.bg_saver.specs.declared.save_end.SaveEnd.TheVariants.{Complete}
use Rattle.bg_saver.specs.declared.save_job.PhaseOut.{PhaseOut}
use Rattle.bg_saver.specs.declared.save_job.SaveJob.{SaveJob}
use Rattle.sliced_run.specs.Phase.{LeavesFile}

-- The phase of n instructions from machine i on: each vCPU's events stand in the order once and in their order, and the
-- machine is the one of that order without a saver.
pub record RunsPhase (i : MachineData) (n : ℕ) (out : PhaseOut) : Type 0 where
  pub phase : Phase i n out.order.members
  pub ran : run i out.order.members ≡ Some out.machine
  pub limits : IsMachine out.machine

-- so many pages, or more, are written to by events of the run: a flag for each page, of which as many are set, and each
-- page whose flag is set is one of these
pub record AreWritten (i : MachineData) (o : List ℕ) (count : ℕ) : Type 0 where
  pub flags : List Bool
  pub counted : count ≡ count_by (λ flag. flag) flags
  pub each : (p : ℕ) → slice_get flags p ≡ Some true → IsWritten i o p

-- What the counts of a save that ran beside the phase from machine i are bound by: each page is counted once it is complete,
-- only pages that events write to count as faults, and no vCPU was stopped where events write to none.
pub record IsBounded (i : MachineData) (out : PhaseOut) : Type 0 where
  pub all : out.saved ≡ Some Complete → out.counts.faults + out.counts.sweep ≡ total_pages_of i.shape
  pub most : out.counts.faults + out.counts.sweep ≤ total_pages_of i.shape
  pub faults : AreWritten i out.order.members out.counts.faults
  pub calm : NoneWritten i out.order.members → out.blocked ≡ 0

-- the save of machine i that ran beside it ended as its saver did, and counted as it did, within these bounds
pub record EndsSaved (i : MachineData) (saver : SaverData) (out : PhaseOut) : Type 0 where
  pub ended : (out.saved ≡ None) → ⊥
  pub saved : out.saved ≡ saver.end
  pub counts : out.counts ≡ saver.counts
  pub bounds : IsBounded i out

-- no save ran beside it: nothing was saved or counted, and no vCPU was stopped
pub record EndsAlone (out : PhaseOut) : Type 0 where
  pub saved : out.saved ≡ None
  pub counts : out.counts ≡ record { faults = 0; sweep = 0 }
  pub blocked : out.blocked ≡ 0

-- the job is the one with the same file, which is left as a second phase from machine i leaves it
pub record LeavesSaved {M : Type 0} (g : readable.Ghosts M) (i : MachineData) (old new : SaveJob M SaverData) (out : PhaseOut) : Type 0 where
  pub same_file : new.medium.ghost_name ≡ old.medium.ghost_name
  pub ends : EndsSaved i new.saver out
  pub file : LeavesFile i out.saved (file_state g old.medium.now) (file_state g new.medium.now)

-- what is left of the job, where there is one
abbrev pub LeavesJob : {M : Type 0} → readable.Ghosts M → MachineData → Option (SaveJob M SaverData) → Option (SaveJob M SaverData) → PhaseOut → Type 0
LeavesJob g i (Some old) (Some new) out = LeavesSaved g i old new out
LeavesJob g i None None out = EndsAlone out
LeavesJob g i _ _ out = ⊥
