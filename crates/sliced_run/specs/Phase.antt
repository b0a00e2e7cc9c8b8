-- What a second phase on one thread gives (this project's own, docs/ARCHITECTURE.md).
use Rattle.std.specs.Prelude.{◌≡◌, ◌⊎◌, ℕ, ◌+◌, ◌≤◌, List, Option, Some, None, IfSome}
use Rattle.ram_block.specs.Shape.{total_pages_of}
use Rattle.medium.specs.Count.{HasRisen}
use Rattle.medium.specs.States.{FileState}
use Rattle.flat_machine.specs.Machine.{IsMachine, MachineData}
use Rattle.flat_machine.specs.Run.{Phase, run}
use Rattle.bg_saver.specs.Save.{IsWhole}
use Rattle.bg_saver.specs.Writes.{IsRefusedOr}
use Rattle.bg_saver.specs.declared.counts.Counts.{Counts}
use Rattle.bg_saver.specs.declared.save_end.SaveEnd.{SaveEnd}
use Rattle.bg_saver.specs.declared.save_end.SaveEnd.TheVariants.{Complete, Failed}
use Rattle.bg_saver.specs.declared.save_job.PhaseOut.{PhaseOut}
use Rattle.vm_words.specs.declared.turns.TurnOf.{TurnOf}
use Rattle.sliced_run.specs.CoreRun.{SlicedState, core_run}
use Rattle.sliced_run.specs.Sliced.{IsSyncedBy, phase_of}

-- the turn of the saver at which the save failed, if it did: the one behind those that saved a page
abbrev pub failing_turn : Option SaveEnd → Counts → Option ℕ
failing_turn (Some Failed) counts = Some (counts.faults + counts.sweep + 1)
failing_turn _ counts = None

-- machine, order, end and counts are those of the run of the core
pub record IsCoreRun (s : SlicedState) (out : PhaseOut) : Type 0 where
  pub machine : out.machine ≡ s.core.machine
  pub order : out.order.members ≡ s.core.order
  pub saved : out.saved ≡ s.saved
  pub blocked : out.blocked ≡ s.core.blocked
  pub counts : out.counts ≡ s.counts

-- The phase of n instructions from machine i on, by these turns: each vCPU's events stand in the order once and in their
-- order, and the machine is the one of that order without a saver; the save has ended, and once it is complete each page
-- is counted.
pub record IsPhaseOf (i : MachineData) (n : ℕ) (turns : List TurnOf) (out : PhaseOut) : Type 0 where
  pub phase : Phase i n out.order.members
  pub ran : run i out.order.members ≡ Some out.machine
  pub core : IsCoreRun (core_run (phase_of i n (failing_turn out.saved out.counts)) turns) out
  pub ended : (out.saved ≡ None) → ⊥
  pub all : out.saved ≡ Some Complete → out.counts.faults + out.counts.sweep ≡ total_pages_of i.shape
  pub limits : IsMachine out.machine

-- a crash at any moment since an earlier one left what one until the start of the phase could, or a file that is refused
-- or the machine's
pub record AddsOnly (i : MachineData) (old new : FileState) : Type 0 where
  pub later : old.moment ≤ new.moment
  pub nothing_else : (t : ℕ) (image : List ℕ) → t ≤ old.moment → new.left_since t image → old.left_since t image ⊎ IsRefusedOr i image

-- What it leaves of the file: that of the machine, durably, where the save is complete; where it failed a call on the
-- file failed.
pub record LeavesFile (i : MachineData) (saved : Option SaveEnd) (old new : FileState) : Type 0 where
  pub whole : saved ≡ Some Complete → IsWhole i old.told new
  pub failed : saved ≡ Some Failed → HasRisen old.faults new.faults
  pub never_falls : old.faults ≤ new.faults
  pub syncs : IsSyncedBy saved old.syncs new.syncs
  pub crash : IfSome old.told (λ _. AddsOnly i old new)
