-- A phase on one thread as it goes on: the bus and the saver over it, beside the run of the core (this project's own,
-- docs/ARCHITECTURE.md).
use Rattle.std.specs.Prelude.{◌≡◌, ◌⊎◌, ℕ, ◌+◌, ◌-◌, ◌<◌, ◌≤◌, true, List, [], ◌∷◌, ◌++◌, All, length, map, Option, Some, None, IfSome, IsSome}
use Rattle.std.specs.List.{range_with_len}
use Rattle.medium.specs.Count.{HasRisen, counted}
use Rattle.medium.specs.Members.{file_state}
use Rattle.medium.specs.States.{FileState}
use Rattle.medium.specs.declared.readable.Readable as readable
use Rattle.flat_machine.specs.Machine.{MachineData}
use Rattle.flat_machine.specs.Run.{has_ended}
use Rattle.flat_machine.specs.UnderWay.{left_at}
use Rattle.page_cell.specs.Core.{CoreState, is_protected}
use Rattle.plain_bus.specs.Bus.{BusData, IsBus, core_of}
use Rattle.plain_bus.specs.Plant.{plant_state}
use Rattle.bg_saver.specs.Saver.{SaverData, IsSaver}
use Rattle.bg_saver.specs.Save.{IsOfSave, IsUnderWay, IsWhole}
use Rattle.bg_saver.specs.Writes.{IsRefusedOr, LeavesSince}
use Rattle.bg_saver.specs.declared.save_end.SaveEnd.{SaveEnd}
use Rattle.bg_saver.specs.declared.save_end.SaveEnd.TheVariants.{Complete, Failed}
use Rattle.vm_words.specs.declared.turns.TurnOf.{TurnOf}
use Rattle.vm_words.specs.declared.turns.TurnOf.TheVariants.{Cpu, Saver}
use Rattle.sliced_run.specs.CoreRun.{SlicedPhase, SlicedState, sliced_after, sliced_from}

-- the bus, the saver, and how the save ended, if it has
pub record SlicedData : Type 0 where
  pub bus : BusData
  pub saver : SaverData
  pub saved : Option SaveEnd

-- how many turns took a page
abbrev pub taken_by : SlicedData → ℕ
taken_by d = d.saver.counts.faults + d.saver.counts.sweep

-- the save has ended
abbrev pub HasEnded : SlicedData → Type 0
HasEnded d = (d.saved ≡ None) → ⊥

-- What a phase of so many instructions from machine i on keeps. While the save goes on each queued page is protected,
-- and then no page is.
pub record IsSliced (i : MachineData) (n : ℕ) (d : SlicedData) : Type 0 where
  pub bus : IsBus d.bus
  pub instant : d.bus.instant ≡ i
  pub run : d.bus.run ≡ n
  pub limits : IsSaver d.saver
  pub save : IsOfSave d.saver (plant_state d.bus)
  pub hand : d.saver.hand ≡ None
  pub saved : d.saver.end ≡ d.saved
  pub queued : d.saved ≡ None → All (λ p. is_protected d.bus.writable p ≡ true) d.bus.queue
  pub writable : HasEnded d → All (λ w. w ≡ true) d.bus.writable
  pub whole : d.saved ≡ Some Complete → d.saver.left ≡ []

-- while the save goes on, the file is on its way
abbrev pub IsWritten : MachineData → SlicedData → FileState → Type 0
IsWritten i d file = d.saved ≡ None → IsUnderWay d.saver i (plant_state d.bus) file

-- a core with this queue
abbrev pub with_queue : CoreState → List ℕ → CoreState
with_queue core queue = record core { queue = queue }

-- The state is that of the bus and the saver. Of a save that has ended the queue is no longer told: nothing waits there.
pub record IsAt (s : SlicedState) (d : SlicedData) : Type 0 where
  pub recorded : List (ℕ × List ℕ)
  pub queue : List ℕ
  pub core : s.core ≡ with_queue (core_of d.bus recorded) queue
  pub queued : d.saved ≡ None → queue ≡ d.bus.queue
  pub saved : s.saved ≡ d.saved
  pub turns : d.saved ≡ None → s.turns ≡ taken_by d
  pub counts : s.counts ≡ d.saver.counts

-- The turn of the saver at which the save fails, if it does: not one of those that took a page; none where the save is
-- complete; and the next one where it failed.
abbrev pub FitsEnd : Option SaveEnd → ℕ → Option ℕ → Type 0
FitsEnd None taken fails_at = IfSome fails_at (λ at. taken < at)
FitsEnd (Some Complete) taken fails_at = fails_at ≡ None
FitsEnd (Some Failed) taken fails_at = fails_at ≡ Some (taken + 1)

abbrev pub phase_of : MachineData → ℕ → Option ℕ → SlicedPhase
phase_of i n fails_at = record { instant = i; run = n; fails_at = fails_at }

-- After these turns it has come so far, wherever the save may fail.
abbrev pub HasCome : MachineData → ℕ → List TurnOf → SlicedData → Type 0
HasCome i n turns d =
    (fails_at : Option ℕ) → FitsEnd d.saved (taken_by d) fails_at → IsAt (sliced_after (phase_of i n fails_at) (sliced_from i) turns) d

-- a turn of the saver, by what it makes of the phase: while the save goes on, it took a page
pub record SaverTurned (i : MachineData) (n : ℕ) (old new : SlicedData) : Type 0 where
  pub keeps : IsSliced i n new
  pub comes : (turns : List TurnOf) → HasCome i n turns old → HasCome i n (turns ++ Saver ∷ []) new
  pub more : new.saved ≡ None → taken_by new ≡ taken_by old + 1

-- ---- The file

-- how often a save that ended so made sure of the file, if it has ended: twice where it is complete, and at most once
-- where it failed
abbrev pub IsSyncedBy : Option SaveEnd → ℕ → ℕ → Type 0
IsSyncedBy None old new = new ≡ old
IsSyncedBy (Some Complete) old new = new ≡ counted (counted old)
IsSyncedBy (Some Failed) old new = (new ≡ old) ⊎ (new ≡ counted old)

-- What turns make of the file, on which the save of this machine is under way. Where the save has ended it is the very
-- same.
pub record WritesOn {M : Type 0} (g : readable.Ghosts M) (i : MachineData) (old new : SlicedData) (file now : M) : Type 0 where
  pub ended : HasEnded old → (new.saved ≡ old.saved) × (now ≡ file)
  pub way : IsWritten i new (file_state g now)
  pub whole : old.saved ≡ None → new.saved ≡ Some Complete → IsWhole i (g.told file) (file_state g now)
  pub failed : old.saved ≡ None → new.saved ≡ Some Failed → HasRisen (g.faults file) (g.faults now)
  pub never_falls : g.faults file ≤ g.faults now
  pub syncs : old.saved ≡ None → IsSyncedBy new.saved (g.syncs file) (g.syncs now)
  pub telling : IfSome (g.told file) (λ _. IsSome (g.told now))
  pub crash : IfSome (g.told file) (λ _. (now ≡ file) ⊎ LeavesSince (file_state g file) (file_state g now) (IsRefusedOr i))

-- ---- Turns one after another

-- what these turns make of the phase and of the file
pub record TurnsTaken {M : Type 0} (g : readable.Ghosts M) (i : MachineData) (n : ℕ) (turns : List TurnOf) (old new : SlicedData) (old_file new_file : M) : Type 0 where
  pub keeps : IsSliced i n new
  pub comes : (before : List TurnOf) → HasCome i n before old → HasCome i n (before ++ turns) new
  pub file : WritesOn g i old new old_file new_file

-- the saver and its save are as before
pub record SaverStays (old new : SlicedData) : Type 0 where
  pub saver : new.saver ≡ old.saver
  pub saved : new.saved ≡ old.saved

-- what turns of vCPUs alone make of the phase
pub record VcpuTurnsTaken (i : MachineData) (n : ℕ) (turns : List TurnOf) (old new : SlicedData) : Type 0 where
  pub keeps : IsSliced i n new
  pub comes : (before : List TurnOf) → HasCome i n before old → HasCome i n (before ++ turns) new
  pub stays : SaverStays old new

-- What the first turns of a round make of it, once the save has ended: an event is made by each vCPU whose phase goes on.
-- Where no turn made one, nothing changed, and the phases of these vCPUs have ended.
pub record RoundTaken (i : MachineData) (n : ℕ) (vcpus events : ℕ) (old new : SlicedData) : Type 0 where
  pub turns : VcpuTurnsTaken i n (map Cpu (range_with_len 0 vcpus)) old new
  pub less : (k : ℕ) → k < vcpus → left_at i n new.bus.machine k ≤ left_at i n old.bus.machine k - 1
  pub most : (k : ℕ) → left_at i n new.bus.machine k ≤ left_at i n old.bus.machine k
  pub same : events ≡ 0 → new.bus ≡ old.bus
  pub over : events ≡ 0 → (k : ℕ) → k < vcpus → has_ended i n new.bus.machine k ≡ true

-- the phase of each vCPU has ended
abbrev pub HasRun : MachineData → ℕ → SlicedData → Type 0
HasRun i n d = (k : ℕ) → k < length i.vcpus → has_ended i n d.bus.machine k ≡ true
