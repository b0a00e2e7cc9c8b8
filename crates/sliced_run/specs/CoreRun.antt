-- The second phase on one thread, by turns: what a run of the core from the instant gives (this project's own,
-- docs/ARCHITECTURE.md).
use Rattle.std.specs.Prelude.{ℕ, zero, suc, ◌+◌, ◌*◌, ◌==◌, not, Bool, true, false, List, [], ◌∷◌, ◌++◌, length, map, replicate, Option, Some, None, if◌then◌else◌}
use Rattle.std.specs.List.{position, range_with_len}
use Rattle.ram_block.specs.Shape.{total_pages_of}
use Rattle.flat_machine.specs.Machine.{MachineData}
use Rattle.flat_machine.specs.Run.{has_ended}
use Rattle.page_cell.specs.Core.{CoreState, CpuTurn, PickTurn, PageTurn, core_after, core_from, core_turn}
use Rattle.bg_saver.specs.declared.counts.Counts.{Counts}
use Rattle.bg_saver.specs.declared.save_end.SaveEnd.{SaveEnd}
use Rattle.bg_saver.specs.declared.save_end.SaveEnd.TheVariants.{Complete, Failed}
use Rattle.vm_words.specs.declared.turns.TurnOf.{TurnOf}
use Rattle.vm_words.specs.declared.turns.TurnOf.TheVariants.{Cpu, Saver}

-- a phase of so many instructions from the instant, and the turn of the saver, counted from 1, at which the save fails,
-- if it does
pub record SlicedPhase : Type 0 where
  pub instant : MachineData
  pub run : ℕ
  pub fails_at : Option ℕ

-- how far it has come: the core; how the save ended, if it has; how many turns the saver had until then; and how many
-- pages were taken because of a fault, and in the sweep
pub record SlicedState : Type 0 where
  pub core : CoreState
  pub saved : Option SaveEnd
  pub turns : ℕ
  pub counts : Counts

-- at the instant
abbrev pub sliced_from : MachineData → SlicedState
sliced_from i = record { core = core_from i; saved = None; turns = 0; counts = record { faults = 0; sweep = 0 } }

-- ---- The turn of a vCPU

-- it is that of the core, unless the vCPU's phase has ended
unfoldable pub cpu_turn : SlicedPhase → SlicedState → ℕ → SlicedState
cpu_turn phase s k =
    if has_ended phase.instant phase.run s.core.machine k then s else record s { core = core_turn s.core (CpuTurn k) }

-- ---- The turn of the saver

-- the save failed, and no page is protected any more
abbrev pub saver_fails : SlicedState → SlicedState
saver_fails s = record s { core = record s.core { writable = map (λ _. true) s.core.writable }; saved = Some Failed }

-- a page that was queued is taken out of the queue and recorded
abbrev pub takes_fault : SlicedState → ℕ → SlicedState
takes_fault s p = record s {
  core = core_after s.core (PickTurn ∷ PageTurn p ∷ []);
  counts = record { faults = s.counts.faults + 1; sweep = s.counts.sweep };
}

-- a page that no one waits for is recorded
abbrev pub takes_page : SlicedState → ℕ → SlicedState
takes_page s p = record s {
  core = core_turn s.core (PageTurn p);
  counts = record { faults = s.counts.faults; sweep = s.counts.sweep + 1 };
}

-- where a page is protected, the front of the queue is taken, or the least such page where the queue is empty; where none
-- is, the save is complete
abbrev pub saver_takes : SlicedState → Option ℕ → List ℕ → SlicedState
saver_takes s None queue = record s { saved = Some Complete }
saver_takes s (Some least) [] = takes_page s least
saver_takes s (Some least) (p ∷ queue) = takes_fault s p

-- the least page that is protected
abbrev pub least_protected : List Bool → Option ℕ
least_protected writable = position not writable

-- whether this is the turn at which the save fails
abbrev pub is_turn : Option ℕ → ℕ → Bool
is_turn None turn = false
is_turn (Some fails_at) turn = fails_at == turn

-- the turn of a saver whose save goes on, counted already
abbrev pub saver_goes_on : Option ℕ → SlicedState → SlicedState
saver_goes_on fails_at s =
    if is_turn fails_at s.turns then saver_fails s else saver_takes s (least_protected s.core.writable) s.core.queue

-- the same, by how the save ended, if it has: then the turn does nothing
abbrev pub saver_turn_by : Option SaveEnd → Option ℕ → SlicedState → SlicedState
saver_turn_by (Some saved) fails_at s = s
saver_turn_by None fails_at s = saver_goes_on fails_at (record s { turns = s.turns + 1 })

unfoldable pub saver_turn : Option ℕ → SlicedState → SlicedState
saver_turn fails_at s = saver_turn_by s.saved fails_at s

-- ---- Runs

-- the turn of a line
abbrev pub sliced_turn : SlicedPhase → SlicedState → TurnOf → SlicedState
sliced_turn phase s (Cpu k) = cpu_turn phase s k
sliced_turn phase s Saver = saver_turn phase.fails_at s

-- these turns
unfoldable pub sliced_after : SlicedPhase → SlicedState → List TurnOf → SlicedState
sliced_after phase s [] = s
sliced_after phase s (turn ∷ turns) = sliced_after phase (sliced_turn phase s turn) turns

-- the turns that end the save: one for each page, and one that completes it; those behind its end do nothing
abbrev pub saver_turns : MachineData → List TurnOf
saver_turns i = replicate (total_pages_of i.shape + 1) Saver

-- one round: each vCPU has its turn, by number
abbrev pub round_turns : MachineData → List TurnOf
round_turns i = map Cpu (range_with_len 0 (length i.vcpus))

-- the rounds that end the phase: an instruction has at most two events
unfoldable pub rounds_of : MachineData → ℕ → List TurnOf
rounds_of i zero = []
rounds_of i (suc n) = round_turns i ++ rounds_of i n

-- the phase: the turns of a line, then the saver's until the save has ended, then rounds until each vCPU's phase has
-- ended
unfoldable pub core_run : SlicedPhase → List TurnOf → SlicedState
core_run phase turns =
    sliced_after phase (sliced_from phase.instant) (turns ++ (saver_turns phase.instant ++ rounds_of phase.instant (2 * phase.run)))
