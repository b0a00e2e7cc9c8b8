-- A vCPU with the numbers of its events: what a pass keeps of what it knows.
use Rattle.std.specs.Prelude.{ℕ, ◌-◌, ◌<◌, ◌≤◌, ◌^◌, List, ◌∷◌, ◌++◌, [], Option, Some, None}
use Rattle.ram_block.specs.Shape.{ShapeData, IsShape}
use Rattle.rv64i_step.specs.Event.{IsServable}
use Rattle.rv64i_step.specs.Vcpu.{VcpuData, IsVcpu}
use Rattle.medium.specs.Count.{counted}
use Rattle.flat_machine.specs.Cell.{CellName}
use Rattle.bus_rule.specs.Kept.{cell_number}
use Rattle.bus_rule.specs.Story.{numbers_of}
use Rattle.bus_rule.specs.Views.{Task}

-- which vCPU it is, of a machine of this shape, and what it is now; the length of the phase, the steps at which it ends,
-- and the clock at the start; the numbers of its events; and how often it was stopped
pub record TracedData : Type 0 where
  pub who : ℕ
  pub shape : ShapeData
  pub vcpu : VcpuData
  pub run : ℕ
  pub until : ℕ
  pub start : ℕ
  pub numbers : List ℕ
  pub blocked : ℕ

-- what of a task is kept
abbrev pub traced_of : Task → TracedData
traced_of t = record {
  who = t.who;
  shape = t.shape;
  vcpu = t.vcpu;
  run = t.run;
  until = t.until;
  start = t.start;
  numbers = numbers_of t.trace;
  blocked = t.blocked;
}

-- the vCPU is within the limits and the phase
pub record IsTraced (d : TracedData) : Type 0 where
  pub shape : IsShape d.shape
  pub who : d.who < d.shape.vcpus
  pub vcpu : IsVcpu d.vcpu
  pub servable : IsServable d.shape d.vcpu
  pub steps : d.vcpu.steps ≤ d.until
  pub until : d.until < 2 ^ 63

-- after an event that found so many events on the clock
abbrev pub traced_event : TracedData → VcpuData → ℕ → TracedData
traced_event d v clock = record d { vcpu = v; numbers = d.numbers ++ (clock - d.start) ∷ [] }

-- after a stop
abbrev pub traced_stop : TracedData → TracedData
traced_stop d = record d { blocked = counted d.blocked }

-- the number of a cell, where there is one
abbrev pub numbered : ℕ → Option CellName → Option ℕ
numbered pages None = None
numbered pages (Some cell) = Some (cell_number pages cell)
