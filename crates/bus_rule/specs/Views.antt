-- What a pass shows: a vCPU's, the saver's, or one that was joined to it (this project's own, docs/ARCHITECTURE.md).
use Rattle.std.specs.Prelude.{◌≡◌, ℕ, ◌+◌, Bool, List, [], ◌∷◌, Option}
use mathlib.Core.Option as table
use lib.ListN.{get_elem?}
use Rattle.ram_block.specs.Shape.{ShapeData}
use Rattle.rv64i_step.specs.Event.{request_of}
use Rattle.rv64i_step.specs.Vcpu.{VcpuData}
use Rattle.rv64i_step.specs.declared.request.Request.{Request}
use Rattle.flat_machine.specs.Machine.{MachineData}
use Rattle.page_cell.specs.declared.cell.Cell.{Cell}
use Rattle.bus_rule.specs.Locks.{Hand}

-- one event of a vCPU: the number that it drew, counted from the clock at the start, and the vCPU after it
abbrev pub Entry : Type 0
Entry = ℕ × VcpuData

-- what a vCPU's pass knows: which vCPU it is, of a machine of this shape, and what it is now; the length of the phase,
-- the steps at which it ends, and the clock at the start; its events so far; how often it was stopped, and the page that
-- it wants
pub record Task : Type 0 where
  pub who : ℕ
  pub shape : ShapeData
  pub vcpu : VcpuData
  pub run : ℕ
  pub until : ℕ
  pub start : ℕ
  pub trace : List Entry
  pub blocked : ℕ
  pub wants : Option ℕ

-- what the saver's pass knows: the instant and the length of the phase; how many vCPUs' passes it has split off, and
-- those that it has taken in; which pages are writable and which were picked, the fronts that it took from the queue, in
-- their order, and how often it found the queue empty
pub record Book : Type 0 where
  pub instant : MachineData
  pub run : ℕ
  pub split : ℕ
  pub joined : List Task
  pub writable : List Bool
  pub picked : List Bool
  pub fronts : List ℕ
  pub empties : ℕ

-- a pass that was joined is spent
pub data Role : Type 0 where
  Spent : Role
  Working : Task → Role
  Saving : Book → Role

-- the cells that it holds, each with its value due, the one taken last first; how often it found a cell held, which one it
-- so found last, and the protected page that it had taken last as it did
pub record PassData : Type 0 where
  pub role : Role
  pub held : List (ℕ × Cell)
  pub busy : ℕ
  pub found : Option ℕ
  pub under : Option ℕ

-- the number that a pass writes into the words of the cells that it takes
abbrev pub number_of : Role → ℕ
number_of Spent = 0
number_of (Working t) = t.who + 1
number_of (Saving b) = b.instant.shape.vcpus + 1

abbrev pub hand_of : PassData → Hand Cell
hand_of p = record { number = number_of p.role; cells = p.held }

abbrev pub role_of : PassData → Role
role_of p = p.role

-- the vCPUs of which the pass knows
abbrev pub tasks_of : Role → List Task
tasks_of Spent = []
tasks_of (Working t) = t ∷ []
tasks_of (Saving b) = b.joined

-- pass j knows of this vCPU, at place a of its list
pub record IsTask (roles : List Role) (j a : ℕ) (t : Task) : Type 0 where
  pub role : Role
  pub pass : get_elem? roles j ≡ table.some role
  pub task : get_elem? (tasks_of role) a ≡ table.some t

-- what the vCPU needs for its next event
abbrev pub request_in : Task → Request
request_in t = request_of t.shape t.vcpu
