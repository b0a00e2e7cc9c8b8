-- What the passes know of the run so far (this project's own, docs/ARCHITECTURE.md).
use Rattle.std.specs.Prelude.{◌≡◌, ℕ, ◌+◌, ◌<◌, ◌≤◌, List, [], length, map, take, slice_get, Some}
use mathlib.Core.Option as table
use lib.ListN.{get_elem?}
use Rattle.flat_machine.specs.Machine.{MachineData}
use Rattle.flat_machine.specs.Run.{run, steps_of}
use Rattle.flat_machine.specs.UnderWay.{IsUnderWay}
use Rattle.bus_rule.specs.Order.{places}
use Rattle.bus_rule.specs.Views.{Entry, Task, Book, Role, Saving, IsTask}

-- the numbers of a trace
abbrev pub numbers_of : List Entry → List ℕ
numbers_of trace = map (λ (e : Entry). e.0) trace

-- after the event at place t of the order, vCPU k is v
pub record Shows (i : MachineData) (o : List ℕ) (k : ℕ) (e : Entry) : Type 0 where
  pub within : e.0 < length o
  pub after : MachineData
  pub ran : run i (take (e.0 + 1) o) ≡ Some after
  pub vcpu : slice_get after.vcpus k ≡ Some e.1

-- what a vCPU's pass knows is so: in machine m, after these events from i on, in a phase of n instructions
pub record IsTold (i : MachineData) (n : ℕ) (o : List ℕ) (m : MachineData) (t : Task) : Type 0 where
  pub shape : t.shape ≡ i.shape
  pub start : t.start ≡ i.clock
  pub run : t.run ≡ n
  pub until : t.until ≡ steps_of i t.who + n
  pub vcpu : slice_get m.vcpus t.who ≡ Some t.vcpu
  pub numbers : numbers_of t.trace ≡ places t.who o
  pub shows : (a : ℕ) (e : Entry) → get_elem? t.trace a ≡ table.some e → Shows i o t.who e

-- a vCPU whose pass isn't split off yet has made no event, and is what it was
pub record IsUntold (i : MachineData) (o : List ℕ) (m : MachineData) (k : ℕ) : Type 0 where
  pub places : places k o ≡ []
  pub vcpu : slice_get m.vcpus k ≡ slice_get i.vcpus k

-- the saver's pass is the first one, and no other is a saver's
pub record IsBooked (i : MachineData) (n : ℕ) (b : Book) (roles : List Role) : Type 0 where
  pub first : get_elem? roles 0 ≡ table.some (Saving b)
  pub alone : (j : ℕ) (other : Book) → get_elem? roles j ≡ table.some (Saving other) → j ≡ 0
  pub instant : b.instant ≡ i
  pub run : b.run ≡ n
  pub split : b.split ≤ length i.vcpus

-- the run so far is the order's, and some pass knows of each vCPU whose pass was split off, one pass of each and once
pub record Story (i : MachineData) (n : ℕ) (o : List ℕ) (m : MachineData) (split : ℕ) (roles : List Role) : Type 0 where
  pub way : IsUnderWay i n (record { machine = m; order = o })
  pub told : (j a : ℕ) (t : Task) → IsTask roles j a t → (t.who < split) × IsTold i n o m t
  pub once : (j a k b : ℕ) (t u : Task) → IsTask roles j a t → IsTask roles k b u → t.who ≡ u.who → (j ≡ k) × (a ≡ b)
  pub each : (k : ℕ) → k < split → (j : ℕ) × (a : ℕ) × (t : Task) × IsTask roles j a t × (t.who ≡ k)
  pub untold : (k : ℕ) → split ≤ k → k < length i.vcpus → IsUntold i o m k
