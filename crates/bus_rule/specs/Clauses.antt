-- What the rule of the bus says of a moment, clause by clause (this project's own, docs/ARCHITECTURE.md).
use Rattle.std.specs.Prelude.{◌≡◌, ◌⊎◌, ℕ, ◌+◌, ◌<◌, ◌≤◌, Bool, true, false, List, [], length, map, take, slice_get, slice_index, Some}
use mathlib.Core.Option as table
use lib.ListN.{get_elem?}
use Rattle.atomic_table.specs.Table.{State}
use Rattle.ram_block.specs.Shape.{total_pages_of}
use Rattle.flat_machine.specs.Cell.{CellName, content}
use Rattle.flat_machine.specs.Laws.{IsCellOf, event_written_page}
use Rattle.flat_machine.specs.Machine.{MachineData, page_of}
use Rattle.flat_machine.specs.Run.{run, steps_of, has_ended}
use Rattle.page_cell.specs.Cell.{content_of, phase_in}
use Rattle.page_cell.specs.declared.cell.Cell.{Cell}
use Rattle.page_cell.specs.declared.cell.Cell.TheVariants as cells
use Rattle.page_cell.specs.declared.phase.Phase.TheVariants.{Protected, Writable}
use Rattle.bus_rule.specs.Faults.{IsSought, NoneSought, IsWanted, IsWritten}
use Rattle.bus_rule.specs.Kept.{cell_number, queue_number}
use Rattle.bus_rule.specs.Locks.{Has}
use Rattle.bus_rule.specs.Order.{AreTraces, order_of, total_of}
use Rattle.bus_rule.specs.Story.{numbers_of}
use Rattle.bus_rule.specs.Views.{Entry, Task, Book, Role, Working, Saving, PassData, number_of, role_of, IsTask}

-- ---- The third: what a vCPU's pass shows

-- an entry: the vCPU after the event, before which the phase had not ended
pub record IsEntry (i : MachineData) (n : ℕ) (o : List ℕ) (k : ℕ) (e : Entry) : Type 0 where
  pub after : MachineData
  pub ran : run i (take (e.0 + 1) o) ≡ Some after
  pub vcpu : slice_get after.vcpus k ≡ Some e.1
  pub before : MachineData
  pub ran_before : run i (take e.0 o) ≡ Some before
  pub going : has_ended i n before k ≡ false

pub record SaysVcpu (i : MachineData) (n : ℕ) (o : List ℕ) (m : MachineData) (t : Task) : Type 0 where
  pub vcpu : slice_get m.vcpus t.who ≡ Some t.vcpu
  pub until : t.until ≡ steps_of i t.who + n
  pub entries : (a : ℕ) (e : Entry) → get_elem? t.trace a ≡ table.some e → IsEntry i n o t.who e

module _ (s : State Cell PassData) where
  abbrev pub roles : List Role
  roles = map role_of s.views

  -- pass j holds cell c, with this value due
  pub record Holds (j c : ℕ) (x : Cell) : Type 0 where
    pub pass : PassData
    pub stands : get_elem? s.views j ≡ table.some pass
    pub has : Has pass.held c x

  -- pass j writes this number
  pub record IsNumbered (j number : ℕ) : Type 0 where
    pub pass : PassData
    pub stands : get_elem? s.views j ≡ table.some pass
    pub is : number_of pass.role ≡ number

  -- cell c contains x: at home, or as the value due of a pass that holds it
  abbrev pub Contains : ℕ → Cell → Type 0
  Contains c x = (get_elem? s.homes c ≡ table.some (table.some x)) ⊎ ((j : ℕ) × Holds j c x)

  -- ---- The first: words and holders

  pub record SaysHolders : Type 0 where
    pub word : (j c number : ℕ) (x : Cell) → Holds j c x → IsNumbered j number → slice_index s.words (c + 1) ≡ number
    pub holder : (j c number : ℕ) → c < length s.homes → IsNumbered j number → 0 < number → slice_index s.words (c + 1) ≡ number → (x : Cell) × Holds j c x
    pub free : (c : ℕ) → c < length s.homes → ((j : ℕ) (x : Cell) → Holds j c x → ⊥) → slice_index s.words (c + 1) ≡ 0
    pub one : (j k c : ℕ) (x y : Cell) → Holds j c x → Holds k c y → j ≡ k
    pub away : (j c : ℕ) (x : Cell) → Holds j c x → get_elem? s.homes c ≡ table.some table.none
    pub at_home : (c : ℕ) → c < length s.homes → ((j : ℕ) (x : Cell) → Holds j c x → ⊥) → (x : Cell) × (get_elem? s.homes c ≡ table.some (table.some x))

  -- ---- The second: the traces, the order and the machine

  -- these are the traces, by vCPU: that of each vCPU of which a pass knows, and an empty one of each other
  pub record AreTold (vcpus : ℕ) (traces : List (List ℕ)) : Type 0 where
    pub count : length traces ≡ vcpus
    pub told : (j a : ℕ) (t : Task) → IsTask roles j a t → slice_get traces t.who ≡ Some (numbers_of t.trace)
    pub untold : (k : ℕ) → k < vcpus → ((j a : ℕ) (t : Task) → IsTask roles j a t → t.who ≡ k → ⊥) → slice_get traces k ≡ Some []

  -- the order is that of the traces, and this is its machine
  pub record IsMoment (i : MachineData) (o : List ℕ) (m : MachineData) : Type 0 where
    pub traces : List (List ℕ)
    pub told : AreTold (length i.vcpus) traces
    pub are : AreTraces traces
    pub total : i.clock + total_of traces ≡ slice_index s.words 0
    pub order : order_of traces ≡ o
    pub ran : run i o ≡ Some m

  -- ---- The fourth: contents

  -- a cell of the machine contains what the machine has there
  abbrev pub SaysContents : MachineData → Type 0
  SaysContents m = (d : CellName) (x : Cell) → IsCellOf m.shape d → Contains (cell_number (total_pages_of m.shape) d) x → content_of x ≡ Some (content m d)

  -- ---- The fifth: phases

  pub record SaysPhases (i : MachineData) (protect : Bool) (m : MachineData) (b : Book) : Type 0 where
    pub writable : (p : ℕ) (x : Cell) → slice_get b.writable p ≡ Some true → Contains p x → phase_in x ≡ Writable
    pub protected : (p : ℕ) (x : Cell) → slice_get b.writable p ≡ Some false → Contains p x → phase_in x ≡ Protected
    pub instant : (p : ℕ) → slice_get b.writable p ≡ Some false → page_of m p ≡ page_of i p
    pub unprotected : protect ≡ false → (p : ℕ) → p < total_pages_of i.shape → slice_get b.writable p ≡ Some true
    pub count : length b.writable ≡ total_pages_of i.shape

  -- ---- The sixth: what passes want

  -- the queue's list: what its cell contains
  abbrev pub IsQueued : MachineData → List ℕ → Type 0
  IsQueued i queue = Contains (queue_number (total_pages_of i.shape)) (cells.Faults (record { pages = total_pages_of i.shape; list = queue }))

  abbrev pub SaysReached : Book → List ℕ → Type 0
  SaysReached b queue = (j a p : ℕ) (t : Task) → IsTask roles j a t → t.wants ≡ Some p → (slice_get b.writable p ≡ Some true) ⊎ IsSought queue b.picked p

  -- ---- The seventh: the passes

  pub record SaysPasses (i : MachineData) (m : MachineData) (b : Book) : Type 0 where
    pub numbers : (j : ℕ) (p : PassData) (t : Task) → get_elem? s.views j ≡ table.some p → p.role ≡ Working t → number_of p.role ≡ t.who + 1
    pub split : (j a : ℕ) (t : Task) → IsTask roles j a t → t.who < b.split
    pub each : (k : ℕ) → k < b.split → (j : ℕ) × (a : ℕ) × (t : Task) × IsTask roles j a t × (t.who ≡ k)
    pub once : (j a k c : ℕ) (t u : Task) → IsTask roles j a t → IsTask roles k c u → t.who ≡ u.who → (j ≡ k) × (a ≡ c)
    pub most : b.split ≤ length i.vcpus
    pub unsplit : (k : ℕ) → b.split ≤ k → k < length i.vcpus → slice_get m.vcpus k ≡ slice_get i.vcpus k

  -- ---- The eighth: why pages are wanted, queued and picked

  pub record SaysFaults (i : MachineData) (o : List ℕ) (m : MachineData) (b : Book) (queue : List ℕ) : Type 0 where
    pub aims : (j a p : ℕ) (t : Task) → IsTask roles j a t → t.wants ≡ Some p → event_written_page m t.who ≡ Some p
    pub because : (p : ℕ) → IsSought queue b.picked p → IsWanted roles p ⊎ IsWritten i o p
    pub calm : (j a : ℕ) (t : Task) → IsTask roles j a t → NoneSought queue b.picked → t.blocked ≡ 0

  -- ---- The saver's book

  -- one pass has it, which alone is a saver's
  pub record IsSavers (b : Book) : Type 0 where
    pub pass : ℕ
    pub stands : get_elem? roles pass ≡ table.some (Saving b)
    pub alone : (j : ℕ) (other : Book) → get_elem? roles j ≡ table.some (Saving other) → j ≡ pass
