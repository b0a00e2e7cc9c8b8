-- What a turn of the saver leaves, by its course (this project's own order of writes, docs/FILE_FORMAT.md).
use Rattle.std.specs.Prelude.{◌≡◌, ℕ, ◌+◌, Bool, true, false, List, [], ◌∷◌, slice_get, slice_set, Option, Some, None, if◌then◌else◌}
use Rattle.medium.specs.Count.{HasRisen, counted}
use Rattle.medium.specs.Members.{file_state}
use Rattle.medium.specs.States.{FileState}
use Rattle.medium.specs.declared.readable.Readable as readable
use Rattle.page_sweep.specs.Sweep.{without}
use Rattle.page_cell.specs.Plant.{PlantState, KeepsPlant, CopiesOut, PickCause, PicksFront, picked_after}
use Rattle.page_cell.specs.declared.plant.Pick.{Pick}
use Rattle.page_cell.specs.declared.plant.Pick.TheVariants as picks
use Rattle.flat_machine.specs.Machine.{MachineData}
use Rattle.file_plan.specs.Plan.{page_place}
use Rattle.bg_saver.specs.Saver.{SaverData}
use Rattle.bg_saver.specs.Steps.{AllGoWell, IsCutShort, finish_calls}
use Rattle.bg_saver.specs.Writes.{LeavesWrite, is_zeros, IsRefused, IsRefusedOr}
use Rattle.bg_saver.specs.declared.counts.Counts.{Counts}
use Rattle.bg_saver.specs.declared.progress.PageInHand.{PageInHand}
use Rattle.bg_saver.specs.declared.save_end.SaveEnd.{SaveEnd}
use Rattle.bg_saver.specs.declared.save_end.SaveEnd.TheVariants as ends
use Rattle.bg_saver.specs.declared.turn.Turn.{Turn}
use Rattle.bg_saver.specs.declared.turn.Turn.TheVariants as turns

-- ---- The course of a turn

pub data Course : Type 0 where
  HasEnded : SaveEnd → Course
  Finishes : Course
  Waits : Course
  Takes : PageInHand → Course

-- With a page left, the page in hand is taken; else the one that the pick gave, else the least left.
abbrev pub course_by : Option SaveEnd → List ℕ → Option PageInHand → Option Pick → Course
course_by (Some end) left hand picked = HasEnded end
course_by None [] hand picked = Finishes
course_by None (first ∷ left) (Some hand) picked = Takes hand
course_by None (first ∷ left) None (Some (picks.Fault p)) = Takes (record { page = p; picked = true })
course_by None (first ∷ left) None (Some picks.Empty) = Takes (record { page = first; picked = false })
course_by None (first ∷ left) None _ = Waits

-- by what the last pick answered
abbrev pub course_of : SaverData → Option Pick → Course
course_of d picked = course_by d.end d.left d.hand picked

-- the course of a turn in which a page is left, by the page that it takes
abbrev pub course_to : Option PageInHand → Course
course_to (Some taken) = Takes taken
course_to None = Waits

-- ---- The plant

-- no pick was made
pub record LeavesNoPick {R : Type 0} (old new : PlantState R) : Type 0 where
  pub picked : new.picked ≡ old.picked
  pub picks : new.picks ≡ old.picks
  pub last : new.last ≡ old.last
  pub queue : new.queue ≡ old.queue

-- one pick was made, and answered so
pub record LeavesOnePick {R : Type 0} (old new : PlantState R) (answer : Pick) : Type 0 where
  pub picked : new.picked ≡ picked_after old.picked answer
  pub cause : PickCause old.total old.busy new.busy answer
  pub picks : new.picks ≡ counted old.picks
  pub last : new.last ≡ Some answer
  pub queue : PicksFront old.queue new.queue answer

-- no pick where a page is in hand, else one
abbrev pub LeavesPicks : {R : Type 0} → Option PageInHand → PlantState R → PlantState R → Type 0
LeavesPicks (Some hand) old new = LeavesNoPick old new
LeavesPicks None old new = (answer : Pick) × LeavesOnePick old new answer

-- what the choice of the next page leaves: it is the one of the turn's course
pub record LeavesPicked {R : Type 0} (d : SaverData) (old new : PlantState R) (next : Option PageInHand) : Type 0 where
  pub keeps : KeepsPlant old new
  pub writable : new.writable ≡ old.writable
  pub picks : LeavesPicks d.hand old new
  pub course : course_of d new.last ≡ course_to next

-- ---- The saver

abbrev pub counts_with : Counts → Bool → Counts
counts_with counts true = record { faults = counts.faults + 1; sweep = counts.sweep }
counts_with counts false = record { faults = counts.faults; sweep = counts.sweep + 1 }

-- the page was saved: it is left no more, its bit is set unless it is all zeros, and it is counted by where it came from
abbrev pub after_save : SaverData → PageInHand → Bool → SaverData
after_save d taken zeros = record d {
  left = without d.left taken.page;
  bits = (if zeros then d.bits else slice_set d.bits taken.page true);
  hand = None;
  counts = counts_with d.counts taken.picked;
  faulted = (if taken.picked then slice_set d.faulted taken.page true else d.faulted);
}

-- its write failed: its bit is set, and the save has ended
abbrev pub after_fault : SaverData → ℕ → SaverData
after_fault d p = record d {
  left = without d.left p;
  bits = slice_set d.bits p true;
  hand = None;
  end = Some ends.Failed;
}

-- ---- The turns that take a page

-- the take found the page held: it stays in hand
pub record HoldsPage {R : Type 0} (old : SaverData) (same_file : Type 0) (plant now : PlantState R) (taken : PageInHand) (new : SaverData) : Type 0 where
  pub saver : new ≡ record old { hand = Some taken }
  pub busy : HasRisen plant.busy now.busy
  pub writable : now.writable ≡ plant.writable
  pub file : same_file

-- the page was writable already
pub record SkipsPage {R : Type 0} (old : SaverData) (same_file : Type 0) (plant now : PlantState R) (taken : PageInHand) (new : SaverData) : Type 0 where
  pub saver : new ≡ record old { hand = None }
  pub stale : slice_get plant.writable taken.page ≡ Some true
  pub writable : now.writable ≡ plant.writable
  pub file : same_file

-- no call where the bytes are all zeros, else one write at the page's place
abbrev pub WritesUnless : (zeros : Bool) → (same_file : Type 0) → ℕ → List ℕ → FileState → FileState → Type 0
WritesUnless true same_file at bytes old new = same_file
WritesUnless false same_file at bytes old new = LeavesWrite at bytes true old new

abbrev pub WritesPage : SaverData → (same_file : Type 0) → FileState → FileState → ℕ → List ℕ → Type 0
WritesPage d same_file old new p bytes = WritesUnless (is_zeros bytes) same_file (page_place d.shape.pages p) bytes old new

-- the page was copied out of the plant, and written unless it is all zeros
pub record SavesPage {R : Type 0} (old : SaverData) (same_file : Type 0) (plant now : PlantState R) (old_file new_file : FileState) (taken : PageInHand) (bytes : List ℕ) (new : SaverData) : Type 0 where
  pub saver : new ≡ after_save old taken (is_zeros bytes)
  pub copied : CopiesOut plant now taken.page bytes
  pub file : WritesPage old same_file old_file new_file taken.page bytes

-- the page was copied out of the plant, and its write failed
pub record FailsAtPage {R : Type 0} (old : SaverData) (plant now : PlantState R) (old_file new_file : FileState) (taken : PageInHand) (bytes : List ℕ) (new : SaverData) : Type 0 where
  pub saver : new ≡ after_fault old taken.page
  pub copied : CopiesOut plant now taken.page bytes
  pub some : is_zeros bytes ≡ false
  pub file : LeavesWrite (page_place old.shape.pages taken.page) bytes false old_file new_file

-- what the saver and the file show of a page that was copied with these bytes, by the answer
abbrev pub SavesOrFails : SaverData → (same_file : Type 0) → FileState → FileState → PageInHand → List ℕ → Turn → SaverData → Type 0
SavesOrFails old same_file file file_now taken bytes (turns.Saved p) new =
    (p ≡ taken.page) × (new ≡ after_save old taken (is_zeros bytes)) × WritesPage old same_file file file_now taken.page bytes
SavesOrFails old same_file file file_now taken bytes turns.Failed new =
    (new ≡ after_fault old taken.page) × (is_zeros bytes ≡ false) × LeavesWrite (page_place old.shape.pages taken.page) bytes false file file_now
SavesOrFails old same_file file file_now taken bytes _ new = ⊥

abbrev pub LeavesTaken : {R : Type 0} → SaverData → (same_file : Type 0) → PlantState R → PlantState R → FileState → FileState → PageInHand → Turn → SaverData → Type 0
LeavesTaken old same_file plant now file file_now taken turns.Again new = HoldsPage old same_file plant now taken new
LeavesTaken old same_file plant now file file_now taken (turns.Skipped p) new = (p ≡ taken.page) × SkipsPage old same_file plant now taken new
LeavesTaken old same_file plant now file file_now taken (turns.Saved p) new =
    (p ≡ taken.page) × ((bytes : List ℕ) × SavesPage old same_file plant now file file_now taken bytes new)
LeavesTaken old same_file plant now file file_now taken turns.Failed new = (bytes : List ℕ) × FailsAtPage old plant now file file_now taken bytes new
LeavesTaken old same_file plant now file file_now taken turns.Complete new = ⊥

pub record LeavesTake {R : Type 0} (old : SaverData) (same_file : Type 0) (plant now : PlantState R) (old_file new_file : FileState) (next : PageInHand) (answer : Turn) (new : SaverData) : Type 0 where
  pub keeps : KeepsPlant plant now
  pub picks : LeavesPicks old.hand plant now
  pub taken : LeavesTaken old same_file plant now old_file new_file next answer new

-- ---- The other turns

abbrev pub turn_at : SaveEnd → Turn
turn_at ends.Complete = turns.Complete
turn_at ends.Failed = turns.Failed

-- the save has ended: nothing was touched
pub record LeavesEnded (old : SaverData) (same_plant same_file : Type 0) (end : SaveEnd) (turn : Turn) (new : SaverData) : Type 0 where
  pub answer : turn ≡ turn_at end
  pub saver : new ≡ old
  pub plant : same_plant
  pub file : same_file

-- the queue was found held
pub record LeavesWait {R : Type 0} (old : SaverData) (same_file : Type 0) (plant now : PlantState R) (turn : Turn) (new : SaverData) : Type 0 where
  pub answer : turn ≡ turns.Again
  pub saver : new ≡ old
  pub keeps : KeepsPlant plant now
  pub pick : LeavesOnePick plant now picks.Busy
  pub writable : now.writable ≡ plant.writable
  pub file : same_file

-- no page was left: the calls that finish the file were made, and each answered Ok, or one failed
abbrev pub LeavesFile : {M : Type 0} → readable.Ghosts M → SaverData → M → M → SaveEnd → Type 0
LeavesFile g d file now ends.Complete = AllGoWell g (finish_calls d) file now
LeavesFile g d file now ends.Failed = IsCutShort g (finish_calls d) file now

pub record LeavesFinish {M : Type 0} (g : readable.Ghosts M) (old : SaverData) (old_file new_file : M) (end : SaveEnd) (turn : Turn) (new : SaverData) : Type 0 where
  pub answer : turn ≡ turn_at end
  pub saver : new ≡ record old { end = Some end }
  pub file : LeavesFile g old old_file new_file end

abbrev pub LeavesCourse : {R M : Type 0} → readable.Ghosts M → SaverData → (same_plant : Type 0) → PlantState R → PlantState R → M → M → Course → Turn → SaverData → Type 0
LeavesCourse g old same_plant plant now file file_now (HasEnded end) answer new = LeavesEnded old same_plant (file_now ≡ file) end answer new
LeavesCourse g old same_plant plant now file file_now Finishes answer new = same_plant × ((end : SaveEnd) × LeavesFinish g old file file_now end answer new)
LeavesCourse g old same_plant plant now file file_now Waits answer new = LeavesWait old (file_now ≡ file) plant now answer new
LeavesCourse g old same_plant plant now file file_now (Takes taken) answer new =
    LeavesTake old (file_now ≡ file) plant now (file_state g file) (file_state g file_now) taken answer new

-- What a turn leaves: the saver before it, whether the plant is the very same, the plant and the file before and after
-- it, its answer, and the saver after it.
abbrev pub LeavesTurn : {R M : Type 0} → readable.Ghosts M → SaverData → (same_plant : Type 0) → PlantState R → PlantState R → M → M → Turn → SaverData → Type 0
LeavesTurn g old same_plant plant now file file_now answer new =
    LeavesCourse g old same_plant plant now file file_now (course_of old now.last) answer new

-- what a crash may leave of a turn: a file that is refused; where no page was left, also that of the machine
abbrev pub MayBeLeft : List ℕ → MachineData → List ℕ → Type 0
MayBeLeft [] i image = IsRefusedOr i image
MayBeLeft (p ∷ left) i image = IsRefused image
