-- What each call leaves, by its answer (this project's own, docs/ARCHITECTURE.md).
use Rattle.std.specs.Prelude.{◌≡◌, ◌≢◌, ℕ, ◌+◌, ◌<◌, ◌≤◌, false, List, [], ◌∷◌, ◌++◌, length, slice_get, Option, Some, None, IfSome, Result, Ok, Err}
use Rattle.medium.specs.Count.{HasRisen}
use Rattle.medium.specs.States.{FileState, Leaves}
use Rattle.ram_block.specs.PageLinks.{is_listed}
use Rattle.ram_block.specs.Shape.{total_pages_of}
use Rattle.ram_block.specs.declared.page_buf.TheConstants.{PAGE}
use Rattle.flat_machine.specs.Cell.{PageCell}
use Rattle.flat_machine.specs.Laws.{event_cell}
use Rattle.flat_machine.specs.Machine.{IsMachine, MachineData, Rest}
use Rattle.flat_machine.specs.Next.{next}
use Rattle.flat_machine.specs.Page.{with_page}
use Rattle.flat_machine.specs.Run.{steps_of}
use Rattle.flat_machine.specs.Touched.{with_cell}
use Rattle.flat_machine.specs.declared.step.Stepped.{Stepped}
use Rattle.flat_machine.specs.declared.step.Stepped.TheVariants as steps
use Rattle.file_plan.specs.Layout.{Lay}
use Rattle.loader.specs.Frame.{FrameData}
use Rattle.loader.specs.Loaded.{loaded}
use Rattle.loader.specs.Piece.{Refuses}
use Rattle.loader.specs.declared.refusal.LoadFault.{LoadFault}
use Rattle.loader.specs.declared.refusal.LoadFault.TheVariants as loads
use Rattle.page_peek.specs.Peeked.{IsCutPage, page_in}
use Rattle.page_peek.specs.declared.fault.PageFault.{PageFault}
use Rattle.page_peek.specs.declared.fault.PageFault.TheVariants as pages
use Rattle.lazy_restore.specs.Lazy.{IsLazy, IsWhole, LazyData, shown}
use Rattle.lazy_restore.specs.Rest.{IsCutPageAt, IsFirstCut}
use Rattle.lazy_restore.specs.declared.answer.LazyStep.{LazyStep}
use Rattle.lazy_restore.specs.declared.answer.LazyStep.TheVariants.{Event, Halted, Truncated, ReadFault}

-- ---- Open

-- the machine of which the file is a layout is shown
pub record ShowsLoaded (file : List ℕ) (d : LazyData) : Type 0 where
  pub loads : loaded file ≡ Ok (shown file d)
  pub layout : Lay file (shown file d)
  pub whole : IsWhole file d

-- what is held of a frame before the first event
pub record IsHeldOf (frame : FrameData) (d : LazyData) : Type 0 where
  pub machine : d.machine ≡ record { shape = frame.shape; ram = d.machine.ram; vcpus = frame.devices.vcpus; serial = frame.devices.serial; cmp = frame.devices.cmp; clock = frame.devices.clock }
  pub peek : d.peek ≡ record { shape = frame.shape; bits = frame.bits }
  pub untouched : d.touched ≡ []
  pub rest : Rest d.machine
  pub lazy : IsLazy d

-- no page was touched, and the machine is at rest
pub record Opens (told : Option (List ℕ)) (d : LazyData) : Type 0 where
  pub lazy : IsLazy d
  pub untouched : d.touched ≡ []
  pub rest : Rest d.machine
  pub shows : IfSome told (λ file. ShowsLoaded file d)

-- the file was only looked at, and is refused as a loader refuses it
pub record FailsToOpen (old : FileState) (fault : LoadFault) (new : FileState) : Type 0 where
  pub refused : IfSome old.told (λ file. Refuses (loaded file) fault)
  pub risen : fault ≡ loads.ReadFault → HasRisen old.faults new.faults
  pub leaves : Leaves old new

-- ---- Step

-- one event of vCPU k: the machine shown is the next one, and the page that the event touches is among those touched
pub record Steps (told : Option (List ℕ)) (old : LazyData) (k : ℕ) (new : LazyData) : Type 0 where
  pub shown : IfSome told (λ file. IsWhole file old → next (shown file old) k ≡ Some (shown file new))
  pub touched : new.touched ≡ with_cell old.touched (event_cell old.machine k)
  pub peek : new.peek ≡ old.peek
  pub shape : new.machine.shape ≡ old.machine.shape
  pub clock : new.machine.clock ≡ old.machine.clock + 1
  pub steps : steps_of new.machine k ≤ steps_of old.machine k + 1
  pub others : (j : ℕ) → j ≢ k → slice_get new.machine.vcpus j ≡ slice_get old.machine.vcpus j

-- the next event of vCPU k touches a page for the first time, in which the file ends
pub record IsCutAt (told : Option (List ℕ)) (d : LazyData) (k at : ℕ) : Type 0 where
  pub page : ℕ
  pub touches : event_cell d.machine k ≡ Some (PageCell page)
  pub new : is_listed d.touched page ≡ false
  pub cut : IsCutPageAt told d.peek page at

abbrev pub LeavesStep : FileState → FileState → LazyData → ℕ → LazyStep → LazyData → Type 0
LeavesStep file now old k Event new = Steps file.told old k new
LeavesStep file now old k Halted new = new ≡ old
LeavesStep file now old k (Truncated at) new = (new ≡ old) × IsCutAt file.told old k at
LeavesStep file now old k ReadFault new = (new ≡ old) × HasRisen file.faults now.faults

-- the page that the file has is put in, and is touched
pub record Touches (told : Option (List ℕ)) (old : LazyData) (p : ℕ) (new : LazyData) : Type 0 where
  pub page : List ℕ
  pub whole : length page ≡ PAGE
  pub read : IfSome told (λ file. page ≡ page_in file old.peek p)
  pub machine : new.machine ≡ record old.machine { ram = with_page old.machine.ram p page }
  pub peek : new.peek ≡ old.peek
  pub touched : new.touched ≡ old.touched ++ p ∷ []

abbrev pub LeavesTouch : FileState → FileState → LazyData → ℕ → Result (Unit {0}) PageFault → LazyData → Type 0
LeavesTouch file now old p (Ok done) new = Touches file.told old p new
LeavesTouch file now old p (Err (pages.Truncated at)) new = (new ≡ old) × IsCutPageAt file.told old.peek p at
LeavesTouch file now old p (Err pages.ReadFault) new = (new ≡ old) × HasRisen file.faults now.faults

-- before an event: the page that it touches is put in, where it wasn't touched so far
abbrev pub LeavesReach : FileState → FileState → LazyData → Option ℕ → Result (Unit {0}) PageFault → LazyData → Type 0
LeavesReach file now old None result new = (result ≡ Ok tt) × (new ≡ old)
LeavesReach file now old (Some p) result new = LeavesTouch file now old p result new

-- the answer of an event, and of a page that wasn't read
abbrev pub step_of : Stepped → LazyStep
step_of steps.Event = Event
step_of steps.Halted = Halted

abbrev pub failed_step : PageFault → LazyStep
failed_step (pages.Truncated at) = Truncated at
failed_step pages.ReadFault = ReadFault

-- ---- Finish

-- the machine shown, which is the one held but for the pages that weren't touched
pub record Finishes (told : Option (List ℕ)) (d : LazyData) (m : MachineData) : Type 0 where
  pub shown : IfSome told (λ file. m ≡ shown file d)
  pub uncut : IfSome told (λ file. (p : ℕ) → p < total_pages_of d.peek.shape → is_listed d.touched p ≡ false → ¬ IsCutPage file d.peek p)
  pub held : m ≡ record d.machine { ram = m.ram }
  pub limits : IsMachine m

abbrev pub LeavesFinish : FileState → FileState → LazyData → Result MachineData PageFault → Type 0
LeavesFinish file now d (Ok m) = Finishes file.told d m
LeavesFinish file now d (Err (pages.Truncated at)) = IsFirstCut file.told d.peek d.touched at
LeavesFinish file now d (Err pages.ReadFault) = HasRisen file.faults now.faults
