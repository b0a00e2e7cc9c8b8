-- The end of the copier, as plain data, and what its turns leave (this project's own, docs/ARCHITECTURE.md).
use Rattle.std.specs.Prelude.{◌≡◌, ℕ, ◌+◌, ◌<◌, not, Bool, true, false, List, [], ◌∷◌, ◌++◌, length, slice_get, slice_set, Option, Some, None, IfSome, if◌then◌else◌}
use Rattle.std.specs.List.{count_by}
use Rattle.ram_block.specs.PageLinks.{is_listed}
use Rattle.medium.specs.Count.{HasRisen, counted}
use Rattle.page_sweep.specs.Sweep.{IsSweep, without}
use Rattle.page_cell.specs.Plant.{PlantState, KeepsPlant, CopiesOut}
use Rattle.page_cell.specs.declared.plant.Pick.{Pick}
use Rattle.page_cell.specs.declared.plant.Pick.TheVariants as picks
use Rattle.bg_saver.specs.Turn.{LeavesNoPick, LeavesOnePick, counts_with}
use Rattle.bg_saver.specs.declared.counts.Counts.{Counts}
use Rattle.write_pipe.specs.Inlet.{InletData}
use Rattle.write_pipe.specs.Rule.{AreBytesOf}
use Rattle.write_pipe.specs.declared.copy_turn.CopyTurn.{CopyTurn}
use Rattle.write_pipe.specs.declared.copy_turn.CopyTurn.TheVariants as turns
use Rattle.write_pipe.specs.declared.copy_end.CopyEnd.TheInside as copy_end
use Rattle.write_pipe.specs.declared.copy_end.Wanted.{Wanted}
use Rattle.write_pipe.specs.declared.outlet.InHand.{InHand}

-- the end of the queue; the pages left, in ascending order; the page in hand that was copied and is to be pushed; the page
-- from an Again; the counts, with a flag for each page that `faults` counts; and how often a pop found no spare buffer
pub record CopyData (P : Type 0) : Type 0 where
  pub inlet : InletData P
  pub left : List ℕ
  pub hand : Option InHand
  pub wanted : Option Wanted
  pub counts : Counts
  pub faulted : List Bool
  pub found_none : ℕ

module _ {P R : Type 0} where
  abbrev pub copy_end_of : copy_end.Inside P R → CopyData P
  copy_end_of s = record {
    inlet = s.inlet;
    left = s.sweep.list;
    hand = s.hand;
    wanted = s.wanted;
    counts = s.counts;
    faulted = s.faulted.items;
    found_none = s.found_none;
  }

-- ---- What each end keeps

module _ {P : Type 0} (count : P → ℕ) (stood : P → List (List ℕ) → Type 0) where
  -- the page in hand was copied and wasn't sent, and it has its bytes
  pub record IsCopied (inlet : InletData P) (left : List ℕ) (hand : InHand) : Type 0 where
    pub page : hand.page < count inlet.from
    pub first : is_listed inlet.sent hand.page ≡ false
    pub copied : is_listed left hand.page ≡ false
    pub bytes : AreBytesOf count stood inlet.from hand.page hand.bytes

  -- a page that was sent is left no more; each page is left or was copied, and each one that was copied is counted
  pub record IsCopyEnd (d : CopyData P) : Type 0 where
    pub sweep : IsSweep (record { pages = count d.inlet.from; list = d.left })
    pub sent : (p : ℕ) → is_listed d.inlet.sent p ≡ true → is_listed d.left p ≡ false
    pub hand : IfSome d.hand (IsCopied d.inlet d.left)
    pub wanted : IfSome d.wanted (λ w. w.page < count d.inlet.from)
    pub faulted : length d.faulted ≡ count d.inlet.from
    pub faults : d.counts.faults ≡ count_by (λ flag. flag) d.faulted
    pub copied : (p : ℕ) → slice_get d.faulted p ≡ Some true → is_listed d.left p ≡ false
    pub all : d.counts.faults + d.counts.sweep + length d.left ≡ count d.inlet.from

  -- The plant is that of this end: its writable pages are those that aren't left, and its pick has answered the pages that
  -- `faults` counts, and a picked page from an Again.
  pub record IsOfCopy {R : Type 0} (d : CopyData P) (plant : PlantState R) : Type 0 where
    pub fits : plant.fits
    pub total : plant.total ≡ count d.inlet.from
    pub stands : (pages : List (List ℕ)) → stood d.inlet.from pages → plant.stands pages
    pub writable : (p : ℕ) → p < count d.inlet.from → slice_get plant.writable p ≡ Some (not (is_listed d.left p))
    pub picked : (p : ℕ) → slice_get d.faulted p ≡ Some true → slice_get plant.picked p ≡ Some true
    pub wanted : IfSome d.wanted (λ w. w.picked ≡ true → slice_get plant.picked w.page ≡ Some true)

  -- the sweep is one over all pages of the plant
  pub record IsCopyInside {R : Type 0} (s : copy_end.Inside P R) : Type 0 where
    pub end : IsCopyEnd (copy_end_of s)
    pub swept : s.sweep.pages ≡ s.pages
    pub pages : s.pages ≡ count s.inlet.from

-- ---- What a turn leaves

-- The page that is taken: the one from an Again, else the picked one, else the least left; none where the plant's queue was
-- found held.
abbrev pub choice : Option Wanted → ℕ → Option Pick → Option Wanted
choice (Some wanted) first last = Some wanted
choice None first (Some (picks.Fault p)) = Some (record { page = p; picked = true })
choice None first (Some picks.Empty) = Some (record { page = first; picked = false })
choice None first (Some picks.Busy) = None
choice None first None = None

-- no pick where there is a page from an Again, else one
abbrev pub LeavesPicks : {R : Type 0} → Option Wanted → PlantState R → PlantState R → Type 0
LeavesPicks (Some wanted) plant now = LeavesNoPick plant now
LeavesPicks None plant now = (answer : Pick) × LeavesOnePick plant now answer

-- what the choice of the next page leaves of the plant
pub record LeavesPicked {R : Type 0} (wanted : Option Wanted) (first : ℕ) (plant now : PlantState R) (next : Option Wanted) : Type 0 where
  pub keeps : KeepsPlant plant now
  pub writable : now.writable ≡ plant.writable
  pub picks : LeavesPicks wanted plant now
  pub course : next ≡ choice wanted first now.last
  pub busy : next ≡ None → HasRisen plant.busy now.busy

module _ {P : Type 0} where
  -- the page in hand went in
  abbrev pub after_push : CopyData P → ℕ → CopyData P
  after_push d p = record d { inlet = record d.inlet { sent = d.inlet.sent ++ p ∷ [] }; hand = None }

  -- a push found the queue full: the page stays in hand
  abbrev pub after_full : CopyData P → InHand → CopyData P
  after_full d hand = record d { inlet = record d.inlet { found_full = counted d.inlet.found_full }; hand = Some hand }

  -- a page was copied: it is left no more, and counted by where it came from
  abbrev pub without_page : CopyData P → Wanted → CopyData P
  without_page d taken = record d {
    left = without d.left taken.page;
    wanted = None;
    counts = counts_with d.counts taken.picked;
    faulted = (if taken.picked then slice_set d.faulted taken.page true else d.faulted);
  }

  -- a spare buffer was there, or a pop found none
  abbrev pub LeavesSpare : CopyData P → (found : Bool) → CopyData P → Type 0
  LeavesSpare old true new = new ≡ old
  LeavesSpare old false new = new ≡ record old { found_none = counted old.found_none }

  -- what a push of the page in hand leaves
  abbrev pub LeavesPush : CopyData P → InHand → CopyTurn → CopyData P → Type 0
  LeavesPush old hand (turns.Passed p) new = (p ≡ hand.page) × (new ≡ after_push old p)
  LeavesPush old hand turns.Full new = new ≡ after_full old hand
  LeavesPush old hand _ new = ⊥

  -- what a take of this page leaves: where it was copied, a push of it came behind
  abbrev pub LeavesTaken : {R : Type 0} → CopyData P → PlantState R → PlantState R → Wanted → CopyTurn → CopyData P → Type 0
  LeavesTaken old plant now taken turns.Again new = (new ≡ record old { wanted = Some taken }) × HasRisen plant.busy now.busy × (now.writable ≡ plant.writable)
  LeavesTaken old plant now taken (turns.Skipped p) new =
      (p ≡ taken.page) × (new ≡ record old { wanted = None }) × (slice_get plant.writable p ≡ Some true) × (now.writable ≡ plant.writable)
  LeavesTaken old plant now taken (turns.Passed p) new =
      (p ≡ taken.page) × ((bytes : List ℕ) × CopiesOut plant now p bytes × (new ≡ after_push (without_page old taken) p))
  LeavesTaken old plant now taken turns.Full new =
      (bytes : List ℕ) × CopiesOut plant now taken.page bytes × (new ≡ after_full (without_page old taken) (record { page = taken.page; bytes = bytes }))
  LeavesTaken old plant now taken _ new = ⊥

  abbrev pub LeavesChoice : {R : Type 0} → CopyData P → PlantState R → PlantState R → Option Wanted → CopyTurn → CopyData P → Type 0
  LeavesChoice old plant now (Some taken) answer new = LeavesTaken old plant now taken answer new
  LeavesChoice old plant now None answer new = (answer ≡ turns.Again) × (new ≡ old) × HasRisen plant.busy now.busy × (now.writable ≡ plant.writable)

  -- a turn that takes a page, of which this is the least left
  pub record TakesPage {R : Type 0} (old : CopyData P) (first : ℕ) (plant now : PlantState R) (answer : CopyTurn) (new : CopyData P) : Type 0 where
    pub keeps : KeepsPlant plant now
    pub picks : LeavesPicks old.wanted plant now
    pub taken : LeavesChoice old plant now (choice old.wanted first now.last) answer new

  -- where a page is left: a pop found no spare buffer and nothing else changed, or a page is taken
  abbrev pub LeavesNext : {R : Type 0} → CopyData P → (same_plant : Type 0) → ℕ → PlantState R → PlantState R → CopyTurn → CopyData P → Type 0
  LeavesNext old same_plant first plant now turns.NoSpare new = (new ≡ record old { found_none = counted old.found_none }) × same_plant
  LeavesNext old same_plant first plant now answer new = TakesPage old first plant now answer new

  -- What a turn leaves: a page in hand is pushed; else, where a page is left, one is taken and pushed; else it is done.
  abbrev pub LeavesTurnBy : {R : Type 0} → Option InHand → List ℕ → CopyData P → (same_plant : Type 0) → PlantState R → PlantState R → CopyTurn → CopyData P → Type 0
  LeavesTurnBy (Some hand) left old same_plant plant now answer new = LeavesPush old hand answer new × same_plant
  LeavesTurnBy None [] old same_plant plant now answer new = (answer ≡ turns.Done) × (new ≡ old) × same_plant
  LeavesTurnBy None (first ∷ left) old same_plant plant now answer new = LeavesNext old same_plant first plant now answer new

  abbrev pub LeavesTurn : {R : Type 0} → CopyData P → (same_plant : Type 0) → PlantState R → PlantState R → CopyTurn → CopyData P → Type 0
  LeavesTurn old same_plant plant now answer new = LeavesTurnBy old.hand old.left old same_plant plant now answer new
