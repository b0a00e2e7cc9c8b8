-- The end of the saver, as plain data, and what its calls leave (this project's own, docs/ARCHITECTURE.md).
use Rattle.std.specs.Prelude.{◌≡◌, ℕ, ◌-◌, ◌^◌, ◌<◌, ◌≤◌, ◌==◌, Bool, true, false, List, [], ◌∷◌, ◌++◌, All, length, get_or, slice_get, slice_set, Option, Some, None, IfSome}
use Rattle.ram_block.specs.PageLinks.{is_listed}
use Rattle.medium.specs.Count.{counted}
use Rattle.page_cell.specs.Plant.{PlantState, picked_after}
use Rattle.page_cell.specs.declared.plant.Pick.{Pick}
use Rattle.page_cell.specs.declared.plant.Pick.TheVariants as picks
use Rattle.page_cell.specs.declared.plant.Taken.{Taken}
use Rattle.page_cell.specs.declared.plant.Taken.TheVariants as takes
use Rattle.write_pipe.specs.Outlet.{OutletData}
use Rattle.write_pipe.specs.Rule.{AreBytesOf}
use Rattle.write_pipe.specs.declared.fetch.Fetch.{Fetch}
use Rattle.write_pipe.specs.declared.fetch.Fetch.TheVariants as fetches
use Rattle.write_pipe.specs.declared.fetch.Discard.{Discard}
use Rattle.write_pipe.specs.declared.fetch.Discard.TheVariants as discards
use Rattle.write_pipe.specs.declared.outlet.InHand.{InHand}
use Rattle.write_pipe.specs.declared.write_end.WriteEnd.TheInside as write_end

-- the end of the queue; the page in hand, with its bytes; which pages are writable, since their take answered Copied, and
-- which a pick has answered; how often a call answered Busy; and how many picks there were, and what the last one answered
pub record WriteData (P : Type 0) : Type 0 where
  pub outlet : OutletData P
  pub hand : Option InHand
  pub writable : List Bool
  pub picked : List Bool
  pub busy : ℕ
  pub picks : ℕ
  pub last : Option Pick

module _ {P R : Type 0} where
  abbrev pub write_end_of : write_end.Inside P R → WriteData P
  write_end_of s = record {
    outlet = s.outlet;
    hand = s.hand;
    writable = s.writable.items;
    picked = s.picked.items;
    busy = s.busy;
    picks = s.picks;
    last = s.last;
  }

-- ---- The calls of a plant

-- whether this page is in hand
abbrev pub is_held : Option InHand → ℕ → Bool
is_held None p = false
is_held (Some hand) p = hand.page == p

-- a pick answers the page in hand
abbrev pub pick_from : Option InHand → Pick
pick_from (Some hand) = picks.Fault hand.page
pick_from None = picks.Busy

-- how often a call answered Busy, after this pick
abbrev pub busy_after : ℕ → Pick → ℕ
busy_after busy picks.Busy = counted busy
busy_after busy (picks.Fault p) = busy
busy_after busy picks.Empty = busy

-- a take copies the page in hand; a writable one is stale
abbrev pub taken_by : (held writable : Bool) → Taken
taken_by true writable = takes.Copied
taken_by false true = takes.Stale
taken_by false false = takes.Busy

-- whether the page is writable
abbrev pub is_open : List Bool → ℕ → Bool
is_open writable p = get_or writable p false

module _ {P : Type 0} where
  -- what a pick that answers so leaves
  abbrev pub with_pick : WriteData P → Pick → WriteData P
  with_pick d answer = record d {
    picked = picked_after d.picked answer;
    busy = busy_after d.busy answer;
    picks = counted d.picks;
    last = Some answer;
  }

  -- what a pick leaves: the page in hand stays there
  abbrev pub after_pick : WriteData P → WriteData P
  after_pick d = with_pick d (pick_from d.hand)

  -- what a take leaves: the page is in hand no more, and writable
  abbrev pub after_take : WriteData P → ℕ → Taken → WriteData P
  after_take d p takes.Copied = record d { hand = None; writable = slice_set d.writable p true }
  after_take d p takes.Stale = d
  after_take d p takes.Busy = record d { busy = counted d.busy }

-- ---- What each end keeps

module _ {P : Type 0} (total : P → ℕ) (opened : P → List Bool) (stands : P → List (List ℕ) → Type 0) (fits : P → Type 0) where
  -- the page in hand came out of the queue and isn't writable yet, and it has its bytes
  pub record IsHeld (outlet : OutletData P) (writable : List Bool) (hand : InHand) : Type 0 where
    pub page : hand.page < total outlet.from
    pub came : is_listed outlet.out hand.page ≡ true
    pub waits : slice_get writable hand.page ≡ Some false
    pub bytes : AreBytesOf total stands outlet.from hand.page hand.bytes

  -- the relay was made over a plant that fitted and of which no page was writable; a writable page came out of the queue
  pub record IsWriteEnd (d : WriteData P) : Type 0 where
    pub origin : fits d.outlet.from
    pub protected : All (λ w. w ≡ false) (opened d.outlet.from)
    pub writable : length d.writable ≡ total d.outlet.from
    pub picked : length d.picked ≡ total d.outlet.from
    pub came : (p : ℕ) → slice_get d.writable p ≡ Some true → is_listed d.outlet.out p ≡ true
    pub hand : IfSome d.hand (IsHeld d.outlet d.writable)
    pub busy : d.busy ≤ 2 ^ 64 - 1

  -- the end as a plant: its queue isn't told
  abbrev pub write_state : WriteData P → PlantState (OutletData P)
  write_state d = record {
    total = total d.outlet.from;
    writable = d.writable;
    picked = d.picked;
    busy = d.busy;
    rest = d.outlet;
    stands = stands d.outlet.from;
    fits = IsWriteEnd d;
    picks = d.picks;
    last = d.last;
    queue = None;
  }

  -- ---- The calls on the queue

  -- the end once a page came out, which is in hand or not
  abbrev pub with_page : WriteData P → ℕ → Option InHand → WriteData P
  with_page d p hand = record d { outlet = record d.outlet { out = d.outlet.out ++ p ∷ [] }; hand = hand }

  -- the end once a pop found the queue empty
  abbrev pub found_empty : WriteData P → WriteData P
  found_empty d = record d { outlet = record d.outlet { found_empty = counted d.outlet.found_empty } }

  -- a page came out, and is in hand with its bytes of the instant
  pub record GotPage (old : WriteData P) (p : ℕ) (held : List ℕ) (new : WriteData P) : Type 0 where
    pub page : p < total old.outlet.from
    pub bytes : AreBytesOf total stands old.outlet.from p held
    pub end : new ≡ with_page old p (Some (record { page = p; bytes = held }))

  -- what a fetch leaves: nothing else changed
  abbrev pub LeavesFetch : WriteData P → Fetch → WriteData P → Type 0
  LeavesFetch old (fetches.Got p) new = (bytes : List ℕ) × GotPage old p bytes new
  LeavesFetch old fetches.Empty new = new ≡ found_empty old

  -- the page in hand is dropped, or one that came out now
  abbrev pub TookPage : WriteData P → Option InHand → ℕ → WriteData P → Type 0
  TookPage old (Some hand) p new = (p ≡ hand.page) × (new ≡ record old { hand = None })
  TookPage old None p new = (p < total old.outlet.from) × (new ≡ with_page old p None)

  -- no page is in hand, and all have come out
  pub record IsDrained (d : WriteData P) : Type 0 where
    pub hand : d.hand ≡ None
    pub all : length d.outlet.out ≡ total d.outlet.from

  -- no page is in hand, and not all have come out
  pub record LacksPage (d : WriteData P) : Type 0 where
    pub hand : d.hand ≡ None
    pub some : length d.outlet.out ≡ total d.outlet.from → ⊥

  -- A page may have come into hand; nothing else changed but the queue.
  pub record BringsPage (old new : WriteData P) : Type 0 where
    pub from : new.outlet.from ≡ old.outlet.from
    pub same : record new { outlet = old.outlet; hand = old.hand } ≡ old
    pub limits : IsWriteEnd new

  -- what a discard leaves
  abbrev pub LeavesDiscard : WriteData P → Discard → WriteData P → Type 0
  LeavesDiscard old (discards.Took p) new = TookPage old old.hand p new
  LeavesDiscard old discards.Again new = (old.hand ≡ None) × (new ≡ found_empty old)
  LeavesDiscard old discards.Done new = new ≡ old
