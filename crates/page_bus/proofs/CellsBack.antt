-- The cells of a machine, moved back.
use Rattle.std.proofs.Common.{◌≡◌, ℕ, ◌+◌, ◌<◌, Bool, true, List, [], ◌∷◌, ◌++◌, All, get_or, length, map, take, Some, sym, ◌∙◌, ap, subst, arith, length-append}
use Rattle.std.specs.List.{slice_get}
use Rattle.std.specs.Option.{option_map}
use Rattle.std.proofs.lemmas.List.{length-map}
use Rattle.std.proofs.lemmas.Option.{get_or_from_slice_get, slice_get-get_or, slice_get-map}
use Rattle.ram_block.specs.Shape.{total_pages_of, ram_bytes_of}
use Rattle.wp_fault.specs.Queue.{QueueData}
use Rattle.flat_machine.specs.Cell as flat
use Rattle.flat_machine.specs.Cell.{CellName, PageCell, SerialCell, TimerCell, content}
use Rattle.flat_machine.specs.Laws.{IsCellOf, ServesAll}
use Rattle.flat_machine.specs.Machine.{MachineData, page_of}
use Rattle.flat_machine.specs.Page.{joined, page_at}
use Rattle.flat_machine.proofs.Inside.{length-page_of}
use Rattle.flat_machine.proofs.Pages.{AreWhole, page_at-joined}
use Rattle.flat_machine.proofs.SameMachine.{same_machine}
use Rattle.page_cell.specs.Cell.{IsPage, bytes_in}
use Rattle.page_cell.specs.declared.cell.Cell.{Cell}
use Rattle.page_cell.specs.declared.cell.Cell.TheVariants as cells
use Rattle.bus_rule.specs.Kept.{device_due, phase_of}
use Rattle.bus_rule.proofs.Dues.{due_behind, due_page}
use Rattle.page_bus.specs.Moves.{AreCellsOf}
use Rattle.page_bus.proofs.Lists.{front_get, last_off}

module _ (m : MachineData) (writable : List Bool) (queue : List ℕ) (all : List Cell) (of : AreCellsOf m writable queue all) where
  its : (k : ℕ) → k < 3 → slice_get all (total_pages_of m.shape + k) ≡ device_due m (length writable) queue k
  its k below =
      of.each (total_pages_of m.shape + k) (omega (arith, below))
      ∙ due_behind m writable queue (total_pages_of m.shape + k) k (ap (λ n. n + k) (sym of.flags))

  abbrev pub faults : QueueData
  faults = record { pages = length writable; list = queue }

  abbrev pub before_faults : List Cell
  before_faults = take (total_pages_of m.shape + 2) all

  abbrev pub before_timer : List Cell
  before_timer = take (total_pages_of m.shape + 1) before_faults

  abbrev pub in_pages : List Cell
  in_pages = take (total_pages_of m.shape) before_timer

  pub ends_with_faults : all ≡ before_faults ++ cells.Faults faults ∷ []
  ends_with_faults = last_off (total_pages_of m.shape + 2) all (cells.Faults faults) (of.count ∙ omega arith) (its 2 (omega arith))

  faults_count : length before_faults ≡ total_pages_of m.shape + 2
  faults_count =
      let e = sym (length-append before_faults (cells.Faults faults ∷ [])) ∙ ap length (sym ends_with_faults) ∙ of.count in omega (arith, e)

  pub ends_with_timer : before_faults ≡ before_timer ++ cells.Timer m.cmp ∷ []
  ends_with_timer =
      last_off (total_pages_of m.shape + 1) before_faults (cells.Timer m.cmp) (faults_count ∙ omega arith)
      (front_get (total_pages_of m.shape + 2) all (total_pages_of m.shape + 1) (omega arith) ∙ its 1 (omega arith))

  timer_count : length before_timer ≡ total_pages_of m.shape + 1
  timer_count =
      let e = sym (length-append before_timer (cells.Timer m.cmp ∷ [])) ∙ ap length (sym ends_with_timer) ∙ faults_count in omega (arith, e)

  pub ends_with_serial : before_timer ≡ in_pages ++ cells.Serial m.serial ∷ []
  ends_with_serial =
      let e : total_pages_of m.shape ≡ total_pages_of m.shape + 0 = omega arith in
      last_off (total_pages_of m.shape) before_timer (cells.Serial m.serial) timer_count
      (front_get (total_pages_of m.shape + 1) before_faults (total_pages_of m.shape) (omega arith)
      ∙ front_get (total_pages_of m.shape + 2) all (total_pages_of m.shape) (omega arith)
      ∙ ap (slice_get all) e ∙ its 0 (omega arith))

  pub pages_count : length in_pages ≡ total_pages_of m.shape
  pages_count =
      let e = sym (length-append in_pages (cells.Serial m.serial ∷ [])) ∙ ap length (sym ends_with_serial) ∙ timer_count in omega (arith, e)

  -- page p of them
  page_is : (p : ℕ) → p < total_pages_of m.shape → slice_get in_pages p ≡ Some (cells.Page (page_of m p) (phase_of (get_or writable p true)))
  page_is p below =
      front_get (total_pages_of m.shape) before_timer p below
      ∙ front_get (total_pages_of m.shape + 1) before_faults p (omega (arith, below))
      ∙ front_get (total_pages_of m.shape + 2) all p (omega (arith, below))
      ∙ of.each p (omega (arith, below))
      ∙ due_page m writable queue p (get_or writable p true) (slice_get-get_or writable p true (let f = of.flags in omega (arith, below, f)))

  pub are_pages : All IsPage in_pages
  are_pages k d below =
      subst IsPage (sym (get_or_from_slice_get in_pages k _ d (page_is k (let e = pages_count in omega (arith, below, e))))) tt

  page_bytes : (p : ℕ) (d : List ℕ) → p < total_pages_of m.shape → get_or (map bytes_in in_pages) p d ≡ page_of m p
  page_bytes p d below = get_or_from_slice_get (map bytes_in in_pages) p (page_of m p) d (slice_get-map bytes_in in_pages p ∙ ap (option_map bytes_in) (page_is p below))

  bytes_count : length (map bytes_in in_pages) ≡ total_pages_of m.shape
  bytes_count = length-map in_pages bytes_in ∙ pages_count

  -- the machine with these pages is the machine
  module _ (serves : ServesAll m) (result : MachineData) (shape : result.shape ≡ m.shape) (ram : result.ram ≡ joined (map bytes_in in_pages)) (vcpus : result.vcpus ≡ m.vcpus)
      (serial : result.serial ≡ m.serial) (cmp : result.cmp ≡ m.cmp) (clock : result.clock ≡ m.clock) (size : length result.ram ≡ ram_bytes_of result.shape) where
    whole : AreWhole (map bytes_in in_pages)
    whole p d below =
        let h : p < total_pages_of m.shape = (let e = bytes_count in omega (arith, below, e)) in
        ap length (page_bytes p d h) ∙ length-page_of m p serves.ram h

    same_cell : (c : CellName) → IsCellOf m.shape c → content result c ≡ content m c
    same_cell (PageCell p) below =
        ap flat.Page
        (ap (λ r. page_at r p) ram
        ∙ page_at-joined (map bytes_in in_pages) p [] whole (let e = bytes_count in omega (arith, below, e))
        ∙ page_bytes p [] below)
    same_cell SerialCell below = ap flat.Serial serial
    same_cell TimerCell below = ap flat.Timer cmp

    pub is_whole : result ≡ m
    is_whole = same_machine m result (record { shape = shape; vcpus = vcpus; clock = clock; ram = serves.ram; other_ram = size; cells = same_cell })
