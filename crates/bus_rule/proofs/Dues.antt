-- What each cell has to contain, when the machine, the flags or the queue change.
use Rattle.std.proofs.Common.{◌≡◌, ◌≢◌, inl, inr, ℕ, zero, suc, ◌+◌, ◌-◌, ◌<◌, Bool, true, false, List, get_or, length, set, Some, refl, sym, ◌∙◌, ap, subst, arith}
use Rattle.std.specs.List.{slice_get}
use Rattle.std.proofs.lemmas.Bool.{cases_lt}
use Rattle.std.proofs.lemmas.List.{length-set}
use Rattle.std.proofs.lemmas.Option.{none-some, same_Some, slice_get_within, slice_get_past, slice_get-get_or}
use Rattle.rv64i_step.specs.declared.request.Request.{Request}
use Rattle.flat_machine.specs.Cell as flat
use Rattle.flat_machine.specs.Cell.{CellName, PageCell, SerialCell, TimerCell, content, content_after}
use Rattle.flat_machine.specs.Machine.{MachineData, page_of}
use Rattle.flat_machine.proofs.Events.{slice_get-set_same, slice_get-set_other}
use Rattle.page_cell.specs.Cell.{cell_after, content_of}
use Rattle.page_cell.specs.declared.cell.Cell.{Cell}
use Rattle.page_cell.specs.declared.cell.Cell.TheVariants as cells
use Rattle.page_cell.specs.declared.phase.Phase.{Phase}
use Rattle.page_cell.specs.declared.phase.Phase.TheVariants.{Protected, Writable}
use Rattle.wp_fault.specs.Queue.{QueueData}
use Rattle.bus_rule.specs.Plays.{IsKind}
use Rattle.ram_block.specs.declared.page_buf.TheConstants.{PAGE}
use Rattle.bus_rule.specs.Kept.{cell_number, queue_number, phase_of, device_due, due_by, due}

-- ---- One cell

-- a page
pub due_page : (m : MachineData) (writable : List Bool) (queue : List ℕ) (p : ℕ) (w : Bool) → slice_get writable p ≡ Some w →
    due m writable queue p ≡ Some (cells.Page (page_of m p) (phase_of w))
unfolding due
due_page m writable queue p w flag = ap (due_by m (length writable) queue p) flag

-- what stands behind the pages
pub due_behind : (m : MachineData) (writable : List Bool) (queue : List ℕ) (c k : ℕ) → c ≡ length writable + k →
    due m writable queue c ≡ device_due m (length writable) queue k
unfolding due
due_behind m writable queue c k place =
    let at : c - length writable ≡ k = omega (arith, place) in
    ap (due_by m (length writable) queue c) (slice_get_past writable c (omega (arith, place)))
    ∙ ap (device_due m (length writable) queue) at

-- a cell is a page, with its flag, or stands behind the pages
pub data IsAt (writable : List Bool) (c : ℕ) : Type 0 where
  AtPage : (w : Bool) → slice_get writable c ≡ Some w → IsAt writable c
  Behind : (k : ℕ) → c ≡ length writable + k → IsAt writable c

pub is_at : (writable : List Bool) (c : ℕ) → IsAt writable c
is_at writable c =
    elim (cases_lt c (length writable)) as (λ _. IsAt writable c) [
      | inl within ↦ AtPage (get_or writable c true) (slice_get-get_or writable c true within)
      | inr past ↦ Behind (c - length writable) (omega (arith, past))
    ]

-- what is due for a cell of the machine has its content
pub due_content : (m : MachineData) (writable : List Bool) (queue : List ℕ) (d : CellName) (x : Cell) → ((p : ℕ) → d ≡ PageCell p → p < length writable) →
    due m writable queue (cell_number (length writable) d) ≡ Some x → content_of x ≡ Some (content m d)
due_content m writable queue (PageCell p) x inside is =
    let flag = slice_get-get_or writable p true (inside p refl) in
    ap content_of (sym (same_Some (cells.Page (page_of m p) (phase_of (get_or writable p true))) x (sym (due_page m writable queue p (get_or writable p true) flag) ∙ is)))
due_content m writable queue SerialCell x inside is =
    ap content_of (sym (same_Some (cells.Serial m.serial) x (sym (due_behind m writable queue (length writable) 0 (omega arith)) ∙ is)))
due_content m writable queue TimerCell x inside is =
    ap content_of (sym (same_Some (cells.Timer m.cmp) x (sym (due_behind m writable queue (length writable + 1) 1 refl) ∙ is)))

-- ---- An event

-- the cell that it touches
pub due_after : (m after : MachineData) (writable : List Bool) (queue : List ℕ) (d : CellName) (r : Request) (x : Cell) → ((p : ℕ) → d ≡ PageCell p → p < length writable) →
    due m writable queue (cell_number (length writable) d) ≡ Some x → content after d ≡ content_after r (content m d) →
    due after writable queue (cell_number (length writable) d) ≡ Some (cell_after r x)
unfolding cell_after content_after
due_after m after writable queue (PageCell p) r x inside is made =
    let w = get_or writable p true in
    let flag = slice_get-get_or writable p true (inside p refl) in
    let page : page_of after p ≡ flat.page_after r (page_of m p) = cc made in
    due_page after writable queue p w flag
    ∙ ap (λ bytes. Some (cells.Page bytes (phase_of w))) page
    ∙ ap (λ y. Some (cell_after r y)) (same_Some (cells.Page (page_of m p) (phase_of w)) x (sym (due_page m writable queue p w flag) ∙ is))
due_after m after writable queue SerialCell r x inside is made =
    let serial : after.serial ≡ flat.serial_after r m.serial = cc made in
    due_behind after writable queue (length writable) 0 (omega arith)
    ∙ ap (λ s. Some (cells.Serial s)) serial
    ∙ ap (λ y. Some (cell_after r y)) (same_Some (cells.Serial m.serial) x (sym (due_behind m writable queue (length writable) 0 (omega arith)) ∙ is))
due_after m after writable queue TimerCell r x inside is made =
    let cmp : after.cmp ≡ flat.timer_after r m.cmp = cc made in
    due_behind after writable queue (length writable + 1) 1 refl
    ∙ ap (λ t. Some (cells.Timer t)) cmp
    ∙ ap (λ y. Some (cell_after r y)) (same_Some (cells.Timer m.cmp) x (sym (due_behind m writable queue (length writable + 1) 1 refl) ∙ is))

-- a cell that it doesn't touch
behind_same : (m after : MachineData) (pages : ℕ) (queue : List ℕ) (k : ℕ) → (k ≡ 0 → content after SerialCell ≡ content m SerialCell) →
    (k ≡ 1 → content after TimerCell ≡ content m TimerCell) → device_due after pages queue k ≡ device_due m pages queue k
behind_same m after pages queue zero serial timer = (let e : after.serial ≡ m.serial = cc (serial refl) in ap (λ s. Some (cells.Serial s)) e)
behind_same m after pages queue (suc zero) serial timer = (let e : after.cmp ≡ m.cmp = cc (timer refl) in ap (λ t. Some (cells.Timer t)) e)
behind_same m after pages queue (suc (suc zero)) serial timer = refl
behind_same m after pages queue (suc (suc (suc k))) serial timer = refl

pub due_same : (m after : MachineData) (writable : List Bool) (queue : List ℕ) (c : ℕ) →
    ((d : CellName) → c ≡ cell_number (length writable) d → content after d ≡ content m d) → due after writable queue c ≡ due m writable queue c
due_same m after writable queue c same =
    elim (is_at writable c) as (λ _. due after writable queue c ≡ due m writable queue c) [
      | AtPage w flag ↦
          (let page : page_of after c ≡ page_of m c = cc (same (PageCell c) refl) in
          due_page after writable queue c w flag ∙ ap (λ bytes. Some (cells.Page bytes (phase_of w))) page ∙ sym (due_page m writable queue c w flag))
      | Behind k place ↦
          due_behind after writable queue c k place
          ∙ behind_same m after (length writable) queue k
          (λ e. same SerialCell (omega (arith, place, e)))
          (λ e. same TimerCell (omega (arith, place, e)))
          ∙ sym (due_behind m writable queue c k place)
    ]

-- ---- A release

pub due_released : (m : MachineData) (writable : List Bool) (queue : List ℕ) (p : ℕ) → p < length writable →
    due m (set writable p true) queue p ≡ Some (cells.Page (page_of m p) Writable)
due_released m writable queue p within = due_page m (set writable p true) queue p true (slice_get-set_same writable p true within)

-- every other cell
pub due_not_released : (m : MachineData) (writable : List Bool) (queue : List ℕ) (p c : ℕ) → c ≢ p → due m (set writable p true) queue c ≡ due m writable queue c
unfolding due
due_not_released m writable queue p c other =
    ap (λ pages. due_by m pages queue c (slice_get (set writable p true) c)) (length-set writable p true)
    ∙ ap (due_by m (length writable) queue c) (slice_get-set_other writable p c true other)

-- ---- The queue

-- what is due for it
pub due_queue : (m : MachineData) (writable : List Bool) (queue : List ℕ) (c : ℕ) → c ≡ queue_number (length writable) →
    due m writable queue c ≡ Some (cells.Faults (record { pages = length writable; list = queue }))
due_queue m writable queue c place = due_behind m writable queue c 2 place

-- for every other cell the queue plays no part
behind_queue : (m : MachineData) (pages : ℕ) (queue rest : List ℕ) (k : ℕ) → k ≢ 2 → device_due m pages rest k ≡ device_due m pages queue k
behind_queue m pages queue rest zero other = refl
behind_queue m pages queue rest (suc zero) other = refl
behind_queue m pages queue rest (suc (suc zero)) other = absurd (other refl)
behind_queue m pages queue rest (suc (suc (suc k))) other = refl

pub due_not_queue : (m : MachineData) (writable : List Bool) (queue rest : List ℕ) (c : ℕ) → c ≢ queue_number (length writable) →
    due m writable rest c ≡ due m writable queue c
due_not_queue m writable queue rest c other =
    elim (is_at writable c) as (λ _. due m writable rest c ≡ due m writable queue c) [
      | AtPage w flag ↦ due_page m writable rest c w flag ∙ sym (due_page m writable queue c w flag)
      | Behind k place ↦
          due_behind m writable rest c k place
          ∙ behind_queue m (length writable) queue rest k (λ e. other (omega (arith, place, e)))
          ∙ sym (due_behind m writable queue c k place)
    ]

-- ---- A cell that is known

-- one with a queue is the queue's
queue_behind : (m : MachineData) (pages : ℕ) (queue : List ℕ) (k : ℕ) (q : QueueData) → device_due m pages queue k ≡ Some (cells.Faults q) →
    (k ≡ 2) × (record { pages = pages; list = queue } ≡ q)
queue_behind m pages queue zero q is = absurd (cc)
queue_behind m pages queue (suc zero) q is = absurd (cc)
queue_behind m pages queue (suc (suc zero)) q is = (refl, cc)
queue_behind m pages queue (suc (suc (suc k))) q is = absurd (cc)

pub is_queue : (m : MachineData) (writable : List Bool) (queue : List ℕ) (c : ℕ) (q : QueueData) → due m writable queue c ≡ Some (cells.Faults q) →
    (c ≡ queue_number (length writable)) × (record { pages = length writable; list = queue } ≡ q)
is_queue m writable queue c q is =
    elim (is_at writable c) as (λ _. (c ≡ queue_number (length writable)) × (record { pages = length writable; list = queue } ≡ q)) [
      | AtPage w flag ↦ (let e : Some (cells.Page (page_of m c) (phase_of w)) ≡ Some (cells.Faults q) = sym (due_page m writable queue c w flag) ∙ is in absurd (cc e))
      | Behind k place ↦
          (let b = queue_behind m (length writable) queue k q (sym (due_behind m writable queue c k place) ∙ is) in
          let two = b.0 in
          (omega (arith, place, two), b.1))
    ]

-- behind the pages stands none
page_behind : (m : MachineData) (pages : ℕ) (queue : List ℕ) (k : ℕ) (bytes : List ℕ) (phase : Phase) → device_due m pages queue k ≡ Some (cells.Page bytes phase) → ⊥
page_behind m pages queue zero bytes phase is = cc
page_behind m pages queue (suc zero) bytes phase is = cc
page_behind m pages queue (suc (suc zero)) bytes phase is = cc
page_behind m pages queue (suc (suc (suc k))) bytes phase is = cc

-- the cell is a page of the machine, in its phase
pub record IsPageDue (m : MachineData) (writable : List Bool) (c : ℕ) (bytes : List ℕ) (phase : Phase) : Type 0 where
  pub flag : Bool
  pub stands : slice_get writable c ≡ Some flag
  pub holds : page_of m c ≡ bytes
  pub is_in : phase_of flag ≡ phase

pub is_page : (m : MachineData) (writable : List Bool) (queue : List ℕ) (c : ℕ) (bytes : List ℕ) (phase : Phase) →
    due m writable queue c ≡ Some (cells.Page bytes phase) → IsPageDue m writable c bytes phase
is_page m writable queue c bytes phase is =
    elim (is_at writable c) as (λ _. IsPageDue m writable c bytes phase) [
      | AtPage w flag ↦
          (let e : cells.Page (page_of m c) (phase_of w) ≡ cells.Page bytes phase =
          same_Some (cells.Page (page_of m c) (phase_of w)) (cells.Page bytes phase) (sym (due_page m writable queue c w flag) ∙ is) in
          record { flag = w; stands = flag; holds = cc e; is_in = cc e })
      | Behind k place ↦ absurd (page_behind m (length writable) queue k bytes phase (sym (due_behind m writable queue c k place) ∙ is))
    ]

-- a page that is protected has its flag off
pub protected_flag : (w : Bool) → phase_of w ≡ Protected → w ≡ false
protected_flag false is = refl
protected_flag true is = absurd (cc)

-- ---- The kind of a cell

kind_behind : (m : MachineData) (pages : ℕ) (queue : List ℕ) (c k : ℕ) (x : Cell) → c ≡ pages + k → device_due m pages queue k ≡ Some x → IsKind pages c x
kind_behind m pages queue c zero x place is = subst (IsKind pages c) (same_Some (cells.Serial m.serial) x is) (omega (arith, place))
kind_behind m pages queue c (suc zero) x place is = subst (IsKind pages c) (same_Some (cells.Timer m.cmp) x is) place
kind_behind m pages queue c (suc (suc zero)) x place is =
    subst (IsKind pages c) (same_Some (cells.Faults (record { pages = pages; list = queue })) x is) (place, refl)
kind_behind m pages queue c (suc (suc (suc k))) x place is = absurd (none-some x is)

pub due_kind : (m : MachineData) (writable : List Bool) (queue : List ℕ) (c : ℕ) (x : Cell) → ((p : ℕ) → p < length writable → length (page_of m p) ≡ PAGE) →
    due m writable queue c ≡ Some x → IsKind (length writable) c x
due_kind m writable queue c x whole is =
    elim (is_at writable c) as (λ _. IsKind (length writable) c x) [
      | AtPage w flag ↦
          (let within = slice_get_within writable c w flag in
          subst (IsKind (length writable) c) (same_Some (cells.Page (page_of m c) (phase_of w)) x (sym (due_page m writable queue c w flag) ∙ is)) (within, whole c within))
      | Behind k place ↦ kind_behind m (length writable) queue c k x place (sym (due_behind m writable queue c k place) ∙ is)
    ]
