-- What a machine holds in its cells, when one of them is written.
use Rattle.std.proofs.Common.{◌≡◌, ◌≢◌, ◌⊎◌, inl, inr, ℕ, ◌+◌, ◌*◌, ◌<◌, ◌≤◌, List, length, refl, sym, ap, arith}
use Rattle.std.proofs.lemmas.Bool.{cases_eq}
use Rattle.ram_block.specs.Shape.{ShapeData, ram_bytes_of, total_pages_of}
use Rattle.ram_block.specs.declared.page_buf.TheConstants.{PAGE}
use Rattle.serial_timer.specs.Serial.{SerialData}
use Rattle.flat_machine.specs.Cell.{CellName, PageCell, SerialCell, TimerCell, Content, Page, Serial, Timer, content, with_content}
use Rattle.flat_machine.specs.Laws.{IsContentOf}
use Rattle.flat_machine.specs.Machine.{MachineData}
use Rattle.flat_machine.proofs.Pages.{length-with_page, page_at-with_page_same, page_at-with_page_other}

-- a page of a machine ends within its RAM
pub page_within : (shape : ShapeData) (p bytes : ℕ) → bytes ≡ ram_bytes_of shape → p < total_pages_of shape → PAGE * p + PAGE ≤ bytes
page_within shape p bytes size h = omega arith

-- a write to a cell leaves the shape, the vCPUs and the clock
pub record IsCellWrite (m after : MachineData) : Type 0 where
  pub shape : after.shape ≡ m.shape
  pub vcpus : after.vcpus ≡ m.vcpus
  pub clock : after.clock ≡ m.clock

-- it is so for each cell and content
pub cell_write : (m : MachineData) (c : CellName) (x : Content) → IsCellWrite m (with_content m c x)
cell_write m (PageCell p) (Page bytes) = record { shape = refl; vcpus = refl; clock = refl }
cell_write m SerialCell (Serial s) = record { shape = refl; vcpus = refl; clock = refl }
cell_write m TimerCell (Timer cmp) = record { shape = refl; vcpus = refl; clock = refl }
cell_write m _ _ = record { shape = refl; vcpus = refl; clock = refl }

-- and as many bytes of RAM as there were
pub length-with_content : (m : MachineData) (c : CellName) (x : Content) → length m.ram ≡ ram_bytes_of m.shape → IsContentOf m.shape c x →
    length (with_content m c x).ram ≡ length m.ram
length-with_content m (PageCell p) (Page bytes) size of = length-with_page m.ram bytes p of.1 (page_within m.shape p (length m.ram) size of.0)
length-with_content m SerialCell (Serial s) size of = refl
length-with_content m TimerCell (Timer cmp) size of = refl
length-with_content m _ _ size of = refl

-- the cell that was written holds what was written
pub content-with_content_same : (m : MachineData) (c : CellName) (x : Content) → length m.ram ≡ ram_bytes_of m.shape → IsContentOf m.shape c x →
    content (with_content m c x) c ≡ x
content-with_content_same m (PageCell p) (Page bytes) size of =
    ap Page (page_at-with_page_same m.ram bytes p of.1 (page_within m.shape p (length m.ram) size of.0))
content-with_content_same m SerialCell (Serial s) size of = refl
content-with_content_same m TimerCell (Timer cmp) size of = refl
content-with_content_same m _ _ size of = absurd of

-- every cell but the page that was written
page_write_other : (m : MachineData) (p : ℕ) (bytes : List ℕ) (d : CellName) → length m.ram ≡ ram_bytes_of m.shape →
    (p < total_pages_of m.shape) × (length bytes ≡ PAGE) → d ≢ PageCell p → content (with_content m (PageCell p) (Page bytes)) d ≡ content m d
page_write_other m p bytes (PageCell q) size of other =
    ap Page (page_at-with_page_other m.ram bytes p q (λ e. other (ap PageCell (sym e))) of.1 (page_within m.shape p (length m.ram) size of.0))
page_write_other m p bytes SerialCell size of other = refl
page_write_other m p bytes TimerCell size of other = refl

-- every cell but the serial device
serial_write_other : (m : MachineData) (s : SerialData) (d : CellName) → d ≢ SerialCell → content (with_content m SerialCell (Serial s)) d ≡ content m d
serial_write_other m s (PageCell q) other = refl
serial_write_other m s SerialCell other = absurd (other refl)
serial_write_other m s TimerCell other = refl

-- every cell but the timer
timer_write_other : (m : MachineData) (cmp : ℕ) (d : CellName) → d ≢ TimerCell → content (with_content m TimerCell (Timer cmp)) d ≡ content m d
timer_write_other m cmp (PageCell q) other = refl
timer_write_other m cmp SerialCell other = refl
timer_write_other m cmp TimerCell other = absurd (other refl)

-- every other cell holds what it held
pub content-with_content_other : (m : MachineData) (c d : CellName) (x : Content) → length m.ram ≡ ram_bytes_of m.shape → IsContentOf m.shape c x →
    d ≢ c → content (with_content m c x) d ≡ content m d
content-with_content_other m (PageCell p) d (Page bytes) size of other = page_write_other m p bytes d size of other
content-with_content_other m SerialCell d (Serial s) size of other = serial_write_other m s d other
content-with_content_other m TimerCell d (Timer cmp) size of other = timer_write_other m cmp d other
content-with_content_other m _ d _ size of other = absurd of

-- a cell is this page or not
pub cell_cases : (c : CellName) (p : ℕ) → (c ≡ PageCell p) ⊎ (c ≢ PageCell p)
cell_cases (PageCell q) p =
    elim (cases_eq q p) as (λ _. (PageCell q ≡ PageCell p) ⊎ (PageCell q ≢ PageCell p)) [
      | inl same ↦ inl (ap PageCell same)
      | inr other ↦ inr (λ e. other (cc))
    ]
cell_cases SerialCell p = inr (λ e. cc)
cell_cases TimerCell p = inr (λ e. cc)

-- the law of cells
pub ruleset cell_laws = (content-with_content_same, content-with_content_other, length-with_content)
