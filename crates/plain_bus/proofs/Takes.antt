-- A take of a page, by the phase of its cell.
use Rattle.std.proofs.Common.{◌≡◌, ℕ, List, not, get_or, slice_set, refl, sym, ◌∙◌, ap}
use Rattle.page_cell.specs.Cell as cells
use Rattle.page_cell.specs.Cell.{phase_in, taken_in}
use Rattle.page_cell.specs.declared.cell.Cell.{Cell}
use Rattle.page_cell.specs.declared.cell.Cell.TheVariants.{Page}
use Rattle.page_cell.specs.declared.phase.Phase.{Phase}
use Rattle.page_cell.specs.declared.phase.Phase.TheVariants.{Protected, Writable}
use Rattle.plain_bus.specs.Cells.{buffer_after, flags_after, flags_of, is_writable, taken_where, writable_in}
use Rattle.plain_bus.proofs.Cells.{flags_of-same, flags_of-set}

pub taken_by : (phase : Phase) → taken_in phase ≡ taken_where (not (is_writable phase))
taken_by Protected = refl
taken_by Writable = refl

pub buffer_by : (phase : Phase) (page before : List ℕ) → cells.buffer_after phase page before ≡ buffer_after page before (not (is_writable phase))
buffer_by Protected page before = refl
buffer_by Writable page before = refl

-- which pages are writable then
pub flags_by : (pages : List Cell) (p : ℕ) (old : Cell) (bytes : List ℕ) (new : Cell) (phase : Phase) → old ≡ get_or pages p old → phase_in old ≡ phase → new ≡ Page bytes Writable
    → flags_of (slice_set pages p new) ≡ flags_after (flags_of pages) p (not (is_writable phase))
flags_by pages p old bytes new Protected here is after = flags_of-set pages p new ∙ ap (λ b. slice_set (flags_of pages) p b) (ap writable_in after)
flags_by pages p old bytes new Writable here is after = flags_of-same pages p new old (ap writable_in after ∙ sym (ap is_writable is) ∙ ap writable_in here)
