-- A machine moved into cells, and moved back.
use Rattle.std.proofs.Common.{◌≡◌, ℕ, zero, suc, ◌+◌, ◌<◌, List, [], ◌∷◌, ◌++◌, length, replicate, Some, refl, sym, ◌∙◌, ap, arith, length-append}
use Rattle.std.specs.List.{slice_get}
use Rattle.std.specs.Option.{option_map}
use Rattle.std.proofs.lemmas.List.{length-map, length-replicate}
use Rattle.std.proofs.lemmas.Option.{slice_get-get_or, slice_get-map, slice_get_within}
use Rattle.ram_block.specs.Shape.{total_pages_of}
use Rattle.flat_machine.specs.Machine.{MachineData, page_of}
use Rattle.flat_machine.specs.Page.{joined, page_at}
use Rattle.flat_machine.proofs.Pages.{AreWhole, page_at-joined}
use Rattle.page_cell.specs.declared.cell.Cell.{Cell}
use Rattle.page_cell.specs.declared.cell.Cell.TheVariants as cells
use Rattle.page_cell.specs.declared.phase.Phase.{Phase}
use Rattle.page_cell.specs.declared.phase.Phase.TheVariants.{Protected, Writable}
use Rattle.plain_bus.specs.Cells.{is_writable}
use Rattle.bus_rule.specs.Kept.{cells_of, device_due, due, phase_of}
use Rattle.bus_rule.proofs.Dues.{AtPage, Behind, IsAt, due_behind, due_page, is_at}
use Rattle.page_bus.specs.Moves.{AreCellsOf, are_pages_in, page_in}
use Rattle.page_bus.proofs.Lists.{behind, flag_is, in_front}

-- ---- Into cells

phase_back : (phase : Phase) → phase_of (is_writable phase) ≡ phase
phase_back Protected = refl
phase_back Writable = refl

module _ (m : MachineData) (phase : Phase) (pages : List (List ℕ)) (all : List Cell) (ram : joined pages ≡ m.ram) (count : length pages ≡ total_pages_of m.shape)
    (whole : AreWhole pages)
    (is : all ≡ ((are_pages_in phase pages ++ cells.Serial m.serial ∷ []) ++ cells.Timer m.cmp ∷ []) ++ cells.Faults (record { pages = total_pages_of m.shape; list = [] }) ∷ []) where
  pages_count : length (are_pages_in phase pages) ≡ total_pages_of m.shape
  pages_count = length-map pages (page_in phase) ∙ count

  serial_count : length (are_pages_in phase pages ++ cells.Serial m.serial ∷ []) ≡ total_pages_of m.shape + 1
  serial_count = length-append (are_pages_in phase pages) (cells.Serial m.serial ∷ []) ∙ ap (λ n. n + 1) pages_count

  timer_count : length ((are_pages_in phase pages ++ cells.Serial m.serial ∷ []) ++ cells.Timer m.cmp ∷ []) ≡ total_pages_of m.shape + 2
  timer_count =
      length-append (are_pages_in phase pages ++ cells.Serial m.serial ∷ []) (cells.Timer m.cmp ∷ [])
      ∙ (let e = serial_count in omega (arith, e))

  at_page : (c : ℕ) → c < total_pages_of m.shape → slice_get all c ≡ Some (cells.Page (page_of m c) phase)
  at_page c below =
      ap (λ xs. slice_get xs c) is
      ∙ in_front ((are_pages_in phase pages ++ cells.Serial m.serial ∷ []) ++ cells.Timer m.cmp ∷ []) _ c (let e = timer_count in omega (arith, below, e))
      ∙ in_front (are_pages_in phase pages ++ cells.Serial m.serial ∷ []) _ c (let e = serial_count in omega (arith, below, e))
      ∙ in_front (are_pages_in phase pages) _ c (let e = pages_count in omega (arith, below, e))
      ∙ slice_get-map (page_in phase) pages c
      ∙ ap (option_map (page_in phase)) (slice_get-get_or pages c [] (omega (arith, below, count)))
      ∙ ap (λ bytes. Some (cells.Page bytes phase)) (sym (page_at-joined pages c [] whole (omega (arith, below, count))) ∙ ap (λ r. page_at r c) ram)

  at_behind : (k : ℕ) → k < 3 → slice_get all (total_pages_of m.shape + k) ≡ device_due m (total_pages_of m.shape) [] k
  at_behind zero below =
      ap (λ xs. slice_get xs (total_pages_of m.shape + 0)) is
      ∙ in_front ((are_pages_in phase pages ++ cells.Serial m.serial ∷ []) ++ cells.Timer m.cmp ∷ []) _ (total_pages_of m.shape + 0) (let e = timer_count in omega (arith, e))
      ∙ in_front (are_pages_in phase pages ++ cells.Serial m.serial ∷ []) _ (total_pages_of m.shape + 0) (let e = serial_count in omega (arith, e))
      ∙ (let e : total_pages_of m.shape + 0 ≡ length (are_pages_in phase pages) = (let h = pages_count in omega (arith, h)) in
      ap (slice_get (are_pages_in phase pages ++ cells.Serial m.serial ∷ [])) e)
      ∙ behind (are_pages_in phase pages) (cells.Serial m.serial) []
  at_behind (suc zero) below =
      ap (λ xs. slice_get xs (total_pages_of m.shape + 1)) is
      ∙ in_front ((are_pages_in phase pages ++ cells.Serial m.serial ∷ []) ++ cells.Timer m.cmp ∷ []) _ (total_pages_of m.shape + 1) (let e = timer_count in omega (arith, e))
      ∙ ap (slice_get ((are_pages_in phase pages ++ cells.Serial m.serial ∷ []) ++ cells.Timer m.cmp ∷ [])) (sym serial_count)
      ∙ behind (are_pages_in phase pages ++ cells.Serial m.serial ∷ []) (cells.Timer m.cmp) []
  at_behind (suc (suc zero)) below =
      ap (λ xs. slice_get xs (total_pages_of m.shape + 2)) is
      ∙ ap (slice_get (((are_pages_in phase pages ++ cells.Serial m.serial ∷ []) ++ cells.Timer m.cmp ∷ []) ++ cells.Faults (record { pages = total_pages_of m.shape; list = [] }) ∷ [])) (sym timer_count)
      ∙ behind ((are_pages_in phase pages ++ cells.Serial m.serial ∷ []) ++ cells.Timer m.cmp ∷ []) (cells.Faults (record { pages = total_pages_of m.shape; list = [] })) []
  at_behind (suc (suc (suc k))) below = absurd (omega (arith, below))

  flags_count : length (replicate (total_pages_of m.shape) (is_writable phase)) ≡ total_pages_of m.shape
  flags_count = length-replicate (total_pages_of m.shape) (is_writable phase)

  each_cell : (c : ℕ) → c < cells_of m.shape → IsAt (replicate (total_pages_of m.shape) (is_writable phase)) c →
      slice_get all c ≡ due m (replicate (total_pages_of m.shape) (is_writable phase)) [] c
  each_cell c below (AtPage w at) =
      at_page c (let h = slice_get_within (replicate (total_pages_of m.shape) (is_writable phase)) c w at in let e = flags_count in omega (arith, h, e))
      ∙ ap (λ p. Some (cells.Page (page_of m c) p)) (sym (ap phase_of (flag_is (is_writable phase) (total_pages_of m.shape) c w at) ∙ phase_back phase))
      ∙ sym (due_page m (replicate (total_pages_of m.shape) (is_writable phase)) [] c w at)
  each_cell c below (Behind k at) =
      let e : c ≡ total_pages_of m.shape + k = at ∙ ap (λ n. n + k) flags_count in
      ap (slice_get all) e
      ∙ at_behind k (omega (arith, below, e))
      ∙ ap (λ n. device_due m n [] k) (sym flags_count)
      ∙ sym (due_behind m (replicate (total_pages_of m.shape) (is_writable phase)) [] c k at)

  pub cells_moved : AreCellsOf m (replicate (total_pages_of m.shape) (is_writable phase)) [] all
  cells_moved = record {
    flags = flags_count;
    count = ap length is ∙ length-append ((are_pages_in phase pages ++ cells.Serial m.serial ∷ []) ++ cells.Timer m.cmp ∷ []) _ ∙ (let e = timer_count in omega (arith, e));
    each = λ c below. each_cell c below (is_at (replicate (total_pages_of m.shape) (is_writable phase)) c);
  }
