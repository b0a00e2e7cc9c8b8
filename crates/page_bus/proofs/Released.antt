-- What the steps of a take make of the saver's seat.
use Rattle.std.proofs.Common.{◌≡◌, ℕ, [], ◌∷◌, refl, sym, ◌∙◌, ap}
use Rattle.page_cell.specs.Cell.{IsPage, bytes_in, phase_in, taken_in}
use Rattle.page_cell.specs.declared.cell.Cell.{Cell}
use Rattle.page_cell.specs.declared.cell.Cell.TheVariants as cells
use Rattle.page_cell.specs.declared.phase.Phase.TheVariants.{Protected, Writable}
use Rattle.page_cell.specs.declared.plant.Taken.{Taken}
use Rattle.page_cell.specs.declared.plant.Taken.TheVariants.{Copied}
use Rattle.bus_rule.specs.Plays.{CanRelease}
use Rattle.bus_rule.specs.Tells.{PassMe, top_of, with_out}
use Rattle.bus_rule.specs.Views.{Book, Saving}

-- a page that was copied was protected
copied_page : (x : Cell) (answer : Taken) → IsPage x → answer ≡ taken_in (phase_in x) → answer ≡ Copied → x ≡ cells.Page (bytes_in x) Protected
copied_page (cells.Page bytes Protected) answer page taken is = refl
copied_page (cells.Page bytes Writable) answer page taken is = absurd (cc (sym taken ∙ is))
copied_page (cells.Serial s) answer page taken is = absurd page
copied_page (cells.Timer cmp) answer page taken is = absurd page
copied_page (cells.Faults q) answer page taken is = absurd page

-- so it may be marked
pub can_release : (me copied : PassMe) (b : Book) (page : ℕ) (y : Cell) (answer : Taken) → me.0.role ≡ Saving b → me.0.held ≡ (page, top_of me.1) ∷ [] →
    IsPage (top_of me.1) → answer ≡ taken_in (phase_in (top_of me.1)) → answer ≡ Copied → copied ≡ with_out page me y →
    CanRelease copied.0 b page (bytes_in (top_of me.1))
can_release me copied b page y answer role held is_page taken is after = record {
  role = ap (λ (m : PassMe). m.0.role) after ∙ role;
  top = (
    [],
    ap (λ (m : PassMe). m.0.held) after ∙ (held ∙ ap (λ (x : Cell). (page, x) ∷ []) (copied_page (top_of me.1) answer is_page taken is)),
  );
}
