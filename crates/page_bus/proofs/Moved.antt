-- What the steps of a call make of a seat that holds no cell, or one, or the queue on top of a page.
use Rattle.std.proofs.Common.{◌≡◌, ◌≢◌, ℕ, zero, suc, List, [], ◌∷◌, refl, ◌∙◌, ap, arith}
use Rattle.atomic_table.specs.Table.{rest}
use Rattle.rv64i_step.specs.declared.request.Request.{Request}
use Rattle.page_cell.specs.Cell.{cell_after}
use Rattle.page_cell.specs.declared.cell.Cell.{Cell}
use Rattle.bus_rule.specs.Plays.{with_cell, without_cell, with_cell_event, with_content}
use Rattle.bus_rule.specs.Tells.{PassMe, TakesOrFinds, IsTaken, IsFoundHeld, event_by, with_out, top_of}
use Rattle.bus_rule.specs.Views.{Task, Role, Working, PassData, request_in}

-- ---- Take

pub was_taken : (c number found : ℕ) (before after : PassMe) → found ≡ 0 → TakesOrFinds c number before found after → IsTaken c before after
was_taken c number zero before after none told = told
was_taken c number (suc found) before after none told = absurd (omega (arith, none))

pub was_held : (c number found : ℕ) (before after : PassMe) → found ≢ 0 → TakesOrFinds c number before found after → IsFoundHeld c number found before after
was_held c number zero before after some told = absurd (some refl)
was_held c number (suc found) before after some told = told

-- a view with this role, which holds these cells
abbrev pub seen : PassData → Role → List (ℕ × Cell) → PassData
seen p role held = record p { role = role; held = held }

pub seen_is : (p : PassData) (role : Role) (held : List (ℕ × Cell)) → p.role ≡ role → p.held ≡ held → p ≡ seen p role held
seen_is p role held is has = ap (λ (r : Role). record p { role = r }) is ∙ ap (λ (h : List (ℕ × Cell)). seen p role h) has

-- what a seat that held nothing holds when it took a cell
pub taken_is : (c : ℕ) (x : Cell) (role : Role) (before after : PassMe) → before.0.role ≡ role → before.0.held ≡ [] → before.1 ≡ [] →
    after ≡ (with_cell before.0 c x, (c, x) ∷ before.1) → after ≡ (seen before.0 role ((c, x) ∷ []), (c, x) ∷ [])
taken_is c x role before after is held out moved =
    moved
    ∙ ap (λ (h : List (ℕ × Cell)). (record before.0 { held = (c, x) ∷ h }, (c, x) ∷ before.1)) held
    ∙ ap (λ (r : Role). (seen before.0 r ((c, x) ∷ []), (c, x) ∷ before.1)) is
    ∙ ap (λ (o : List (ℕ × Cell)). (seen before.0 role ((c, x) ∷ []), (c, x) ∷ o)) out

-- ---- Event

module _ (me : PassMe) (t : Task) (c : ℕ) (x : Cell) (role : me.0.role ≡ Working t) (held : me.0.held ≡ (c, x) ∷ []) (out : me.1 ≡ (c, x) ∷ []) where
  abbrev pub due : Cell
  due = cell_after (request_in t) x

  pub drawn_is : (clock : ℕ) (after : PassMe) → after ≡ (event_by me.0 me.0.role me.0.held clock, me.1) →
      after ≡ (seen me.0 (Working (with_cell_event t x clock)) ((c, due) ∷ []), (c, x) ∷ [])
  drawn_is clock after moved =
      moved
      ∙ ap (λ (r : Role). (event_by me.0 r me.0.held clock, me.1)) role
      ∙ ap (λ (h : List (ℕ × Cell)). (event_by me.0 (Working t) h clock, me.1)) held
      ∙ ap (λ (h : List (ℕ × Cell)). (seen me.0 (Working (with_cell_event t x clock)) (with_content h due), me.1)) held
      ∙ ap (λ (o : List (ℕ × Cell)). (seen me.0 (Working (with_cell_event t x clock)) ((c, due) ∷ []), o)) out

  pub applied_is : (r : Request) (clock : ℕ) (drawn after : PassMe) → r ≡ request_in t →
      drawn ≡ (seen me.0 (Working (with_cell_event t x clock)) ((c, due) ∷ []), (c, x) ∷ []) →
      after ≡ with_out c drawn (cell_after r (top_of drawn.1)) →
      after ≡ (seen me.0 (Working (with_cell_event t x clock)) ((c, due) ∷ []), (c, due) ∷ [])
  applied_is r clock drawn after asks was moved =
      moved
      ∙ ap (λ (m : PassMe). with_out c m (cell_after r (top_of m.1))) was
      ∙ ap (λ (q : Request). (seen me.0 (Working (with_cell_event t x clock)) ((c, due) ∷ []), (c, cell_after q x) ∷ [])) asks

-- the cell on top was given back
pub given_is : (p : PassData) (c : ℕ) (x y : Cell) (below under : List (ℕ × Cell)) (before after : PassMe) →
    before ≡ (record p { held = (c, x) ∷ below }, (c, y) ∷ under) → after ≡ (without_cell before.0, rest before.1) → after ≡ (record p { held = below }, under)
given_is p c x y below under before after was moved = moved ∙ ap (λ (m : PassMe). (without_cell m.0, rest m.1)) was
