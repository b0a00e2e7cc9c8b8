-- Which requests stop, and which touch no cell.
use Rattle.std.proofs.Common.{◌≡◌, ℕ, ◌<◌, Bool, true, List, Some, None, refl, sym, ◌∙◌, ap, subst, arith}
use Rattle.std.proofs.lemmas.Bool.{false≢true}
use Rattle.std.proofs.lemmas.Option.{none-some}
use Rattle.ram_block.specs.Shape.{total_pages_of}
use Rattle.ram_block.specs.declared.cause.Cause.{Cause}
use Rattle.rv64i_step.specs.Request.{CanServe, written_page}
use Rattle.rv64i_step.specs.declared.request.Request.{Request}
use Rattle.rv64i_step.specs.declared.request.Request.TheVariants as requests
use Rattle.flat_machine.specs.Cell.{CellName, PageCell, SerialCell, TimerCell, cell_at}
use Rattle.flat_machine.specs.Next.{cell_of}
use Rattle.flat_machine.proofs.Phases.{not_ended}
use Rattle.page_cell.specs.Cell.{stops_at}
use Rattle.page_cell.proofs.Parts.{stops_write}
use Rattle.page_cell.specs.declared.cell.Cell.{Cell}
use Rattle.page_cell.specs.declared.cell.Cell.TheVariants as cells
use Rattle.page_cell.specs.declared.phase.Phase.TheVariants.{Protected, Writable}
use Rattle.bus_rule.specs.Kept.{cell_number, cells_of}
use Rattle.bus_rule.specs.Plays.{IsFound, IsKind, with_no_fetch}
use Rattle.bus_rule.specs.Tells.{PassMe, DrawsAlone, IsDrawnBy, IsTaken, no_fetch_by, top_of}
use Rattle.bus_rule.specs.Views.{Role, Working, PassData, request_in}
use Rattle.page_bus.specs.Passes.{task_in, task_of}
use Rattle.page_bus.specs.Steps.{MakesEvent, MovesWith, with_task}
use Rattle.page_bus.specs.Traced.{TracedData, numbered, traced_of}
use Rattle.page_bus.specs.Turns.{IsAsking}
use Rattle.page_bus.proofs.CellKinds.{cell_below}

-- a cell that stops a request is a protected page
pub stopping_page : (r : Request) (x : Cell) → stops_at r x ≡ true → (bytes : List ℕ) × (x ≡ cells.Page bytes Protected)
stopping_page r (cells.Page bytes Protected) stops = (bytes, refl)
stopping_page r (cells.Page bytes Writable) stops = absurd (false≢true stops)
stopping_page r (cells.Serial s) stops = absurd (false≢true stops)
stopping_page r (cells.Timer cmp) stops = absurd (false≢true stops)
stopping_page r (cells.Faults q) stops = absurd (false≢true stops)

-- the name of a page's number
page_name : (pages c : ℕ) (name : CellName) → c < pages → c ≡ cell_number pages name → name ≡ PageCell c
page_name pages c (PageCell p) below is = ap PageCell (sym is)
page_name pages c SerialCell below is = absurd (omega (arith, below, is))
page_name pages c TimerCell below is = absurd (omega (arith, below, is))

-- what it stops is a write to it
pub stopped_write : (pages c : ℕ) (r : Request) (name : CellName) (x : Cell) → cell_of r ≡ Some name → c ≡ cell_number pages name → IsKind pages c x →
    stops_at r x ≡ true → written_page r ≡ Some c
stopped_write pages c r name (cells.Page bytes Protected) touches is kind stops =
    (stops_write r c bytes (touches ∙ ap Some (page_name pages c name kind.0 is))).0 stops
stopped_write pages c r name (cells.Page bytes Writable) touches is kind stops = absurd (false≢true stops)
stopped_write pages c r name (cells.Serial s) touches is kind stops = absurd (false≢true stops)
stopped_write pages c r name (cells.Timer cmp) touches is kind stops = absurd (false≢true stops)
stopped_write pages c r name (cells.Faults q) touches is kind stops = absurd (false≢true stops)

-- a vCPU that goes on and touches no cell has nothing to fetch
pub no_cell : (pages : ℕ) (d : TracedData) (p : PassData) (r : Request) → IsAsking d p r → numbered pages (cell_of r) ≡ None →
    (cause : Cause) × IsAsking d p (requests.NoFetch cause)
unfolding cell_of
no_cell pages d p requests.Nothing is none = absurd (is.stage (not_ended d.until d.vcpu is.going).0)
no_cell pages d p (requests.NoFetch cause) is none = (cause, is)
no_cell pages d p (requests.Fetch page off) is none = absurd (none-some (cell_number pages (PageCell page)) (sym none))
no_cell pages d p (requests.Load place width) is none = absurd (none-some (cell_number pages (cell_at place)) (sym none))
no_cell pages d p (requests.Store place width value) is none = absurd (none-some (cell_number pages (cell_at place)) (sym none))
no_cell pages d p (requests.Amo place width op value) is none = absurd (none-some (cell_number pages (cell_at place)) (sym none))

-- the event with nothing to fetch
no_fetch_none : (old new : PassData) (cause : Cause) (clock : ℕ) → new ≡ with_task old (with_no_fetch (task_of old) clock) →
    MovesWith old (cell_of (requests.NoFetch cause)) clock new
unfolding cell_of
no_fetch_none old new cause clock moved = moved

no_fetch_moves : (old new : PassData) (r : Request) (cause : Cause) (clock : ℕ) → r ≡ requests.NoFetch cause → new ≡ with_task old (with_no_fetch (task_of old) clock) →
    MovesWith old (cell_of r) clock new
no_fetch_moves old new r cause clock is moved = subst (λ (q : Request). MovesWith old (cell_of q) clock new) (sym is) (no_fetch_none old new cause clock moved)

pub event_alone : (me after : PassMe) (cause : Cause) (clock : ℕ) → me.0.role ≡ Working (task_of me.0) → requests.NoFetch cause ≡ request_in (task_of me.0) →
    DrawsAlone me clock after → MakesEvent me.0 after.0
event_alone me after cause clock role asks told = record {
  clock = clock;
  drawn = subst (λ (r : Role). IsDrawnBy r clock) role told.drawn;
  moves = no_fetch_moves me.0 after.0 (request_in (task_of me.0)) cause clock (sym asks)
      (ap (λ (m : PassMe). m.0) told.view ∙ ap (λ (r : Role). no_fetch_by me.0 r clock) role);
}

-- ---- A seat that took the cell of its request

module _ (c : ℕ) (me taken after : PassMe) (r : Request) (stops : Bool) (told : IsTaken c me taken) (kept : after ≡ taken)
    (answered : stops ≡ stops_at r (top_of taken.1)) (is : stops ≡ true) where
  top_is : top_of after.1 ≡ told.cell
  top_is = ap (λ (m : PassMe). top_of m.1) (kept ∙ told.view)

  stops_after : stops_at r (top_of after.1) ≡ true
  stops_after = ap (λ (m : PassMe). stops_at r (top_of m.1)) kept ∙ (sym answered ∙ is)

  pub stops_protected : (bytes : List ℕ) × (top_of after.1 ≡ cells.Page bytes Protected)
  stops_protected = stopping_page r (top_of after.1) stops_after

  pub stops_write_there : (d : TracedData) (name : CellName) → me.0.role ≡ Working (task_of me.0) → d ≡ traced_of (task_of me.0) → r ≡ request_in (task_of me.0) →
      cell_of r ≡ Some name → c ≡ cell_number (total_pages_of d.shape) name → written_page (request_in (task_of after.0)) ≡ Some c
  stops_write_there d name role traced asks touches number =
      let same : after.0.role ≡ me.0.role = ap (λ (m : PassMe). m.0.role) (kept ∙ told.view) in
      let kind : IsKind (total_pages_of d.shape) c told.cell = subst (λ (e : TracedData). IsKind (total_pages_of e.shape) c told.cell) (sym traced)
      (subst (λ (q : Role). IsFound q c told.cell) role told.known) in
      ap (λ (q : Role). written_page (request_in (task_in q))) same
      ∙ ap written_page (sym asks)
      ∙ stopped_write (total_pages_of d.shape) c r name told.cell touches number kind (ap (stops_at r) (sym top_is) ∙ stops_after)

-- the cell of a request is one of the table
pub touched_below : (slots c : ℕ) (d : TracedData) (r : Request) (name : CellName) → slots ≡ cells_of d.shape → CanServe d.shape r → cell_of r ≡ Some name →
    c ≡ cell_number (total_pages_of d.shape) name → c < slots
touched_below slots c d r name cells can touches number = let h = cell_below d.shape r name can touches in omega (arith, h, cells, number)
