-- What the steps of a stop make of a seat that holds a protected page.
use Rattle.std.proofs.Common.{◌≡◌, ◌≢◌, ℕ, ◌+◌, List, [], ◌∷◌, Some, ◌∙◌, ap, subst}
use Rattle.atomic_table.specs.Table.{rest}
use Rattle.ram_block.specs.Shape.{total_pages_of}
use Rattle.rv64i_step.specs.Request.{written_page}
use Rattle.wp_fault.specs.Queue.{QueueData, queued}
use Rattle.page_cell.specs.declared.cell.Cell.{Cell}
use Rattle.page_cell.specs.declared.cell.Cell.TheVariants as cells
use Rattle.page_cell.specs.declared.phase.Phase.TheVariants.{Protected}
use Rattle.bus_rule.specs.Kept.{queue_number}
use Rattle.bus_rule.specs.Plays.{CanGive, CanStop, IsFound, with_cell, with_stop, without_cell}
use Rattle.bus_rule.specs.Tells.{PassMe, TakesOrFinds, IsTaken, queue_in, stop_by, top_of, with_out, with_queued}
use Rattle.bus_rule.specs.Views.{Task, Role, Working, request_in}
use Rattle.page_bus.specs.Traced.{TracedData, traced_of}
use Rattle.page_bus.proofs.CellKinds.{IsQueueOf, queue_kind}
use Rattle.page_bus.proofs.Moved.{seen, was_held}

-- ---- A seat that holds one cell, and found another held

pub gives_back : (me : PassMe) (c : ℕ) (x : Cell) (below under : List (ℕ × Cell)) → me.0.held ≡ (c, x) ∷ below → me.1 ≡ (c, x) ∷ under → CanGive me c
gives_back me c x below under held out = record { cell = x; due = (below, held); out = (under, out) }

pub gives_after_held : (c d number found : ℕ) (x : Cell) (before after : PassMe) → found ≢ 0 → TakesOrFinds d number before found after →
    before.0.held ≡ (c, x) ∷ [] → before.1 ≡ (c, x) ∷ [] → CanGive after c
gives_after_held c d number found x before after some told held out =
    let view = (was_held d number found before after some told).view in
    gives_back after c x [] [] (ap (λ (m : PassMe). m.0.held) view ∙ held) (ap (λ (m : PassMe). m.1) view ∙ out)

-- ---- The stop

-- the queue's number, by what is kept
pub its_queue : (pages : ℕ) (t : Task) (d : TracedData) → d ≡ traced_of t → pages ≡ total_pages_of d.shape → pages + 2 ≡ queue_number (total_pages_of t.shape)
its_queue pages t d kept is = ap (λ n. n + 2) (is ∙ ap (λ (e : TracedData). total_pages_of e.shape) kept)

module _ (me : PassMe) (t : Task) (page : ℕ) (bytes : List ℕ) (role : me.0.role ≡ Working t) (held : me.0.held ≡ (page, top_of me.1) ∷ [])
    (out : me.1 ≡ (page, top_of me.1) ∷ []) (protected : top_of me.1 ≡ cells.Page bytes Protected) where
  abbrev pub under : List (ℕ × Cell)
  under = (page, cells.Page bytes Protected) ∷ []

  held_is : me.0.held ≡ under
  held_is = held ∙ ap (λ (x : Cell). (page, x) ∷ []) protected

  out_is : me.1 ≡ under
  out_is = out ∙ ap (λ (x : Cell). (page, x) ∷ []) protected

  module _ (c : ℕ) (number : c ≡ queue_number (total_pages_of t.shape)) (taken : PassMe) (told : IsTaken c me taken) where
    pub kind : IsQueueOf (total_pages_of t.shape) told.cell
    kind = queue_kind (total_pages_of t.shape) c told.cell number (subst (λ (r : Role). IsFound r c told.cell) role told.known)

    abbrev pub queue : QueueData
    queue = kind.queue

    abbrev pub more : QueueData
    more = record queue { list = queued queue.list page }

    pub is_taken : taken ≡ (seen me.0 (Working t) ((c, cells.Faults queue) ∷ under), (c, cells.Faults queue) ∷ under)
    is_taken =
        told.view
        ∙ ap (λ (x : Cell). (with_cell me.0 c x, (c, x) ∷ me.1)) kind.is
        ∙ ap (λ (r : Role). (seen me.0 r ((c, cells.Faults queue) ∷ me.0.held), (c, cells.Faults queue) ∷ me.1)) role
        ∙ ap (λ (h : List (ℕ × Cell)). (seen me.0 (Working t) ((c, cells.Faults queue) ∷ h), (c, cells.Faults queue) ∷ me.1)) held_is
        ∙ ap (λ (o : List (ℕ × Cell)). (seen me.0 (Working t) ((c, cells.Faults queue) ∷ under), (c, cells.Faults queue) ∷ o)) out_is

    module _ (pushed : PassMe) (is_push : pushed ≡ with_out c taken (with_queued (queue_in (top_of taken.1)) page)) where
      pub is_pushed : pushed ≡ (seen me.0 (Working t) ((c, cells.Faults queue) ∷ under), (c, cells.Faults more) ∷ under)
      is_pushed = is_push ∙ ap (λ (m : PassMe). with_out c m (with_queued (queue_in (top_of m.1)) page)) is_taken

      pub can_stop : written_page (request_in t) ≡ Some page → CanStop pushed.0 t c page bytes queue
      can_stop writes = record {
        role = ap (λ (m : PassMe). m.0.role) is_pushed;
        writes = writes;
        top = ([], ap (λ (m : PassMe). m.0.held) is_pushed);
      }

      module _ (marked : PassMe) (is_mark : marked ≡ (stop_by pushed.0 pushed.0.role pushed.0.held, pushed.1)) where
        pub is_marked : marked ≡ (seen me.0 (Working (with_stop t page)) ((c, cells.Faults more) ∷ under), (c, cells.Faults more) ∷ under)
        is_marked = is_mark ∙ ap (λ (m : PassMe). (stop_by m.0 m.0.role m.0.held, m.1)) is_pushed

        pub can_give : CanGive marked c
        can_give = gives_back marked c (cells.Faults more) under under (ap (λ (m : PassMe). m.0.held) is_marked) (ap (λ (m : PassMe). m.1) is_marked)

        module _ (given : PassMe) (is_give : given ≡ (without_cell marked.0, rest marked.1)) where
          pub is_given : given ≡ (seen me.0 (Working (with_stop t page)) under, under)
          is_given = is_give ∙ ap (λ (m : PassMe). (without_cell m.0, rest m.1)) is_marked

          pub can_give_page : CanGive given page
          can_give_page = gives_back given page (cells.Page bytes Protected) [] [] (ap (λ (m : PassMe). m.0.held) is_given) (ap (λ (m : PassMe). m.1) is_given)
