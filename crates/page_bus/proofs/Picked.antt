-- What the steps of a pick make of the saver's seat.
use Rattle.std.proofs.Common.{◌≡◌, ℕ, ◌+◌, [], ◌∷◌, ◌∙◌, ap, subst}
use Rattle.ram_block.specs.Shape.{ShapeData, total_pages_of}
use Rattle.wp_fault.specs.Queue.{QueueData}
use Rattle.page_cell.specs.declared.cell.Cell.{Cell}
use Rattle.page_cell.specs.declared.cell.Cell.TheVariants as cells
use Rattle.bus_rule.specs.Kept.{queue_number}
use Rattle.bus_rule.specs.Plays.{CanGive, CanPick, IsFound, book_after_pick}
use Rattle.bus_rule.specs.Tells.{PassMe, IsTaken, pick_by, queue_in, top_of, with_out, without_front}
use Rattle.bus_rule.specs.Views.{Book, Role, Saving}
use Rattle.page_bus.proofs.CellKinds.{IsQueueOf, queue_kind}
use Rattle.page_bus.proofs.Moved.{seen, taken_is}
use Rattle.page_bus.proofs.Stops.{gives_back}

-- the queue's number, by the shape that is kept
pub saver_queue : (pages : ℕ) (b : Book) (shape : ShapeData) → shape ≡ b.instant.shape → pages ≡ total_pages_of shape → pages + 2 ≡ queue_number (total_pages_of b.instant.shape)
saver_queue pages b shape kept is = ap (λ n. n + 2) (is ∙ ap total_pages_of kept)

module _ (me : PassMe) (b : Book) (role : me.0.role ≡ Saving b) (none_held : me.0.held ≡ []) (out : me.1 ≡ [])
    (c : ℕ) (number : c ≡ queue_number (total_pages_of b.instant.shape)) (taken : PassMe) (told : IsTaken c me taken) where
  pub kind : IsQueueOf (total_pages_of b.instant.shape) told.cell
  kind = queue_kind (total_pages_of b.instant.shape) c told.cell number (subst (λ (r : Role). IsFound r c told.cell) role told.known).0

  abbrev pub queue : QueueData
  queue = kind.queue

  pub is_taken : taken ≡ (seen me.0 (Saving b) ((c, cells.Faults queue) ∷ []), (c, cells.Faults queue) ∷ [])
  is_taken =
      taken_is c told.cell (Saving b) me taken role none_held out told.view
      ∙ ap (λ (x : Cell). (seen me.0 (Saving b) ((c, x) ∷ []), (c, x) ∷ [])) kind.is

  module _ (popped : PassMe) (is_pop : popped ≡ with_out c taken (without_front (queue_in (top_of taken.1)))) where
    pub is_popped : popped ≡ (seen me.0 (Saving b) ((c, cells.Faults queue) ∷ []), (c, without_front queue) ∷ [])
    is_popped = is_pop ∙ ap (λ (m : PassMe). with_out c m (without_front (queue_in (top_of m.1)))) is_taken

    pub can_pick : CanPick popped.0 b c queue
    can_pick = record {
      role = ap (λ (m : PassMe). m.0.role) is_popped;
      top = ([], ap (λ (m : PassMe). m.0.held) is_popped);
    }

    module _ (marked : PassMe) (is_mark : marked ≡ (pick_by popped.0 popped.0.role popped.0.held, popped.1)) where
      pub is_marked : marked ≡ (seen me.0 (Saving (book_after_pick b queue.list)) ((c, without_front queue) ∷ []), (c, without_front queue) ∷ [])
      is_marked = is_mark ∙ ap (λ (m : PassMe). (pick_by m.0 m.0.role m.0.held, m.1)) is_popped

      pub can_give : CanGive marked c
      can_give = gives_back marked c (without_front queue) [] [] (ap (λ (m : PassMe). m.0.held) is_marked) (ap (λ (m : PassMe). m.1) is_marked)
