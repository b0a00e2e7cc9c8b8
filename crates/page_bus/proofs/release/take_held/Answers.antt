use Rattle.page_cell.specs.Cell.{bytes_in}
use Rattle.bus_rule.specs.Tells.{top_of}
use Rattle.page_bus.specs.Passes.{book_of}
use Rattle.page_bus.proofs.Released.{can_release}
use Rattle.page_bus.proofs.release.take_held.Goals as goal

pub mark_released-requires-clause-can : goal.mark_released-requires-clause-can
mark_released-requires-clause-can c =
    let me = c.args.seat.now.me in
    let copied = c.copy_out-answer.ensures in (
      book_of me.0,
      bytes_in (top_of me.1),
      can_release me _ (book_of me.0) c.args.page _ c.copy_out-answer.result c.requires.role c.requires.holds.held c.requires.page copied.taken c.in-Copied.is copied.after,
    )
