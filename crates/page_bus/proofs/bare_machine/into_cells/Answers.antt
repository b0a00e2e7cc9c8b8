use Rattle.std.proofs.Common.{◌≡◌, ◌∷◌, [], ◌++◌, length, ◌∙◌, ap, arith}
use Rattle.ram_block.specs.Shape.{total_pages_of}
use Rattle.page_cell.specs.declared.cell.Cell.TheVariants as cells
use Rattle.page_bus.specs.Moves.{are_pages_in}
use Rattle.page_bus.proofs.CellMoves.{cells_moved}
use Rattle.page_bus.proofs.bare_machine.into_cells.Goals as goal

pub returns-clause-cells : goal.returns-clause-cells
returns-clause-cells c =
    let m = c.args.machine in
    let parts = c.into_parts-shape.ensures in
    let pages = are_pages_in c.args.phase c.into_parts-shape.result.ram.items in
    let count : length c.into_parts-shape.result.ram.items ≡ total_pages_of m.shape = grind (arith, parts.pages) in
    cells_moved m c.args.phase c.into_parts-shape.result.ram.items c.push_reserved-3.new.self.items parts.ram count parts.whole
    (c.push_reserved-3.ensures.items
    ∙ ap (λ xs. xs ++ cells.Faults c.args.faults ∷ []) c.push_reserved-2.ensures.items
    ∙ ap (λ xs. (xs ++ cells.Timer c.into_parts-shape.result.timer ∷ []) ++ cells.Faults c.args.faults ∷ []) c.push_reserved.ensures.items
    ∙ ap (λ xs. ((xs ++ cells.Serial c.into_parts-shape.result.serial ∷ []) ++ cells.Timer c.into_parts-shape.result.timer ∷ []) ++ cells.Faults c.args.faults ∷ []) c.into_pages.ensures.cells
    ∙ ap (λ s. ((pages ++ cells.Serial s ∷ []) ++ cells.Timer c.into_parts-shape.result.timer ∷ []) ++ cells.Faults c.args.faults ∷ []) parts.serial
    ∙ ap (λ t. ((pages ++ cells.Serial m.serial ∷ []) ++ cells.Timer t ∷ []) ++ cells.Faults c.args.faults ∷ []) parts.timer
    ∙ ap (λ q. ((pages ++ cells.Serial m.serial ∷ []) ++ cells.Timer m.cmp ∷ []) ++ cells.Faults q ∷ []) c.requires.faults)
