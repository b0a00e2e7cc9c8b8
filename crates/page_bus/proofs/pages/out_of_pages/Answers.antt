use Rattle.std.proofs.Common.{◌≡◌, length, arith}
use Rattle.page_cell.specs.Cell.{bytes_in}
use Rattle.plain_bus.proofs.Cells.{all_moved}
use Rattle.page_bus.proofs.pages.out_of_pages.Goals as goal

pub returns : goal.returns
returns c =
    let none : length c.loop-cell.cells.items ≡ 0 = grind arith in
    all_moved bytes_in c.loop-cell.ram.items c.loop-cell.cells.items c.args.cells.now.items c.loop-cell.invariant.moved none
