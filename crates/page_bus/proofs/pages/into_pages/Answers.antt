use Rattle.std.proofs.Common.{◌≡◌, length, arith}
use Rattle.page_bus.specs.Moves.{page_in}
use Rattle.plain_bus.proofs.Cells.{all_moved}
use Rattle.page_bus.proofs.pages.into_pages.Goals as goal

pub returns-clause-cells : goal.returns-clause-cells
returns-clause-cells c =
    let none : length c.loop-bytes.ram.items ≡ 0 = grind arith in
    all_moved (page_in c.args.phase) c.loop-bytes.cells.items c.loop-bytes.ram.items c.args.ram.now.items c.loop-bytes.invariant.moved none
