use Rattle.std.proofs.Common.{◌≡◌, ◌∙◌, ap, length, subst, sym, arith}
use Rattle.page_cell.specs.Cell.{bytes_in}
use Rattle.flat_machine.specs.Page.{joined}
use Rattle.flat_machine.proofs.Pages.{AreWhole}
use Rattle.plain_bus.proofs.Cells.{all_moved, joined-bytes, whole_bytes}
use Rattle.plain_bus.proofs.pages.into_ram.Goals as goal

pub returns-clause-ram : goal.returns-clause-ram
returns-clause-ram c =
    let none : length c.loop-cell.cells.items ≡ 0 = grind arith in
    ap joined (all_moved bytes_in c.loop-cell.ram.items c.loop-cell.cells.items c.args.cells.now.items c.loop-cell.invariant.moved none)
    ∙ joined-bytes c.args.cells.now.items

pub returns-clause-whole : goal.returns-clause-whole
returns-clause-whole c =
    let none : length c.loop-cell.cells.items ≡ 0 = grind arith in
    subst AreWhole (sym (all_moved bytes_in c.loop-cell.ram.items c.loop-cell.cells.items c.args.cells.now.items c.loop-cell.invariant.moved none))
    (whole_bytes c.args.cells.now.items c.requires.whole)
