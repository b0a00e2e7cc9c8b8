use Rattle.plain_bus.specs.Cells.{is_writable}
use Rattle.page_bus.proofs.Opened.{is_opening, whole_again}
use Rattle.page_bus.proofs.open.opened.Goals as goal

pub new-requires : goal.new-requires
new-requires c =
    let made = c.into_cells-bare.ensures in
    is_opening c.args.machine c.of.result.value c.args.run c.args.protect (is_writable c.phase_at_start.result) c.args.room.words.items c.deref.result.now
    c.into_cells-bare.new.cells.items c.of.ensures made.limits c.requires.rest c.requires.most c.deref.ensures.value c.requires.room.words c.phase_at_start.ensures made.cells

pub returns-clause-no_memory : goal.returns-clause-no_memory
returns-clause-no_memory c =
    let made = c.into_cells-bare.ensures in
    c.out_of_cells.ensures.machine
    (whole_again c.args.machine c.into_cells-bare.result _ c.into_cells-bare.new.cells.items c.in-Err.cells.items made.limits made.bare made.cells c.in-Err.ensures.refused)
