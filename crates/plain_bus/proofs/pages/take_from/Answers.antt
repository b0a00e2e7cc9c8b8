use Rattle.std.proofs.Common.{◌<◌, List, length, not, refl, sym, ◌∙◌, ap, arith}
use Rattle.page_cell.specs.Cell.{bytes_in, phase_in}
use Rattle.flat_machine.specs.Page.{page_at}
use Rattle.plain_bus.specs.Cells.{buffer_after, flags_after, flags_of, is_writable, ram_of, taken_where}
use Rattle.plain_bus.proofs.Cells.{bytes_at, protected_at, ram_of-same}
use Rattle.plain_bus.proofs.Takes.{buffer_by, flags_by, taken_by}
use Rattle.plain_bus.proofs.pages.take_from.Goals as goal

pub returns-clause-taken : goal.returns-clause-taken
returns-clause-taken c =
    let within : c.args.page < length c.args.pages.now.items = grind arith in
    let cell = c.index_mut-cell.result.now in
    c.take.ensures.taken ∙ taken_by (phase_in cell)
    ∙ ap taken_where (sym (protected_at c.args.pages.now.items c.args.page cell (phase_in cell) c.index_mut-cell.ensures.value within refl))

pub returns-clause-ram : goal.returns-clause-ram
returns-clause-ram c =
    ram_of-same c.args.pages.now.items c.args.page c.take.new.self c.index_mut-cell.result.now (ap bytes_in c.take.ensures.cell ∙ ap bytes_in c.index_mut-cell.ensures.value)

pub returns-clause-flags : goal.returns-clause-flags
returns-clause-flags c =
    let within : c.args.page < length c.args.pages.now.items = grind arith in
    let cell = c.index_mut-cell.result.now in
    flags_by c.args.pages.now.items c.args.page cell (bytes_in cell) c.take.new.self (phase_in cell) c.index_mut-cell.ensures.value refl c.take.ensures.cell
    ∙ ap (flags_after (flags_of c.args.pages.now.items) c.args.page) (sym (protected_at c.args.pages.now.items c.args.page cell (phase_in cell) c.index_mut-cell.ensures.value within refl))

pub returns-clause-buffer : goal.returns-clause-buffer
returns-clause-buffer c =
    let within : c.args.page < length c.args.pages.now.items = grind arith in
    let cell = c.index_mut-cell.result.now in
    c.take.ensures.buffer
    ∙ buffer_by (phase_in cell) (bytes_in cell) c.args.into.now
    ∙ ap (λ (page : List _). buffer_after page c.args.into.now (not (is_writable (phase_in cell)))) (bytes_at c.args.pages.now.items c.args.page cell c.index_mut-cell.ensures.value c.requires.whole within)
    ∙ ap (buffer_after (page_at (ram_of c.args.pages.now.items) c.args.page) c.args.into.now) (sym (protected_at c.args.pages.now.items c.args.page cell (phase_in cell) c.index_mut-cell.ensures.value within refl))
