use Rattle.std.proofs.Common.{All, length, map, sym, ◌∙◌, ap, subst, arith}
use Rattle.std.proofs.lemmas.List.{length-map}
use Rattle.ram_block.specs.Shape.{total_pages_of}
use Rattle.flat_machine.specs.Machine.{MachineData}
use Rattle.flat_machine.specs.Page.{joined}
use Rattle.page_cell.specs.Cell.{IsPage, bytes_in}
use Rattle.page_bus.proofs.CellsBack.{are_pages, before_faults, before_timer, ends_with_faults, ends_with_serial, ends_with_timer, faults, in_pages, is_whole, pages_count}
use Rattle.page_bus.proofs.bare_machine.out_of_cells.Goals as goal

pub pop_faults-requires : goal.pop_faults-requires
pop_faults-requires c =
    let w = c.requires in
    (before_faults w.machine w.writable w.queue c.args.cells.items w.cells, faults w.machine w.writable w.queue c.args.cells.items w.cells, ends_with_faults w.machine w.writable w.queue c.args.cells.items w.cells)

pub pop_timer-timer-requires : goal.pop_timer-timer-requires
pop_timer-timer-requires c =
    let w = c.requires in
    let first = c.pop_faults.ensures (before_faults w.machine w.writable w.queue c.args.cells.items w.cells) (faults w.machine w.writable w.queue c.args.cells.items w.cells) (ends_with_faults w.machine w.writable w.queue c.args.cells.items w.cells) in
    (before_timer w.machine w.writable w.queue c.args.cells.items w.cells, w.machine.cmp, first ∙ ends_with_timer w.machine w.writable w.queue c.args.cells.items w.cells)

pub pop_serial-serial-requires : goal.pop_serial-serial-requires
pop_serial-serial-requires c =
    let w = c.requires in
    let first = c.pop_faults.ensures (before_faults w.machine w.writable w.queue c.args.cells.items w.cells) (faults w.machine w.writable w.queue c.args.cells.items w.cells) (ends_with_faults w.machine w.writable w.queue c.args.cells.items w.cells) in
    let second = c.pop_timer-timer.ensures.cells (before_timer w.machine w.writable w.queue c.args.cells.items w.cells) w.machine.cmp (first ∙ ends_with_timer w.machine w.writable w.queue c.args.cells.items w.cells) in
    (in_pages w.machine w.writable w.queue c.args.cells.items w.cells, w.machine.serial, second ∙ ends_with_serial w.machine w.writable w.queue c.args.cells.items w.cells)

pub out_of_pages-requires-clause-pages : goal.out_of_pages-requires-clause-pages
out_of_pages-requires-clause-pages c =
    let w = c.requires in
    let first = c.pop_faults.ensures (before_faults w.machine w.writable w.queue c.args.cells.items w.cells) (faults w.machine w.writable w.queue c.args.cells.items w.cells) (ends_with_faults w.machine w.writable w.queue c.args.cells.items w.cells) in
    let second = c.pop_timer-timer.ensures.cells (before_timer w.machine w.writable w.queue c.args.cells.items w.cells) w.machine.cmp (first ∙ ends_with_timer w.machine w.writable w.queue c.args.cells.items w.cells) in
    let third = c.pop_serial-serial.ensures.cells (in_pages w.machine w.writable w.queue c.args.cells.items w.cells) w.machine.serial (second ∙ ends_with_serial w.machine w.writable w.queue c.args.cells.items w.cells) in
    subst (All IsPage) (sym third) (are_pages w.machine w.writable w.queue c.args.cells.items w.cells)

pub out_of_pages-requires-clause-room : goal.out_of_pages-requires-clause-room
out_of_pages-requires-clause-room c =
    let w = c.requires in
    let first = c.pop_faults.ensures (before_faults w.machine w.writable w.queue c.args.cells.items w.cells) (faults w.machine w.writable w.queue c.args.cells.items w.cells) (ends_with_faults w.machine w.writable w.queue c.args.cells.items w.cells) in
    let second = c.pop_timer-timer.ensures.cells (before_timer w.machine w.writable w.queue c.args.cells.items w.cells) w.machine.cmp (first ∙ ends_with_timer w.machine w.writable w.queue c.args.cells.items w.cells) in
    let third = c.pop_serial-serial.ensures.cells (in_pages w.machine w.writable w.queue c.args.cells.items w.cells) w.machine.serial (second ∙ ends_with_serial w.machine w.writable w.queue c.args.cells.items w.cells) in
    let count = ap length third ∙ pages_count w.machine w.writable w.queue c.args.cells.items w.cells in
    let room = w.bare_of.room in
    grind (arith, count, room)

pub of-requires-clause-pages : goal.of-requires-clause-pages
of-requires-clause-pages c =
    let w = c.requires in
    let first = c.pop_faults.ensures (before_faults w.machine w.writable w.queue c.args.cells.items w.cells) (faults w.machine w.writable w.queue c.args.cells.items w.cells) (ends_with_faults w.machine w.writable w.queue c.args.cells.items w.cells) in
    let second = c.pop_timer-timer.ensures.cells (before_timer w.machine w.writable w.queue c.args.cells.items w.cells) w.machine.cmp (first ∙ ends_with_timer w.machine w.writable w.queue c.args.cells.items w.cells) in
    let third = c.pop_serial-serial.ensures.cells (in_pages w.machine w.writable w.queue c.args.cells.items w.cells) w.machine.serial (second ∙ ends_with_serial w.machine w.writable w.queue c.args.cells.items w.cells) in
    let count = ap length (c.out_of_pages.ensures ∙ ap (map bytes_in) third) ∙ (length-map (in_pages w.machine w.writable w.queue c.args.cells.items w.cells) bytes_in ∙ pages_count w.machine w.writable w.queue c.args.cells.items w.cells) ∙ ap total_pages_of (sym w.bare_of.shape) in
    grind (arith, count)

pub returns-clause-machine : goal.returns-clause-machine
returns-clause-machine c = λ w.
    (let first = c.pop_faults.ensures (before_faults w.machine w.writable w.queue c.args.cells.items w.cells) (faults w.machine w.writable w.queue c.args.cells.items w.cells) (ends_with_faults w.machine w.writable w.queue c.args.cells.items w.cells) in
    let is_timer = first ∙ ends_with_timer w.machine w.writable w.queue c.args.cells.items w.cells in
    let second = c.pop_timer-timer.ensures.cells (before_timer w.machine w.writable w.queue c.args.cells.items w.cells) w.machine.cmp is_timer in
    let is_serial = second ∙ ends_with_serial w.machine w.writable w.queue c.args.cells.items w.cells in
    let third = c.pop_serial-serial.ensures.cells (in_pages w.machine w.writable w.queue c.args.cells.items w.cells) w.machine.serial is_serial in
    let made = c.of.ensures.parts in
    is_whole w.machine w.writable w.queue c.args.cells.items w.cells w.serves c.of.result
    (ap (λ (m : MachineData). m.shape) made ∙ w.bare_of.shape)
    (ap (λ (m : MachineData). m.ram) made ∙ ap joined (c.out_of_pages.ensures ∙ ap (map bytes_in) third))
    (ap (λ (m : MachineData). m.vcpus) made ∙ w.bare_of.vcpus)
    (ap (λ (m : MachineData). m.serial) made ∙ c.pop_serial-serial.ensures.serial (in_pages w.machine w.writable w.queue c.args.cells.items w.cells) w.machine.serial is_serial)
    (ap (λ (m : MachineData). m.cmp) made ∙ c.pop_timer-timer.ensures.timer (before_timer w.machine w.writable w.queue c.args.cells.items w.cells) w.machine.cmp is_timer)
    (ap (λ (m : MachineData). m.clock) made ∙ w.bare_of.clock)
    c.of.ensures.limits.ram)
