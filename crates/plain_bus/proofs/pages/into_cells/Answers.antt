use Rattle.std.proofs.Common.{◌≡◌, ◌∙◌, ap, All, length, replicate, subst, sym, vec_len, arith}
use Rattle.plain_bus.specs.Cells.{IsWholePage, flags_of, ram_of, is_writable}
use Rattle.plain_bus.proofs.Cells.{all_moved, cell_in, flags_of-cells, ram_of-cells, whole_cells}
use Rattle.plain_bus.proofs.pages.into_cells.Goals as goal

pub returns-clause-ram : goal.returns-clause-ram
returns-clause-ram c =
    let none : length c.loop-bytes.ram.items ≡ 0 = grind arith in
    ap ram_of (all_moved (cell_in c.args.phase) c.loop-bytes.cells.items c.loop-bytes.ram.items c.args.ram.now.items c.loop-bytes.invariant.moved none)
    ∙ ram_of-cells c.args.phase c.args.ram.now.items

pub returns-clause-flags : goal.returns-clause-flags
returns-clause-flags c =
    let none : length c.loop-bytes.ram.items ≡ 0 = grind arith in
    let count : length c.args.ram.now.items ≡ vec_len c.args.ram.now = grind arith in
    ap flags_of (all_moved (cell_in c.args.phase) c.loop-bytes.cells.items c.loop-bytes.ram.items c.args.ram.now.items c.loop-bytes.invariant.moved none)
    ∙ flags_of-cells c.args.phase c.args.ram.now.items ∙ ap (λ n. replicate n (is_writable c.args.phase)) count

pub returns-clause-whole : goal.returns-clause-whole
returns-clause-whole c =
    let none : length c.loop-bytes.ram.items ≡ 0 = grind arith in
    subst (All IsWholePage)
    (sym (all_moved (cell_in c.args.phase) c.loop-bytes.cells.items c.loop-bytes.ram.items c.args.ram.now.items c.loop-bytes.invariant.moved none))
    (whole_cells c.args.phase c.args.ram.now.items c.requires.whole)
