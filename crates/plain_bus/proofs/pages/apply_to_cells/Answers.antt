use Rattle.std.proofs.Common.{◌<◌, length, ◌∙◌, arith}
use Rattle.plain_bus.proofs.Cells.{free_at, gives_at, ram_at, flags_at, pages_at}
use Rattle.plain_bus.proofs.pages.apply_to_cells.Goals as goal

pub apply-requires-clause-free : goal.apply-requires-clause-free
apply-requires-clause-free c =
    let within : c.args.page < length c.args.pages.now.items = grind arith in
    free_at c.args.pages.now.items c.args.request.now c.args.page c.index_mut.result.now c.index_mut.ensures.value c.requires.whole within
    c.requires.touches c.requires.free

pub returns-clause-gives : goal.returns-clause-gives
returns-clause-gives c =
    let within : c.args.page < length c.args.pages.now.items = grind arith in
    c.apply.ensures.gives
    ∙ gives_at c.args.pages.now.items c.args.request.now c.args.page c.index_mut.result.now c.args.time c.index_mut.ensures.value c.requires.whole within c.requires.fits

pub returns-clause-after : goal.returns-clause-after
returns-clause-after c =
    let within : c.args.page < length c.args.pages.now.items = grind arith in
    ram_at c.args.pages.now.items c.args.request.now c.args.page c.index_mut.result.now c.apply.new.self c.index_mut.ensures.value c.apply.ensures.after
    c.requires.whole within c.requires.fits

pub returns-clause-flags : goal.returns-clause-flags
returns-clause-flags c =
    let within : c.args.page < length c.args.pages.now.items = grind arith in
    flags_at c.args.pages.now.items c.args.request.now c.args.page c.index_mut.result.now c.apply.new.self c.index_mut.ensures.value c.apply.ensures.after
    c.requires.whole within c.requires.fits

pub returns-clause-whole : goal.returns-clause-whole
returns-clause-whole c =
    let within : c.args.page < length c.args.pages.now.items = grind arith in
    pages_at c.args.pages.now.items c.args.request.now c.args.page c.index_mut.result.now c.apply.new.self c.index_mut.ensures.value c.apply.ensures.after
    c.apply.ensures.limits c.requires.whole within
