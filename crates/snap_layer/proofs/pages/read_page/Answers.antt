use Rattle.std.proofs.Common.{sym, arith}
use Rattle.snap_layer.proofs.PageRead.{page_is_put}
use Rattle.snap_layer.proofs.pages.read_page.Goals as goal

pub returns-clause-ram : goal.returns-clause-ram
returns-clause-ram c = λ n.
    let inside = c.in_ok-number.ensures.inside in
    let count = c.len.ensures in
    page_is_put c.args.layer.now _ c.len.result c.args.least c.args.at n c.in_ok-number.number c.args.ram.now.items c.replace.new.page c.in_ok-bytes.bytes.now (omega arith) c.requires.whole (omega (arith, inside, count))
    (sym c.in_ok-number.ensures.answer) c.in_ok-bytes.ensures.whole c.replace.ensures.bytes
