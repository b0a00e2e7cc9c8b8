use Rattle.std.proofs.Common.{◌≡◌, ℕ, suc, ◌+◌, ◌-◌, ◌*◌, vec_len, ap, sym, ◌∙◌, arith}
use Rattle.flat_machine.specs.Page.{joined}
use Rattle.snap_layer.specs.Reading.{ram_in}
use Rattle.snap_layer.proofs.PageRead.{ram_none}
use Rattle.snap_layer.proofs.pages.read_pages.Goals as goal

pub returns-in-Err-clause-refused : goal.returns-in-Err-clause-refused
returns-in-Err-clause-refused c =
    let n = c.args.count - (c.loop-i.i + 1) in
    let left : c.args.count - c.loop-i.i ≡ suc n = omega arith in
    let at = 36 + 4100 * c.loop-i.i in
    c.loop-i.invariant.rest
    ∙ ap (λ (k : ℕ). ram_in c.args.layer.now (vec_len c.args.ram.now) k c.loop-i.least at (joined c.loop-i.ram.items)) left
    ∙ ap (λ (k : ℕ). ram_in c.args.layer.now k (suc n) c.loop-i.least at (joined c.loop-i.ram.items)) (sym c.loop-i.invariant.pages)
    ∙ c.in-Err.ensures.refused n

pub returns-clause-ram : goal.returns-clause-ram
returns-clause-ram c =
    let at = 36 + 4100 * c.loop-i.i in
    let none_left : c.args.count - c.loop-i.i ≡ 0 = omega arith in
    c.loop-i.invariant.rest
    ∙ ap (λ (k : ℕ). ram_in c.args.layer.now (vec_len c.args.ram.now) k c.loop-i.least at (joined c.loop-i.ram.items)) none_left
    ∙ ram_none c.args.layer.now (vec_len c.args.ram.now) c.loop-i.least at (joined c.loop-i.ram.items)
