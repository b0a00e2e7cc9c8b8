use Rattle.std.proofs.Common.{◌≡◌, ℕ, ap, ◌∙◌, arith}
use Rattle.std.specs.List.{filter, range_with_len}
use Rattle.ram_block.specs.Shape.{total_pages_of}
use Rattle.snap_layer.specs.Layer.{differs}
use Rattle.snap_layer.proofs.Changed.{filter_inside}
use Rattle.snap_layer.proofs.put.changed.Goals as goal

pub returns-clause-inside : goal.returns-clause-inside
returns-clause-inside c =
    let test = differs c.args.base.now c.args.now.now in
    let total = total_pages_of c.args.now.now.shape in
    let end : c.total_pages-p-end.result ≡ total = c.total_pages-p-end.ensures.value ∙ ap total_pages_of c.shape.ensures.value in
    let last : c.loop-p.p ≡ c.total_pages-p-end.result = omega arith in
    filter_inside test total c.loop-p.pages.items (c.loop-p.invariant.pages ∙ ap (λ (k : ℕ). filter test (range_with_len 0 k)) (last ∙ end))
