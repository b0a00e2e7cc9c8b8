-- As many clear bitmaps as there are blocks.
use Rattle.std.proofs.Common.{◌≡◌, ◌*◌, refl, ap, ◌∙◌, arith}
use Rattle.bg_saver.specs.Inside.{joined_bits}
use Rattle.bg_saver.proofs.JoinedBits.{clear_joined}
use Rattle.bg_saver.proofs.progress.bitmaps_for.Goals as goal

pub returns-clause-clear : goal.returns-clause-clear
returns-clause-clear c =
    let all : c.args.shape.now.blocks ≡ c.loop.counter = omega (arith, c.loop-test.false, c.loop.auto.counter-end, c.blocks-end.ensures.value) in
    ap joined_bits c.loop.invariant ∙ clear_joined c.loop.counter _ c.args.shape.now.pages _ refl (ap (λ n. n * c.args.shape.now.pages) all)
