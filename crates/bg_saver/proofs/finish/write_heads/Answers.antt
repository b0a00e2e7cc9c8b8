-- The heads of the blocks so far.
use Rattle.std.proofs.Common.{◌+◌, ◌<◌, refl, arith}
use Rattle.bg_saver.proofs.Calls.{heads_cut, heads_go_on}
use Rattle.bg_saver.proofs.Results.{on_err}
use Rattle.bg_saver.proofs.finish.write_heads.Goals as goal

pub returns-in_err-write_head-clause-cut : goal.returns-in_err-write_head-clause-cut
returns-in_err-write_head-clause-cut g c =
    let d = c.args.progress.now in
    let lt : c.loop-block.block < d.shape.blocks = omega (arith, c.loop-block-test.true, c.blocks-block-end.ensures.blocks) in
    on_err _ _ (heads_cut g.M.Readable d c.loop-block.block d.shape.blocks _ c.loop-block.medium _ lt c.loop-block.invariant c.in_err-write_head.ensures.written)

pub loop-block-preserved : goal.loop-block-preserved
loop-block-preserved g c = heads_go_on g.M.Readable c.args.progress.now c.loop-block.block (c.loop-block.block + 1) _ c.loop-block.medium _ refl c.loop-block.invariant c.in_ok-write_head.ensures.written
