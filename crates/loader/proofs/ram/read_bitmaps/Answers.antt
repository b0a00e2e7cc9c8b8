use Rattle.std.proofs.Common.{◌≡◌, ℕ, suc, ◌+◌, ◌-◌, ◌∙◌, ap, arith, vec_len}
use Rattle.medium.proofs.Leaves.{leaves_on}
use Rattle.loader.proofs.Blocks.{refused_on, none_left, one_more}
use Rattle.loader.specs.Frame.{bitmaps_in, blocks_in}
use Rattle.loader.proofs.ram.read_bitmaps.Goals as goal

pub returns-in-Err-clause-answer : goal.returns-in-Err-clause-answer
returns-in-Err-clause-answer g c = λ file told.
    let n = c.args.shape.now.blocks - (c.loop-block.block + 1) in
    let left : c.args.shape.now.blocks - c.loop-block.block ≡ suc n = omega arith in
    refused_on (bitmaps_in file c.args.shape.now.pages c.args.shape.now.blocks) (blocks_in file c.args.shape.now.pages c.loop-block.block (suc n) c.loop-block.bits.items) c.in-Err.fault
    (c.loop-block.invariant.answer file told ∙ ap (λ (k : ℕ). blocks_in file c.args.shape.now.pages c.loop-block.block k c.loop-block.bits.items) left)
    (c.in-Err.ensures.answer file n (c.loop-block.invariant.leaves.told ∙ told))

pub returns-clause-answer : goal.returns-clause-answer
returns-clause-answer g c = λ file told.
    c.loop-block.invariant.answer file told ∙ none_left file c.args.shape.now.pages c.loop-block.block (c.args.shape.now.blocks - c.loop-block.block) c.loop-block.bits.items (omega arith)

pub loop-block-preserved : goal.loop-block-preserved
loop-block-preserved g c =
    let n = c.args.shape.now.blocks - (c.loop-block.block + 1) in
    let left : c.args.shape.now.blocks - c.loop-block.block ≡ suc n = omega arith in
    let count : vec_len c.loop-block.bits ≡ c.loop-block.block = c.loop-block.invariant.count in
    record {
      answer = λ file told.
          c.loop-block.invariant.answer file told
          ∙ ap (λ (k : ℕ). blocks_in file c.args.shape.now.pages c.loop-block.block k c.loop-block.bits.items) left
          ∙ c.in_default.ensures.answer file n (c.loop-block.invariant.leaves.told ∙ told);
      stands = λ file told.
          one_more file c.args.shape.now.pages c.loop-block.block (c.loop-block.invariant.stands file told)
          (c.in_default.ensures.stands file (c.loop-block.invariant.leaves.told ∙ told));
      first = c.loop-block.invariant.first;
      count = c.in_default.ensures.count ∙ ap (λ (k : ℕ). k + 1) count;
      pages = c.in_default.ensures.pages c.loop-block.invariant.pages;
      leaves = leaves_on c.loop-block.invariant.leaves c.in_default.ensures.leaves;
    }
