use Rattle.std.proofs.Common.{◌≡◌, ℕ, ◌+◌, ◌∙◌, ap, sym, arith, List, ◌∷◌, ◌++◌, [], Err, vec_len}
use Rattle.std.proofs.lemmas.List.FromFn.{map-range_with_len_more}
use Rattle.medium.proofs.Leaves.{leaves_on}
use Rattle.page_bitmap.specs.Bitmap.{BitmapData}
use Rattle.page_peek.specs.Peeked.{block_bits}
use Rattle.page_peek.specs.declared.fault.PeekFault.{PeekFault}
use Rattle.page_peek.specs.declared.fault.PeekFault.TheVariants.{Refused}
use Rattle.page_peek.proofs.PagesOf.{bits_told}
use Rattle.page_peek.proofs.Refusals.{heads_found, refusal_here, refusal_none, refusal_on}
use Rattle.page_peek.proofs.heads.read_heads.Goals as goal

pub returns-in-Err-clause-refused : goal.returns-in-Err-clause-refused
returns-in-Err-clause-refused g c = λ file refusal told is.
    let s = c.args.shape.now in
    let same : c.in-Err.fault ≡ Refused refusal = cc in
    c.loop-block.invariant.refusal file told
    ∙ refusal_here file s c.loop-block.block s.blocks refusal (omega arith) (c.in-Err.ensures.refused file refusal (c.loop-block.invariant.leaves.told ∙ told) (ap (λ (f : PeekFault). Err f) same))

pub loop-block-preserved : goal.loop-block-preserved
loop-block-preserved g c =
    let s = c.args.shape.now in
    let block = c.loop-block.block in
    let count : vec_len c.loop-block.bits ≡ block = c.loop-block.invariant.count in
    record {
      refusal = λ file told.
          c.loop-block.invariant.refusal file told
          ∙ refusal_on file s block s.blocks (omega arith) (c.in_default.ensures.head file (c.loop-block.invariant.leaves.told ∙ told)).0;
      bits = λ file told.
          (c.in_default.ensures.head file (c.loop-block.invariant.leaves.told ∙ told)).1
          ∙ ap (λ (l : List BitmapData). l ++ block_bits file s block ∷ []) (c.loop-block.invariant.bits file told)
          ∙ sym (map-range_with_len_more (block_bits file s) 0 block block (omega arith));
      count = c.in_default.ensures.count ∙ ap (λ (k : ℕ). k + 1) count;
      pages = c.in_default.ensures.pages c.loop-block.invariant.pages;
      leaves = leaves_on c.loop-block.invariant.leaves c.in_default.ensures.leaves;
    }

pub returns-clause-heads : goal.returns-clause-heads
returns-clause-heads g c = λ file told.
    let s = c.args.shape.now in
    let block = c.loop-block.block in
    let all : block ≡ s.blocks = omega arith in (
      heads_found file s c.blocks-2.ensures.limits (c.loop-block.invariant.refusal file told ∙ refusal_none file s block s.blocks (omega arith)),
      bits_told file s block c.loop-block.bits.items all (c.loop-block.invariant.bits file told),
    )
