use Rattle.std.proofs.Common.{◌≡◌, ℕ, ◌-◌, List, Some, All, map, vec_len}
use Rattle.std.specs.List.{range_with_len}
use Rattle.medium.specs.Members.{file_state}
use Rattle.medium.specs.States.{Leaves}
use Rattle.page_peek.specs.Heads.{heads_refusal, refusal_from}
use Rattle.page_peek.specs.Peeked.{block_bits}
use Rattle.page_peek.proofs.heads.read_heads.Given as goal

-- no head piece so far is refused, and their bitmaps are there; what is left to look at goes on from here
abbrev pub invariant-loop-block : goal.invariant-loop-block
invariant-loop-block g l = record {
  refusal : (file : List ℕ) → g.M.Readable.told l.fn.medium ≡ Some file → heads_refusal file l.shape ≡ refusal_from file l.shape l.block (l.shape.blocks - l.block);
  bits : (file : List ℕ) → g.M.Readable.told l.fn.medium ≡ Some file → l.bits.items ≡ map (block_bits file l.shape) (range_with_len 0 l.block);
  count : vec_len l.bits ≡ l.block;
  pages : All (λ b. b.pages ≡ l.shape.pages) l.bits.items;
  leaves : Leaves (file_state g.M.Readable l.fn.medium) (file_state g.M.Readable l.medium);
}
