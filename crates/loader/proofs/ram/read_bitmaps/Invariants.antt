use Rattle.std.proofs.Common.{◌≡◌, ℕ, ◌-◌, ◌<◌, List, Some, All, vec_len}
use Rattle.medium.specs.Members.{file_state}
use Rattle.medium.specs.States.{Leaves}
use Rattle.loader.specs.Frame.{bitmaps_in, blocks_in}
use Rattle.loader.specs.Stands.{HasBlock, HasHeader}
use Rattle.loader.proofs.ram.read_bitmaps.Given as goal

-- the blocks so far are read, and what is left to read goes on from here
abbrev pub invariant-loop-block : goal.invariant-loop-block
invariant-loop-block g l = record {
  answer : (file : List ℕ) → g.M.Readable.told l.fn.medium ≡ Some file → bitmaps_in file l.shape.pages l.shape.blocks ≡ blocks_in file l.shape.pages l.block (l.shape.blocks - l.block) l.bits.items;
  stands : (file : List ℕ) → g.M.Readable.told l.fn.medium ≡ Some file → (block : ℕ) → 0 < block → block < l.block → HasBlock file l.shape.pages block;
  first : (file : List ℕ) → g.M.Readable.told l.fn.medium ≡ Some file → HasHeader file l.shape.pages 0;
  count : vec_len l.bits ≡ l.block;
  pages : All (λ b. b.pages ≡ l.shape.pages) l.bits.items;
  leaves : Leaves (file_state g.M.Readable l.fn.medium) (file_state g.M.Readable l.medium);
}
