use Rattle.std.proofs.Common.{◌≡◌, ℕ, ◌+◌, ◌*◌, List, ◌++◌, Some, length, drop, vec_len}
use Rattle.medium.specs.Members.{file_state}
use Rattle.medium.specs.States.{Leaves}
use Rattle.ram_block.specs.declared.page_buf.TheConstants.{PAGE}
use Rattle.loader.specs.Frame.{cut_page}
use Rattle.loader.specs.Loaded.{block_pages}
use Rattle.loader.proofs.pages.read_pages.Given as goal

-- the pages so far stand behind those of earlier blocks; what is left is the rest of the block
abbrev pub invariant-loop-p : goal.invariant-loop-p
invariant-loop-p g l = record {
  bits : length l.bits.bits ≡ l.pages;
  pages : (file : List ℕ) → g.M.Readable.told l.fn.medium ≡ Some file
      → l.fn.ram.items ++ block_pages file l.first l.bits.bits ≡ l.ram.items ++ block_pages file (l.first + PAGE * l.p) (drop l.p l.bits.bits);
  count : vec_len l.ram ≡ vec_len l.fn.ram + l.p;
  cut : (file : List ℕ) → g.M.Readable.told l.fn.medium ≡ Some file → cut_page (length file) l.first l.bits.bits ≡ cut_page (length file) (l.first + PAGE * l.p) (drop l.p l.bits.bits);
  leaves : Leaves (file_state g.M.Readable l.fn.medium) (file_state g.M.Readable l.medium);
}
