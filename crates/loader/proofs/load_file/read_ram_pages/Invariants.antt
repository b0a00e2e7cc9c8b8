use Rattle.std.proofs.Common.{◌≡◌, ℕ, ◌*◌, ◌++◌, List, Some, drop, vec_len}
use Rattle.medium.specs.Members.{file_state}
use Rattle.medium.specs.States.{Leaves}
use Rattle.loader.specs.Loaded.{pages_from}
use Rattle.loader.specs.Whole.{AreWhole}
use Rattle.loader.proofs.load_file.read_ram_pages.Given as goal

-- the pages of the blocks so far are read, and what is left are those of the other blocks
abbrev pub invariant-loop-block : goal.invariant-loop-block
invariant-loop-block g l = record {
  ram : (file : List ℕ) → g.M.Readable.told l.fn.medium ≡ Some file → pages_from file l.shape.pages 0 l.bits ≡ l.ram.items ++ pages_from file l.shape.pages l.block (drop l.block l.bits);
  whole : (file : List ℕ) → AreWhole file l.shape.pages 0 l.bits → AreWhole file l.shape.pages l.block (drop l.block l.bits);
  count : vec_len l.ram ≡ l.block * l.shape.pages;
  leaves : Leaves (file_state g.M.Readable l.fn.medium) (file_state g.M.Readable l.medium);
}
