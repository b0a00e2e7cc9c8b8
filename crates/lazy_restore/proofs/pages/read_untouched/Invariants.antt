use Rattle.std.proofs.Common.{◌≡◌, ℕ, ◌<◌, ◌≤◌, List, [], Some, get_or, false, vec_len}
use Rattle.medium.specs.Members.{file_state}
use Rattle.medium.specs.States.{Leaves}
use Rattle.ram_block.specs.PageLinks.{is_listed}
use Rattle.page_peek.specs.Peeked.{IsCutPage}
use Rattle.lazy_restore.specs.Rest.{rest_page}
use Rattle.lazy_restore.proofs.pages.read_untouched.Given as goal

-- the pages so far are read, and the others are as they were
abbrev pub invariant-loop-p : goal.invariant-loop-p
invariant-loop-p g l = record {
  read : (file : List ℕ) → g.M.Readable.told l.fn.medium ≡ Some file → (j : ℕ) → j < l.p → get_or l.ram.items j [] ≡ rest_page file l.peek l.touched.list l.fn.ram.items j;
  uncut : (file : List ℕ) → g.M.Readable.told l.fn.medium ≡ Some file → (j : ℕ) → j < l.p → is_listed l.touched.list j ≡ false → ¬ IsCutPage file l.peek j;
  others : (j : ℕ) → l.p ≤ j → get_or l.ram.items j [] ≡ get_or l.fn.ram.items j [];
  count : vec_len l.ram ≡ vec_len l.fn.ram;
  leaves : Leaves (file_state g.M.Readable l.fn.medium) (file_state g.M.Readable l.medium);
}
