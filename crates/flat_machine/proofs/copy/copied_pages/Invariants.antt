use Rattle.std.proofs.Common.{◌≡◌, take}
use Rattle.flat_machine.proofs.copy.copied_pages.Given as goal

abbrev pub invariant-loop-page : goal.invariant-loop-page
invariant-loop-page l = l.copy.items ≡ take l.page-index l.ram
