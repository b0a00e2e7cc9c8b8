use Rattle.std.proofs.Common.{◌≡◌, vec_len}
use Rattle.lazy_restore.proofs.pages.zero_pages.Given as goal

abbrev pub invariant-loop : goal.invariant-loop
invariant-loop l = vec_len l.pages ≡ l.counter
