use Rattle.std.proofs.Common.{◌≡◌, ◌++◌, take}
use Rattle.order_log.specs.Text.{packed}
use Rattle.order_log.proofs.put.put_members.Given as goal

abbrev pub invariant-loop-i : goal.invariant-loop-i
invariant-loop-i l = l.out.items ≡ l.fn.out.items ++ take l.i (packed l.order.members)
