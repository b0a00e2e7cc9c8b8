use Rattle.std.proofs.Common.{◌≡◌, ℕ, ◌+◌, ◌≤◌, length}
use Rattle.std.specs.List.{range_with_len}
use Rattle.flat_machine.specs.Run.{steps_of, turns}
use Rattle.medium.specs.Members.{file_state}
use Rattle.medium.specs.States.{Leaves}
use Rattle.vm_cli.specs.LazyRun.{GoesOnTold, IsUncut}
use Rattle.vm_cli.proofs.lazy_run.round.Given as goal

abbrev pub invariant-loop-k : goal.invariant-loop-k
invariant-loop-k g l = record {
  turns : GoesOnTold (g.M.Readable.told l.fn.lazy.medium.now) (λ p. turns l.ends p (range_with_len 0 l.k)) l.fn.lazy.held l.fn.order.members l.lazy.held l.order.members;
  shape : l.lazy.held.machine.shape ≡ l.fn.lazy.held.machine.shape;
  clock : l.lazy.held.machine.clock ≤ l.fn.lazy.held.machine.clock + l.k;
  steps : (most : ℕ) → ((j : ℕ) → steps_of l.fn.lazy.held.machine j ≤ most) → (j : ℕ) → steps_of l.lazy.held.machine j ≤ most + l.k;
  count : length l.order.members ≤ length l.fn.order.members + l.k;
  room : l.order.room ≡ l.fn.order.room;
  uncut : IsUncut (g.M.Readable.told l.lazy.medium.now) l.lazy.held;
  same_medium : l.lazy.medium.ghost_name ≡ l.fn.lazy.medium.ghost_name;
  leaves : Leaves (file_state g.M.Readable l.fn.lazy.medium.now) (file_state g.M.Readable l.lazy.medium.now);
}
