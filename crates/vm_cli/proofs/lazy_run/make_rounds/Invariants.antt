use Rattle.std.proofs.Common.{◌≡◌, ℕ, ◌+◌, ◌*◌, ◌^◌, ◌≤◌, [], length}
use Rattle.flat_machine.specs.Run.{rounds_on, steps_of}
use Rattle.medium.specs.Members.{file_state}
use Rattle.medium.specs.States.{Leaves}
use Rattle.vm_cli.specs.LazyRun.{GoesOnTold, IsUncut}
use Rattle.vm_cli.proofs.lazy_run.make_rounds.Given as goal

abbrev pub invariant-loop-done : goal.invariant-loop-done
invariant-loop-done g l = record {
  rounds : GoesOnTold (g.M.Readable.told l.fn.lazy.medium.now) (rounds_on l.ends l.done) l.fn.lazy.held [] l.lazy.held l.order.members;
  shape : l.lazy.held.machine.shape ≡ l.fn.lazy.held.machine.shape;
  clock : l.lazy.held.machine.clock ≤ 2 ^ 62 + 8 * l.done;
  steps : (j : ℕ) → steps_of l.lazy.held.machine j ≤ 2 ^ 62 + 8 * l.done;
  count : length l.order.members ≤ length l.ends * l.done;
  room : l.order.room ≡ l.fn.order.room;
  uncut : IsUncut (g.M.Readable.told l.lazy.medium.now) l.lazy.held;
  same_medium : l.lazy.medium.ghost_name ≡ l.fn.lazy.medium.ghost_name;
  leaves : Leaves (file_state g.M.Readable l.fn.lazy.medium.now) (file_state g.M.Readable l.lazy.medium.now);
}
