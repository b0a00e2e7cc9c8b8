-- The phase ran as without a file; where a page that it hadn't touched isn't read, its order is left.
use Rattle.std.proofs.Common.{rules, ◌∙◌}
use Rattle.medium.specs.Members.{file_state}
use Rattle.vm_cli.proofs.LazyEnds.{ends_behind, finish_unread, ran_by_touch}
use Rattle.vm_cli.proofs.lazy.restore_lazily.Goals as goal

pub returns-in-Ok-finish-clause-done : goal.returns-in-Ok-finish-clause-done
returns-in-Ok-finish-clause-done g c = λ done. (
  c.touched-pages.result,
  c.in-Ok-finish.machine,
  ran_by_touch (g.M.Readable.told c.args.input.now) (g.M.Readable.told c.open.new.medium) (g.M.Readable.told c.run_lazily.new.lazy.medium.now) c.args.n c.in_ok-held.held c.run_lazily.new.lazy.held c.in-Ok.order.members
      c.touched-pages.result c.in-Ok-finish.machine c.in_ok-held.ensures.leaves.told (c.in-Ok.ensures.leaves.told ∙ c.in_ok-held.ensures.leaves.told) c.in_ok-held.ensures.opens.shows c.in-Ok.ensures.ran
      c.in-Ok-finish.ensures.finish.shown c.touched-pages.ensures.value,
  search rules,
)

pub returns-in-Err-finish-clause-stopped : goal.returns-in-Err-finish-clause-stopped
returns-in-Err-finish-clause-stopped g c = λ undone.
    rw c.page_fault.ensures
    (ends_behind (file_state g.M.Readable c.args.input.now) (file_state g.M.Readable c.open.new.medium) (file_state g.M.Readable c.run_lazily.new.lazy.medium.now) (record (file_state g.M.Readable c.run_lazily.new.lazy.medium.now) { faults = _ }) c.args.n c.in_ok-held.held c.run_lazily.new.lazy.held
    c.in-Ok.order.members c.in-Err-finish.fault c.in_ok-held.ensures.leaves.told (c.in-Ok.ensures.leaves.told ∙ c.in_ok-held.ensures.leaves.told) c.in_ok-held.ensures.opens.shows c.in-Ok.ensures.ran
    (finish_unread (file_state g.M.Readable c.run_lazily.new.lazy.medium.now) (record (file_state g.M.Readable c.run_lazily.new.lazy.medium.now) { faults = _ }) c.run_lazily.new.lazy.held c.in-Err-finish.fault c.touched-pages.ensures.limits c.in-Ok.ensures.uncut c.in-Err-finish.ensures.finish))
