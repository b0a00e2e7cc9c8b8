use Rattle.std.proofs.Common.{◌≡◌, ◌∙◌, ap, sym, subst, Ok}
use Rattle.medium.specs.Members.{file_state}
use Rattle.flat_machine.specs.Laws.{event_cell}
use Rattle.flat_machine.specs.Machine.{MachineData}
use Rattle.lazy_restore.specs.Answers.{LeavesReach}
use Rattle.lazy_restore.specs.Lazy.{IsLazy, LazyData, machine_in, new_page, page_of_cell}
use Rattle.lazy_restore.proofs.Stepped.{fails_running, step_leaves}
use Rattle.lazy_restore.proofs.held.Held.step.Goals as goal

pub returns-in-Err-clause-halted : goal.returns-in-Err-clause-halted
returns-in-Err-clause-halted g c =
    fails_running (file_state g.M.Readable c.args.medium.now) (file_state g.M.Readable c.reach.new.medium) c.args.self.now c.reach.new.self c.args.k c.in-Err.fault c.failed.result c.failed.ensures c.in-Err.ensures.reach

pub returns-clause-step : goal.returns-clause-step
returns-clause-step g c =
    let ready : LazyData = record { machine = c.in-Some.machine; peek = c.self.inside.peek; touched = c.self.inside.touched.list } in
    let is : ready ≡ c.reach.new.self =
    ap (λ (m : MachineData). record { machine = m; peek = c.self.inside.peek; touched = c.self.inside.touched.list }) (ap machine_in (sym c.in-Some.is)) ∙ c.self.view_is in
    let file = file_state g.M.Readable c.args.medium.now in
    let now = file_state g.M.Readable c.reach.new.medium in
    step_leaves file now c.args.self.now ready c.args.k c.step.result c.of.result c.step.new.self c.of.ensures c.step.ensures.event c.reach.ensures.was (subst IsLazy (sym is) c.reach.ensures.limits)
    (subst (λ (e : LazyData). LeavesReach file now c.args.self.now (new_page c.args.self.now (page_of_cell (event_cell c.args.self.now.machine c.args.k))) (Ok tt) e) (sym is) c.in_default.ensures.reach)
