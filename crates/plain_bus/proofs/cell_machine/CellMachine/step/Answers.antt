use Rattle.std.proofs.Common.{◌<◌, length, ◌∙◌, ap, arith}
use Rattle.rv64i_step.specs.Event.{request_of}
use Rattle.plain_bus.specs.Cells.{CellsData, flags_of}
use Rattle.plain_bus.proofs.Cells.{step_stopped}
use Rattle.plain_bus.proofs.cell_machine.CellMachine.step.Goals as goal

pub returns-then-is_none-clause-stopped : goal.returns-then-is_none-clause-stopped
returns-then-is_none-clause-stopped c =
    let vcpus = ap (λ (d : CellsData). d.machine.vcpus) c.self.view_is in
    let shape = ap (λ (d : CellsData). d.machine.shape) c.self.view_is in
    let within : c.args.k < length c.args.self.now.machine.vcpus = grind arith in
    step_stopped c.args.self.now c.deref.result.now (flags_of c.deref-2.result.now) c.args.k c.request_of-request.result c.stopped_on-stopped.result
    (c.deref.ensures.value ∙ vcpus) (ap flags_of c.deref-2.ensures.value ∙ ap (λ (d : CellsData). d.writable) c.self.view_is) within
    (λ v stood. c.request_of-request.ensures.request v stood ∙ ap (λ s. request_of s v) shape) c.stopped_on-stopped.ensures

pub returns-else-is_none-clause-stopped : goal.returns-else-is_none-clause-stopped
returns-else-is_none-clause-stopped c =
    let vcpus = ap (λ (d : CellsData). d.machine.vcpus) c.self.view_is in
    let shape = ap (λ (d : CellsData). d.machine.shape) c.self.view_is in
    let within : c.args.k < length c.args.self.now.machine.vcpus = grind arith in
    step_stopped c.args.self.now c.deref.result.now (flags_of c.deref-2.result.now) c.args.k c.request_of-request.result c.stopped_on-stopped.result
    (c.deref.ensures.value ∙ vcpus) (ap flags_of c.deref-2.ensures.value ∙ ap (λ (d : CellsData). d.writable) c.self.view_is) within
    (λ v stood. c.request_of-request.ensures.request v stood ∙ ap (λ s. request_of s v) shape) c.stopped_on-stopped.ensures
