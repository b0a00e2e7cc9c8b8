use Rattle.std.proofs.Common.{◌≡◌, not, replicate, sym, ◌∙◌, ap, subst}
use Rattle.ram_block.specs.Shape.{total_pages_of}
use Rattle.wp_fault.specs.Queue.{QueueData}
use Rattle.flat_machine.specs.Machine.{MachineData, IsMachine}
use Rattle.plain_bus.specs.Bus.{IsBus}
use Rattle.plain_bus.specs.Cells.{is_writable}
use Rattle.plain_bus.proofs.Starts.{start_same, starts}
use Rattle.plain_bus.proofs.plain_bus.PlainBus.over.Goals as goal
use Rattle.plain_bus.proofs.plain_bus.PlainBus.over.Goals.{then-protect, else-protect}

pub invariant_of-result : goal.invariant_of-result
invariant_of-result c =
    let flag : is_writable c.if-protect.phase ≡ not c.args.protect =
    elim c.if-protect.branch as (λ _. is_writable c.if-protect.phase ≡ not c.args.protect) [
      | then-protect w ↦ ap is_writable w.phase-is ∙ ap not (sym w.if-protect.true)
      | else-protect w ↦ ap is_writable w.phase-is ∙ ap not (sym w.if-protect.false)
    ] in
    let same = start_same c.args.machine c.args.run c.args.protect c.of.result c.args.room.faults c.args.room.order c.args.room.ends.items c.args.room.picked.items
    c.of-instant.result.value c.of.ensures.machine (c.of.ensures.writable ∙ ap (λ b. replicate (total_pages_of c.args.machine.shape) b) flag)
    c.requires.room.faults c.requires.room.order c.requires.room.ends c.requires.room.picked c.of-instant.ensures in
    let bus = subst IsBus (sym same) (starts c.args.machine c.args.run c.args.protect (subst IsMachine c.of.ensures.machine c.of.ensures.limits) c.requires.rest c.requires.most) in
    record {
      bus = bus;
      pages = ap (λ (f : QueueData). f.pages) c.requires.room.faults ∙ ap (λ (m : MachineData). total_pages_of m.shape) (sym c.of.ensures.machine);
    }

pub returns-clause-limits : goal.returns-clause-limits
returns-clause-limits c =
    let flag : is_writable c.if-protect.phase ≡ not c.args.protect =
    elim c.if-protect.branch as (λ _. is_writable c.if-protect.phase ≡ not c.args.protect) [
      | then-protect w ↦ ap is_writable w.phase-is ∙ ap not (sym w.if-protect.true)
      | else-protect w ↦ ap is_writable w.phase-is ∙ ap not (sym w.if-protect.false)
    ] in
    let same = start_same c.args.machine c.args.run c.args.protect c.of.result c.args.room.faults c.args.room.order c.args.room.ends.items c.args.room.picked.items
    c.of-instant.result.value c.of.ensures.machine (c.of.ensures.writable ∙ ap (λ b. replicate (total_pages_of c.args.machine.shape) b) flag)
    c.requires.room.faults c.requires.room.order c.requires.room.ends c.requires.room.picked c.of-instant.ensures in
    let bus = subst IsBus (sym same) (starts c.args.machine c.args.run c.args.protect (subst IsMachine c.of.ensures.machine c.of.ensures.limits) c.requires.rest c.requires.most) in
    bus
