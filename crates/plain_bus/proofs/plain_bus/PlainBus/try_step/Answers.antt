use Rattle.std.proofs.Common.{◌≡◌, ◌<◌, sym, ◌∙◌, ap, subst, false}
use Rattle.ram_block.specs.Shape.{total_pages_of}
use Rattle.plain_bus.specs.Bus.{BusData, IsBus, LeavesTry, phase_ended}
use Rattle.plain_bus.specs.Inside.{bus_of}
use Rattle.plain_bus.specs.declared.answer.StepAnswer.TheVariants.{Done, Stopped}
use Rattle.plain_bus.proofs.Bus.{try_idle}
use Rattle.plain_bus.proofs.Steps.{done_at, goes_at, stopped_at, stopped_within}
use Rattle.plain_bus.proofs.plain_bus.PlainBus.try_step.Goals as goal

pub returns-then-ended : goal.returns-then-ended
returns-then-ended c =
    try_idle c.args.self.now c.args.k (subst IsBus c.self.view_is c.self.invariant.bus) c.requires (sym c.ended.ensures.here ∙ c.if-ended.true)

pub step-requires-clause-clock : goal.step-requires-clause-clock
step-requires-clause-clock c =
    (goes_at (bus_of c.self.inside) c.args.self.now c.args.k c.ended.result c.self.view_is c.self.invariant.bus c.requires c.ended.ensures.here c.if-ended.false).clock

pub step-requires-clause-steps : goal.step-requires-clause-steps
step-requires-clause-steps c =
    (goes_at (bus_of c.self.inside) c.args.self.now c.args.k c.ended.result c.self.view_is c.self.invariant.bus c.requires c.ended.ensures.here c.if-ended.false).steps

pub step-requires-clause-runs : goal.step-requires-clause-runs
step-requires-clause-runs c =
    (goes_at (bus_of c.self.inside) c.args.self.now c.args.k c.ended.result c.self.view_is c.self.invariant.bus c.requires c.ended.ensures.here c.if-ended.false).runs

pub note_event-requires-clause-room : goal.note_event-requires-clause-room
note_event-requires-clause-room c =
    (goes_at (bus_of c.self.inside) c.args.self.now c.args.k c.ended.result c.self.view_is c.self.invariant.bus c.requires c.ended.ensures.here c.if-ended.false).room

pub invariant_of-self : goal.invariant_of-self
invariant_of-self c =
    let there : c.args.k < c.self.inside.cells.machine.shape.vcpus = subst (λ (d : BusData). c.args.k < d.machine.shape.vcpus) (sym c.self.view_is) c.requires in
    let off : phase_ended (bus_of c.self.inside) c.args.k ≡ false =
    ap (λ (d : BusData). phase_ended d c.args.k) c.self.view_is ∙ sym c.ended.ensures.here ∙ c.if-ended.false in
    let left = done_at (bus_of c.self.inside) c.args.k c.step.result c.step.new.self c.note_event.new.order c.self.invariant.bus there off c.step.ensures.stopped c.in-None.is
    c.step.ensures.event c.step.ensures.limits c.note_event.ensures in
    record {
      bus = left.limits;
      pages = c.self.invariant.pages ∙ ap total_pages_of (c.self.invariant.bus.shape ∙ sym left.limits.shape);
    }

pub note_stop-requires : goal.note_stop-requires
note_stop-requires c =
    let within = stopped_within c.self.inside.cells.machine c.self.inside.cells.writable c.args.k c.in-Some.page (sym c.in-Some.is ∙ c.step.ensures.stopped) in
    subst (λ n. c.in-Some.page < n) (c.self.invariant.bus.writable ∙ sym c.self.invariant.pages) within

pub returns-in-None : goal.returns-in-None
returns-in-None c =
    let there : c.args.k < c.self.inside.cells.machine.shape.vcpus = subst (λ (d : BusData). c.args.k < d.machine.shape.vcpus) (sym c.self.view_is) c.requires in
    let off : phase_ended (bus_of c.self.inside) c.args.k ≡ false =
    ap (λ (d : BusData). phase_ended d c.args.k) c.self.view_is ∙ sym c.ended.ensures.here ∙ c.if-ended.false in
    let left = done_at (bus_of c.self.inside) c.args.k c.step.result c.step.new.self c.note_event.new.order c.self.invariant.bus there off c.step.ensures.stopped c.in-None.is
    c.step.ensures.event c.step.ensures.limits c.note_event.ensures in
    subst
    (λ (d : BusData). LeavesTry d c.args.k Done
    (record (bus_of c.self.inside) { machine = c.step.new.self.machine; writable = c.step.new.self.writable; order = c.note_event.new.order }))
    c.self.view_is left

pub returns-in-Some : goal.returns-in-Some
returns-in-Some c =
    let there : c.args.k < c.self.inside.cells.machine.shape.vcpus = subst (λ (d : BusData). c.args.k < d.machine.shape.vcpus) (sym c.self.view_is) c.requires in
    let off : phase_ended (bus_of c.self.inside) c.args.k ≡ false =
    ap (λ (d : BusData). phase_ended d c.args.k) c.self.view_is ∙ sym c.ended.ensures.here ∙ c.if-ended.false in
    let left = stopped_at (bus_of c.self.inside) c.args.k c.in-Some.page c.step.result c.step.new.self c.note_stop.new.faults c.self.inside.faults.pages
    c.note_stop.new.blocked c.self.invariant.bus there off c.step.ensures.stopped c.in-Some.is c.step.ensures.event c.note_stop.ensures.queue
    c.self.invariant.pages c.note_stop.ensures.kept c.note_stop.ensures.blocked in
    subst
    (λ (d : BusData). LeavesTry d c.args.k (Stopped c.in-Some.page)
    (record (bus_of c.self.inside) {
      machine = c.step.new.self.machine;
      writable = c.step.new.self.writable;
      queue = c.note_stop.new.faults.list;
      blocked = c.note_stop.new.blocked;
    }))
    c.self.view_is left
